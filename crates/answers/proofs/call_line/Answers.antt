-- `call_line` meets its contract: what is written from the buffer's front on is the call's line. Assumes nothing.
use mathlib.Core.Path.{sym, ◌∙◌}
use borrow.Author.Rules.{rules}
use Rattle.text.proofs.Writing.{written_front}
use Rattle.answers.proofs.call_line.Goals as goal

pub returns : goal.returns
returns c =
    let same_buffer = sym (c.put_call.ensures.same_buffer ∙ c.new-text.ensures.same_buffer) in
    written_front c.put_call.ensures c.new-text.ensures.buffer c.new-text.ensures.len (search rules) c.len.ensures
