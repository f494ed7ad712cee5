-- `put_answer` meets its contract: no line has more than 88 bytes, so the buffer has room for all of it. Assumes nothing.
use mathlib.Core.Path.{sym, ◌∙◌}
use Rattle.text.proofs.Writing.{written_front}
use Rattle.run.proofs.OneLine.{line_at_front}
use borrow.Author.Rules.{rules}
use Rattle.run.proofs.put_answer.Goals as goal

pub returns : goal.returns
returns c =
    let same_buffer = sym (c.put_line.ensures.same_buffer ∙ c.new-text.ensures.same_buffer) in
    let w = written_front c.put_line.ensures c.new-text.ensures.buffer c.new-text.ensures.len (search rules) c.len.ensures in
    line_at_front c.requires.0 _ _ _ _ w c.tally_of.ensures
