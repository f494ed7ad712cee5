-- `put_header` meets its contract: the buffer has room for the header. Assumes nothing.
use mathlib.Core.Path.{sym, ◌∙◌}
use Rattle.text.proofs.Writing.{written_front, written_length}
use Rattle.run.proofs.OneLine.{header_at_front}
use borrow.Author.Rules.{rules}
use Rattle.run.proofs.put_header.Goals as goal

pub returns : goal.returns
returns c =
    let same_buffer = sym (c.bytes.ensures.same_buffer ∙ c.new-text.ensures.same_buffer) in
    let w = written_front c.bytes.ensures c.new-text.ensures.buffer c.new-text.ensures.len (search rules) c.len.ensures in
    record { at_front = header_at_front c.requires w; out_len_unchanged = written_length w }
