-- `put_word` meets its contract: the verdict decides between two words. Assumes nothing.
use Rattle.record_lines.proofs.put_word.Goals as goal

pub returns-then-yes : goal.returns-then-yes
returns-then-yes c = rw c.if-yes.true c.bytes.ensures

pub returns : goal.returns
returns c = rw c.if-yes.false c.bytes-2.ensures
