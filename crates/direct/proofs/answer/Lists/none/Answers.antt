-- `direct::answer::Lists::none` meets its contract: neither list has a cell. Assumes nothing.
use Rattle.direct.specs.Answers.{lists_of}
use Rattle.direct.proofs.answer.Lists.none.Goals as goal

pub returns : goal.returns
unfolding lists_of
returns c = rw (c.none.ensures, c.none-2.ensures)
