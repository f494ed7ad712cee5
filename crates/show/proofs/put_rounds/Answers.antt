-- `show::put_rounds` meets its contract: a space stands before each. Assumes nothing.
use Rattle.show.specs.Cells.{cells_text}
use Rattle.show.proofs.put_rounds.Goals as goal

pub returns : goal.returns
unfolding cells_text
returns c = c.put_each.ensures
