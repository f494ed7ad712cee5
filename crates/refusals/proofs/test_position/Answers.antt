-- `test_position` meets its contract: from 10 to 12 the shared tests of cells are those of a position, by definition. Assumes nothing.
use Rattle.refusals.specs.Tests.{position_cells_ok, position_tested}
use Rattle.refusals.proofs.test_position.Goals as goal

pub returns : goal.returns
unfolding position_cells_ok position_tested
returns c = c.test_cells.ensures
