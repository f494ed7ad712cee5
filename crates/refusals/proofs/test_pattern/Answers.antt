-- `test_pattern` meets its contract: from 255 to 255 the shared tests of cells are those of a board. Assumes nothing.
use Rattle.refusals.specs.Tests.{pattern_tested}
use Rattle.refusals.proofs.CellValues.{board_cells_in}
use Rattle.refusals.proofs.test_pattern.Goals as goal

pub returns : goal.returns
unfolding pattern_tested
returns c = rw (← board_cells_in _) c.test_cells.ensures
