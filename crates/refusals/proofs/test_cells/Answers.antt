-- `test_cells` meets its contract: the size that test 2 measures with has passed test 1. Assumes nothing.
use Rattle.refusals.proofs.Sides.{size_ok_sized}
use mathlib.Core.Path.{sym}
use Rattle.refusals.proofs.test_cells.Goals as goal

pub length_ok-requires : goal.length_ok-requires
length_ok-requires c = size_ok_sized _ _ _ (sym c.if-not-size_ok.ensures)
