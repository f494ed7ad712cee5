-- `marks::left::left_rest` meets its contract: at most eight cells are marked, so their number fits a byte. Assumes nothing.
use native.Mathlib.Omega.{arith}
use lib.ListN.{take, length-take}
use Rattle.lists.proofs.Counts.{count_le}
use Rattle.blocks.specs.Places.{marked}
use Rattle.marks.proofs.left.left_rest.Goals as goal

pub overflow_cast-count_marked : goal.overflow_cast-count_marked
overflow_cast-count_marked c = omega (arith, count_le (marked c.args.mines.now) (take c.args.list.len c.args.list.cells), length-take c.args.list.len c.args.list.cells)
