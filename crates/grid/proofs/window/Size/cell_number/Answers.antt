-- `grid::window::cell_number` meets its contract: the row and the column are on the board, so the sum is below the board's size, which is at most 1024.
-- Assumes nothing.
use Prim.Native.Nat.{◌+◌, ◌*◌, ◌<◌, ◌≤◌}
use native.Mathlib.Omega.{arith}
use Rattle.grid.proofs.Neighbours.{cell_on}
use Rattle.grid.proofs.window.Size.cell_number.Goals as goal
use Rattle.grid.proofs.window.Size.cell_number.Goals.{Start}

here : (c : Start) → (c.args.row * c.args.self.columns + c.args.column < c.args.self.rows * c.args.self.columns) × (c.args.self.rows * c.args.self.columns ≤ 1024)
here c = cell_on _ _ _ _ c.requires.sized c.requires.on

pub overflow_mul-result : goal.overflow_mul-result
overflow_mul-result c = omega (arith, here (goal.at.overflow_mul-result c).Start)

pub overflow_add-result : goal.overflow_add-result
overflow_add-result c = omega (arith, here (goal.at.overflow_add-result c).Start)

pub returns : goal.returns
returns c = omega (arith, here (goal.at.returns c).Start)
