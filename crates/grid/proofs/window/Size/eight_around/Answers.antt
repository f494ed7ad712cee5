-- `window::eight_around` meets its contract: a row and a cell stand before the cell, so that no difference falls below 0. Rests on Inner. Assumes nothing.
use Prim.Native.Nat.{◌+◌, ◌≤◌}
use native.Mathlib.Omega.{arith}
use Rattle.grid.proofs.Inner.{row_above}
use Rattle.grid.proofs.window.Size.eight_around.Goals as goal
use Rattle.grid.proofs.window.Size.eight_around.Goals.{After-cell_number-own}

-- so many cells stand before it
before : (c : After-cell_number-own) → c.args.self.columns + 1 ≤ c.cell_number-own.result
before c = omega (arith, row_above _ _ _ _ c.requires.on c.requires.row_value.0 c.requires.row_value.1, c.cell_number-own.ensures)

pub overflow_sub-above : goal.overflow_sub-above
overflow_sub-above c = omega (arith, before (goal.at.overflow_sub-above c).After-cell_number-own)

pub overflow_sub-cells : goal.overflow_sub-cells
overflow_sub-cells c = omega (arith, before (goal.at.overflow_sub-cells c).After-cell_number-own)

pub overflow_sub-cells-2 : goal.overflow_sub-cells-2
overflow_sub-cells-2 c = omega (arith, before (goal.at.overflow_sub-cells-2 c).After-cell_number-own)

pub returns : goal.returns
returns c = rw c.cell_number-own.ensures.0
