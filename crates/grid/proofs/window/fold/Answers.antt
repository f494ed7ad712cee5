-- `grid::window::fold` meets its contract. Assumes nothing.
use native.Mathlib.Omega.{arith}
use Rattle.grid.proofs.Lines.{fold_below, fold_past}
use Rattle.grid.proofs.window.fold.Goals as goal

pub returns-then-i-size : goal.returns-then-i-size
returns-then-i-size c = let h = c.if-i-size.true in (fold_below _ _ h, h)

pub returns-else-i-size : goal.returns-else-i-size
returns-else-i-size c = let h = c.if-i-size.false in (fold_past _ _ (omega arith), omega arith)
