-- `grid::window::Size::count_beside` meets its contract. The loop's invariant: those found and those still to be found are as many as all neighbours that show
-- the value. Rests on `near_items`, `near_item_on`. Assumes nothing.
use native.Mathlib.Omega.{arith}
use Rattle.grid.proofs.Listed.{near_item_on}
use Rattle.grid.proofs.window.Size.count_beside.Goals as goal

pub bounds-cells-from : goal.bounds-cells-from
bounds-cells-from c =
    omega (arith, near_item_on _ _ _ _ _ _ c.requires.on c.neighbours_of-near.ensures _ _ _ c.as_slice-neighbour-items.ensures c.loop-neighbour-test.true c.from.ensures, c.requires.board.whole)
