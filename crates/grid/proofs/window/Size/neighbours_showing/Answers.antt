-- `grid::window::Size::neighbours_showing` meets its contract. The loop's invariant: what is kept so far and what is still to be kept are all the neighbours that
-- show the value; these are at most eight. Rests on `near_items`, `near_item_on` and the laws of `Collected`. Assumes nothing.
use Prim.Native.Nat.{ℕ, ◌+◌, ◌≤◌}
use mathlib.Core.Path.{◌∙◌}
use mathlib.Core.Bool.{Bool}
use mathlib.Core.List.{◌∷◌}
use native.Mathlib.Omega.{arith}
use lib.Dec.{eqb}
use lib.ListN.{length, drop}
use borrow.Author.Tests.{eq-eqb, ne_eqb}
use Rattle.lists.specs.Lists.{keep}
use Rattle.lists.proofs.Arrays.{drop_next}
use Rattle.lists.proofs.Collected.{Collected, keep_few, collected_room, collected_push}
use Rattle.grid.specs.Cells.{cell_of}
use Rattle.grid.proofs.Neighbours.{neighbours_few}
use Rattle.grid.proofs.Listed.{near_items, near_item_on}
use Rattle.grid.proofs.window.Size.neighbours_showing.Goals as goal
use Rattle.grid.proofs.window.Size.neighbours_showing.Goals.{After-from, Then-cells-from, else-cells-from, then-cells-from}

pub bounds-cells-from : goal.bounds-cells-from
bounds-cells-from c =
    omega (arith, near_item_on _ _ _ _ _ _ c.requires.on c.neighbours_of-near.ensures _ _ _ c.as_slice-cell-items.ensures c.loop-cell-test.true c.from.ensures, c.requires.board.whole)

-- the value is shown there
abbrev shown : After-from → ℕ → Bool
shown c d = eqb (cell_of c.args.cells.now d) c.args.value

-- at most eight neighbours show it
few : (c : After-from) → length (keep (shown c) c.as_slice-cell-items.result.now) ≤ 8
few c =
    let same = c.as_slice-cell-items.ensures ∙ near_items _ _ _ _ _ _ c.requires.on c.neighbours_of-near.ensures in
    keep_few (shown c) c.as_slice-cell-items.result.now (rw same (neighbours_few _ _ _ _))

-- what is still to be kept, with the cell apart
apart : (c : After-from)
    → Collected 8 c.loop-cell.kept.cells c.loop-cell.kept.len
    (keep (shown c) (c.from.result ∷ drop (c.loop-cell.cell-index + 1) c.as_slice-cell-items.result.now))
    (keep (shown c) c.as_slice-cell-items.result.now)
apart c =
    let next = drop_next c.as_slice-cell-items.result.now c.loop-cell.cell-index 0 c.from.result c.loop-cell-test.true c.from.ensures in
    rw next at c.loop-cell.invariant

pub push-requires : goal.push-requires
push-requires c =
    let at = (goal.at.push-requires c).After-from in
    collected_room (rw (eq-eqb _ _ c.if-cells-from.true) at (apart at)) (few at)

pub loop-cell-preserved : goal.loop-cell-preserved
loop-cell-preserved c =
    let at = (goal.at.loop-cell-preserved c).After-from in
    let value = c.from.ensures in
    elim c.if-cells-from.branch [
      | then-cells-from w ↦ rw (w.kept-is, w.push.ensures, ← value) (collected_push (rw (eq-eqb _ _ w.if-cells-from.true) at (apart at)) (few at))
      | else-cells-from w ↦ rw w.kept-is (rw (ne_eqb _ _ w.if-cells-from.false) at (apart at))
    ]
