-- `marks::left::left_list` meets its contract. The loop's invariant: the array holds the cells so far that are not known. Rests on the laws of kept items.
-- Assumes nothing.
use Prim.Native.Nat.{ℕ, ◌<◌}
use mathlib.Core.Path.{sym, ap}
use mathlib.Core.Bool.{Bool}
use native.Mathlib.Omega.{arith}
use lib.Dec.{eqb}
use lib.ListN.{length, get_or, length-take}
use borrow.Author.Tests.{eq-eqb, ne_eqb}
use Rattle.lists.proofs.ByItems.{kept_stored, kept_same, kept_few}
use Rattle.marks.proofs.left.left_list.Goals as goal
use Rattle.marks.proofs.left.left_list.Goals.{In-loop-cell, then-known-wide-eq0, else-known-wide-eq0}

-- there is room for one more
room : (c : In-loop-cell) → c.loop-cell.len < 8
room c =
    let items = c.as_slice-cell-items in
    omega (
      arith,
      kept_few items.result.now c.loop-cell.cell-index (λ d. eqb (get_or c.args.known.now d 0) 0),
      ap length items.ensures,
      length-take c.args.list.len c.args.list.cells,
    )

pub offset_bounds-cells-len : goal.offset_bounds-cells-len
offset_bounds-cells-len c = omega (arith, room (goal.at.offset_bounds-cells-len c).In-loop-cell)

pub bounds-cells-len : goal.bounds-cells-len
bounds-cells-len c = room (goal.at.bounds-cells-len c).In-loop-cell

pub overflow_add-len : goal.overflow_add-len
overflow_add-len c = omega (arith, room (goal.at.overflow_add-len c).In-loop-cell)

pub loop-cell-preserved : goal.loop-cell-preserved
loop-cell-preserved c =
    let loop = c.loop-cell in
    let unknown : ℕ → Bool = λ d. eqb (get_or c.args.known.now d 0) 0 in
    elim c.if-known-wide-eq0.branch [
      | then-known-wide-eq0 w ↦ rw (w.cells-is, w.len-is, sym c.wide.ensures)
          (kept_stored _ _ _ c.loop-cell-test.true c.wide.ensures unknown loop.invariant.0 loop.invariant.1 (room (goal.at.loop-cell-preserved c).In-loop-cell) (eq-eqb _ _ w.if-known-wide-eq0.true))
      | else-known-wide-eq0 w ↦ rw (w.cells-is, w.len-is, kept_same _ _ _ c.loop-cell-test.true c.wide.ensures unknown (ne_eqb _ _ w.if-known-wide-eq0.false)) loop.invariant
    ]
