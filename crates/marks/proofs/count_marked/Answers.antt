-- `marks::count_marked` meets its contract. The loop's invariant: what is counted are the marked cells so far. Assumes nothing.
use native.Mathlib.Omega.{arith}
use lib.ListN.{take, length-take}
use borrow.Author.Tests.{eq-eqb, ne_eqb}
use Rattle.lists.proofs.Counts.{count_le}
use Rattle.lists.proofs.ByItems.{count_more}
use Rattle.blocks.specs.Places.{marked}
use Rattle.marks.proofs.count_marked.Goals as goal
use Rattle.marks.proofs.count_marked.Goals.{else-marks-wide-eq1, then-marks-wide-eq1}

pub overflow_add-found : goal.overflow_add-found
overflow_add-found c =
    let items = c.as_slice-cell-items.result.now in
    let k = c.loop-cell.cell-index in
    omega (arith, count_le (marked c.args.marks.now) (take k items), length-take k items)

pub loop-cell-preserved : goal.loop-cell-preserved
loop-cell-preserved c =
    let more = count_more _ _ _ c.loop-cell-test.true c.wide.ensures (marked c.args.marks.now) in
    elim c.if-marks-wide-eq1.branch [
      | then-marks-wide-eq1 w ↦ rw w.found-is (omega (arith, rw (eq-eqb _ _ w.if-marks-wide-eq1.true) at more))
      | else-marks-wide-eq1 w ↦ rw w.found-is (omega (arith, rw (ne_eqb _ _ w.if-marks-wide-eq1.false) at more))
    ]
