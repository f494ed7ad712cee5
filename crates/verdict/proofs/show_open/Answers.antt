-- `show_open` meets its contract. The loop's invariant: the first i cells are shown, and counted where they are open (`Showing`). Rests on CellByCell. Assumes nothing.
use mathlib.Core.Path.{refl}
use native.Mathlib.Omega.{arith}
use Rattle.verdict.proofs.CellByCell.{showing_few, showing_open, showing_shut}
use Rattle.verdict.proofs.show_open.Goals as goal
use Rattle.verdict.proofs.show_open.Goals.{then-cell-le8, else-cell-le8}

pub overflow_add-opened : goal.overflow_add-opened
overflow_add-opened c = omega (arith, showing_few c.loop-i.invariant, c.loop-i-test.true)

pub loop-i-preserved : goal.loop-i-preserved
loop-i-preserved c =
    elim c.if-cell-le8.branch [
      | then-cell-le8 w ↦ rw (w.picture-is, w.opened-is) (showing_open c.loop-i.invariant c.loop-i-test.true refl w.if-cell-le8.true)
      | else-cell-le8 w ↦ rw (w.picture-is, w.opened-is) (showing_shut c.loop-i.invariant c.loop-i-test.true refl w.if-cell-le8.false)
    ]
