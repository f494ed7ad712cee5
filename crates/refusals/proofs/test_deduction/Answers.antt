-- `test_deduction` meets its contract: where the size is right a list that is too short fails test 2, whatever the position's length; else test 2 is that of the
-- position alone. Rests on the contracts of the single tests and of `test_position`. Assumes nothing.
use mathlib.Core.Path.{sym}
use mathlib.Core.Bool.{and-false}
use Rattle.refusals.specs.Tests.{deduction_tested}
use Rattle.refusals.proofs.Sides.{size_ok_sized}
use Rattle.refusals.proofs.LaterTests.{deduction_later}
use Rattle.refusals.proofs.test_deduction.Goals as goal
use Rattle.refusals.proofs.test_deduction.Goals.{else-size_ok-via-then-size_ok+else-not-lists_ok, else-size_ok-via-else-size_ok}

pub lists_ok-requires : goal.lists_ok-requires
lists_ok-requires c = size_ok_sized 1 _ _ (sym c.if-size_ok.ensures)

pub returns-then-not-lists_ok : goal.returns-then-not-lists_ok
unfolding deduction_tested
returns-then-not-lists_ok c = rw (← c.if-size_ok.ensures, ← c.if-not-lists_ok.ensures, and-false)

pub returns : goal.returns
returns c =
    let a = c.args in
    rw (
      c.test_position.ensures,
      deduction_later a.size.rows a.size.columns a.position.now a.safe a.mines (λ size. elim c.else-size_ok.branch [
        | else-size_ok-via-then-size_ok+else-not-lists_ok w ↦ sym w.if-not-lists_ok.ensures
        | else-size_ok-via-else-size_ok w ↦ cc
      ]),
    )
