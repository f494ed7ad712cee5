-- `chunks::mark_all` meets its contract. The loop's invariant is told beside it. Assumes nothing.
use mathlib.Core.Path.{◌∙◌}
use mathlib.Core.List.{[], ◌∷◌, ◌++◌}
use native.Mathlib.Omega.{arith}
use lib.ListN.{length-set}
use borrow.Author.Tests.{eq-eqb, ne_eqb}
use Rattle.std.proofs.lemmas.Grind.{common_steps}
use Rattle.lists.proofs.Arrays.{drop_next}
use Rattle.blocks.proofs.MarkLaws.{marks_push}
use Rattle.chunks.proofs.Marking.{towards_pass, towards_new, adding_old, adding_new}
use Rattle.chunks.proofs.mark_all.Goals as goal
use Rattle.chunks.proofs.mark_all.Goals.{else-marks-c-ne1, then-marks-c-ne1}

pub loop-cell-preserved : goal.loop-cell-preserved
loop-cell-preserved c =
    let loop = c.loop-cell in
    let cell = c.wide-c.result in
    let more = drop_next c.as_slice-cell-items.result.now loop.cell-index 0 cell c.loop-cell-test.true c.wide-c.ensures in
    elim c.if-marks-c-ne1.branch [
      | then-marks-c-ne1 w ↦ rw (w.marks-is, w.new-is) (
        length-set loop.marks cell 1 ∙ loop.invariant.0,
        λ l h.
            towards_new (loop.invariant.1 l h) (λ x. x ++ (cell ∷ [])) (adding_new loop.marks cell more (ne_eqb _ _ w.if-marks-c-ne1.true))
            (λ x k. marks_push loop.marks x cell (grind (arith, common_steps)) k),
      )
      | else-marks-c-ne1 w ↦ rw (w.marks-is, w.new-is) (loop.invariant.0, λ l h. towards_pass (loop.invariant.1 l h) (adding_old loop.marks cell more (eq-eqb _ _ w.if-marks-c-ne1.false)))
    ]
