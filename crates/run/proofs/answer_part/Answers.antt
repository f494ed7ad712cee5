-- `answer_part` meets its contract: the loop's invariant is `Underway`, and the measure is what may still be written. Assumes nothing.
use mathlib.Core.Path.{sym, ap, ◌∙◌}
use mathlib.Core.Bool.{not}
use borrow.Author.Tests.{not-false}
use Rattle.run.proofs.Underway.{sum_answers, underway_next}
use Rattle.run.proofs.answer_part.Goals as goal

pub returns-then-not-is_another-clause-answers : goal.returns-then-not-is_another-clause-answers
returns-then-not-is_another-clause-answers c =
    let told = c.answer_from-one.ensures in
    sum_answers _ _ _ _ _ _ _ _ c.loop-part.invariant told.answers told.step told.out_unchanged c.answer_from-one.auto.out _ c.part_sum-part.ensures

pub loop-part-preserved : goal.loop-part-preserved
loop-part-preserved c =
    let told = c.answer_from-one.ensures in
    underway_next _ _ _ _ _ _ _ _ c.loop-part.invariant told.answers told.step told.out_unchanged c.answer_from-one.auto.out _ c.part_sum-part.ensures
    (sym c.is_another.ensures ∙ not-false c.is_another.result (ap not c.if-not-is_another.false))
