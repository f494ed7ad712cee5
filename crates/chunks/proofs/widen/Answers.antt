-- `chunks::widen` meets its contract. The loop's invariant is told beside it. Assumes nothing.
use mathlib.Core.Path.{sym, ap, ◌∙◌}
use mathlib.Core.List.{List}
use Rattle.blocks.specs.Blocks.{BlockEquation}
use Rattle.blocks.proofs.Between.{equations_none}
use Rattle.chunks.specs.Chunks.{widened}
use Rattle.chunks.proofs.Looked.{look_pass, look_add}
use Rattle.chunks.proofs.Marking.{towards_end, towards_pass, towards_new, towards_changed}
use Rattle.chunks.proofs.widen.Goals as goal
use Rattle.chunks.proofs.widen.Goals.{else-meets_marks, then-meets_marks+else-mark_all, then-meets_marks+then-mark_all}

pub loop-e-preserved : goal.loop-e-preserved
loop-e-preserved c =
    let loop = c.loop-e in
    let set = c.args.set.now in
    let end = c.args.bounds.end_equation in
    let test = c.loop-e-test.true in
    let is = c.slots_at-list.ensures in
    let met = sym c.meets_marks.ensures in
    elim c.if-meets_marks.branch [
      | then-meets_marks+then-mark_all w ↦ rw (w.marks-is, w.new-is) (
        w.mark_all.ensures.whole,
        λ l h. towards_new (loop.invariant.1 l h) _ (look_add _ set.slots loop.e is set.rests loop.marks end test (met ∙ w.if-meets_marks.true)) w.mark_all.ensures.marks,
      )
      | then-meets_marks+else-mark_all w ↦ rw (w.marks-is, w.new-is) (
        w.mark_all.ensures.whole,
        λ l h. towards_changed (loop.invariant.1 l h) (look_add _ set.slots loop.e is set.rests loop.marks end test (met ∙ w.if-meets_marks.true)) w.mark_all.ensures w.if-mark_all.false,
      )
      | else-meets_marks w ↦ rw (w.marks-is, w.new-is) (
        loop.invariant.0,
        λ l h. towards_pass (loop.invariant.1 l h) (look_pass _ set.slots loop.e is set.rests loop.marks end test (met ∙ w.if-meets_marks.false)),
      )
    ]

pub returns : goal.returns
returns c =
    let loop = c.loop-e in
    let none = equations_none c.args.set.now.slots c.args.set.now.rests loop.e c.args.bounds.end_equation c.loop-e-test.false in
    record {
      whole = loop.invariant.0;
      marks = λ l h. (towards_end (loop.invariant.1 l h) (λ x. ap (λ (es : List BlockEquation). widened es x) none)).0;
      same = λ l h. (towards_end (loop.invariant.1 l h) (λ x. ap (λ (es : List BlockEquation). widened es x) none)).1;
    }
