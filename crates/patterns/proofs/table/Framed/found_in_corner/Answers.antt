-- `found_in_corner` meets its contract: that each table's links are right, and that it lists the shapes of its corner, is computed. Assumes nothing.
use mathlib.Core.Path.{refl, ◌∙◌}
use mathlib.Core.Logic.{inl, inr}
use Rattle.patterns.specs.Walk.{links_right}
use Rattle.patterns.proofs.Corners.{before_last, last_corner}
use Rattle.patterns.proofs.table.Framed.found_in_corner.Goals as goal
use Rattle.patterns.proofs.table.Framed.found_in_corner.Goals.{then-found_at, else-found_at, then-found_at-2, else-found_at-2}

pub found_at-requires-clause-links : goal.found_at-requires-clause-links
unfolding links_right
found_at-requires-clause-links c = refl

pub found_at-requires-else-found_at-clause-links : goal.found_at-requires-else-found_at-clause-links
unfolding links_right
found_at-requires-else-found_at-clause-links c = refl

pub found_at-requires-else-found_at-2-clause-links : goal.found_at-requires-else-found_at-2-clause-links
unfolding links_right
found_at-requires-else-found_at-2-clause-links c = refl

pub found_at-requires-else-found_at-3-clause-links : goal.found_at-requires-else-found_at-3-clause-links
unfolding links_right
found_at-requires-else-found_at-3-clause-links c = refl

pub returns-then-found_at-3 : goal.returns-then-found_at-3
returns-then-found_at-3 c =
    before_last _ _ _ c.found_at.ensures
    (elim c.if-found_at.branch [
      | then-found_at w ↦ inl (w.if-found_at.true, w.value-is)
      | else-found_at w ↦ inr (w.if-found_at.false, w.value-is ∙ w.found_at-else-found_at.ensures)
    ])
    (elim c.if-found_at-2.branch [
      | then-found_at-2 w ↦ inl (w.if-found_at-2.true, w.value-is)
      | else-found_at-2 w ↦ inr (w.if-found_at-2.false, w.value-is ∙ w.found_at-else-found_at-2.ensures)
    ])
    c.if-found_at-3.true

pub returns-else-found_at-3 : goal.returns-else-found_at-3
returns-else-found_at-3 c =
    last_corner _ _ _ c.found_at.ensures
    (elim c.if-found_at.branch [
      | then-found_at w ↦ inl (w.if-found_at.true, w.value-is)
      | else-found_at w ↦ inr (w.if-found_at.false, w.value-is ∙ w.found_at-else-found_at.ensures)
    ])
    (elim c.if-found_at-2.branch [
      | then-found_at-2 w ↦ inl (w.if-found_at-2.true, w.value-is)
      | else-found_at-2 w ↦ inr (w.if-found_at-2.false, w.value-is ∙ w.found_at-else-found_at-2.ensures)
    ])
    c.if-found_at-3.false
    c.found_at-else-found_at-3.ensures
