-- The verdict as C and Rust see it, of a plain board and of one that shows its mine total. Where there is room for two counts, demand 3 holds of them and of the
-- picture, as the contract of the call in Rattle has it of the answer; where there is room for three, the third, the grade, is 4 exactly where the first says no; and
-- where there is room for four, the rounds of the cells tell what they tell a caller in Rattle, beside the picture and the fourth. Assumes nothing.
use Rattle.std.specs.Prelude.{Ok, Err}
use mathlib.Core.Path.{◌≡◌, refl}
use mathlib.Core.Logic.{◌↔◌}
use mathlib.Core.Bool.{Bool, true, false}
use mathlib.Core.List.{List, [], ◌∷◌}
use Prim.Native.Nat.{ℕ, ◌<◌}
use native.Mathlib.Omega.{arith}
use lib.Dec.{eqb}
use lib.ListN.{length, get_or}
use borrow.Author.Tests.{eqb-false}
use Rattle.lists.specs.Lists.{bit}
use Rattle.lists.proofs.Tests.{clash}
use Rattle.grid.specs.Window.{flat, neighbours}
use Rattle.refusals.specs.Refusals.{Accepted, refusal_number}
use Rattle.refusals.specs.Tests.{board_tested, start_cell}
use Rattle.refusals.proofs.FirstFailure.{refusal_not_zero}
use Rattle.fitting.specs.Demand.{Demand3Among}
use Rattle.fitting.specs.Passes.{GradedCells}
use Rattle.enumeration.specs.ThreeRules.{three_rules}
use Rattle.rounds.proofs.Rounds.{RoundTells}
use Rattle.verdict.specs.Verdict.{VerdictAnswer, verdict_number, verdict_values, verdict_yes, verdict_opened, verdict_grade, verdict_rounds, VerdictSeen, is_solvable, is_solvable_total}
use Rattle.verdict.proofs.Bounds.{grade_tells}
use Rattle.verdict.proofs.DemandThree.{answer_demand_3}
use Rattle.verdict.proofs.RoundsTold.{answer_rounds}
use Rattle.verdict.specs.Rules.{four_rules}
use Rattle.verdict.proofs.TotalAnswers.{total_grade_tells, total_answer_demand_3, total_answer_rounds}
use Rattle.export.specs.Returned.{Returned, laid, verdict_returned}
use Rattle.export.proofs.StoredCounts.{count_stored}

-- ---- of any answer

-- demand 3 of the first two counts
pub counted_demand_3 : {near : ℕ → List ℕ} {also : List Bool → Bool} {b shown : List ℕ} (counts : List ℕ) {after : List ℕ} {s : ℕ} (v : VerdictAnswer)
    → (length (verdict_values v) ≡ 4) × Demand3Among near also b s (verdict_yes v) (verdict_opened v) shown → after ≡ laid (verdict_values v) counts → 1 < length counts
    → Demand3Among near also b s (eqb (get_or after 0 0) 1) (get_or after 1 0) shown
counted_demand_3 counts v (four, meets) is room =
    rw (is, count_stored (verdict_values v) counts 0 (omega (arith, four)) (omega (arith, room)), count_stored (verdict_values v) counts 1 (omega (arith, four)) room) meets

-- the third count is 4 exactly where the first is 0
graded : (v : VerdictAnswer) (counts : List ℕ) → (verdict_number v ≡ 0 → (verdict_grade v ≡ 4) ↔ (verdict_yes v ≡ false)) → verdict_number v ≡ 0 → 2 < length counts
    → (get_or (laid (verdict_values v) counts) 2 0 ≡ 4) ↔ (get_or (laid (verdict_values v) counts) 0 0 ≡ 0)
graded (Err r) counts tells answered room = absurd (eqb-false (refusal_number r) 0 (refusal_not_zero r) answered)
graded (Ok j) counts tells answered room =
    let values = bit j.yes ∷ j.opened ∷ j.grade ∷ j.rounds ∷ [] in
    rw (count_stored values counts 0 (omega arith) (omega (arith, room)), count_stored values counts 2 (omega arith) room) (go j.yes (tells refl))
  where
    go : (v : Bool) → (j.grade ≡ 4) ↔ (eqb (bit v) 1 ≡ false) → (j.grade ≡ 4) ↔ (bit v ≡ 0)
    go true (there, back) = (λ e. clash true refl (there e), λ e. absurd (omega (arith, e)))
    go false (there, back) = (λ _. refl, λ _. back refl)

module _ (seen : VerdictSeen) (counts : List ℕ) (after : Returned) (is : after ≡ verdict_returned seen counts) where
  grade_counted : (verdict_number seen.answer ≡ 0 → (verdict_grade seen.answer ≡ 4) ↔ (verdict_yes seen.answer ≡ false)) → after.number ≡ 0 → 2 < length counts
      → (get_or after.counts 2 0 ≡ 4) ↔ (get_or after.counts 0 0 ≡ 0)
  unfolding verdict_returned
  grade_counted tells answered room = rw is (graded seen.answer counts tells (rw is at answered) room)

  -- what the round of a cell tells, in the second slice, beside the picture in the first and the fourth count
  rounds_counted : {near : ℕ → List ℕ} {b : List ℕ} {rule : List ℕ → GradedCells} {s c : ℕ} → length (verdict_values seen.answer) ≡ 4 → 3 < length counts
      → RoundTells near b rule s seen.shown (verdict_rounds seen.answer) c (get_or seen.opened_in c 65535)
      → RoundTells near b rule s (get_or after.lent 0 []) (get_or after.counts 3 0) c (get_or (get_or after.lent 1 []) c 65535)
  unfolding verdict_returned
  rounds_counted four room tells = rw (is, count_stored (verdict_values seen.answer) counts 3 (omega (arith, four)) room) tells

-- ---- of the two calls

module _ (rows columns row column : ℕ) (b shown opened_in counts : List ℕ) (after : Returned) where
  -- a plain board
  pub counted_grade : after ≡ verdict_returned (is_solvable flat rows columns row column b shown opened_in) counts → after.number ≡ 0 → 2 < length counts
      → (get_or after.counts 2 0 ≡ 4) ↔ (get_or after.counts 0 0 ≡ 0)
  counted_grade is = grade_counted _ counts after is (grade_tells flat rows columns row column b shown opened_in).four

  -- an accepted board has its four values
  pub counted_rounds : after ≡ verdict_returned (is_solvable flat rows columns row column b shown opened_in) counts
      → board_tested flat rows columns row column b (length shown ∷ length opened_in ∷ []) ≡ Accepted → 3 < length counts → (c : ℕ) → c < length b
      → RoundTells (neighbours flat rows columns) b (three_rules (neighbours flat rows columns)) (start_cell columns row column)
      (get_or after.lent 0 []) (get_or after.counts 3 0) c (get_or (get_or after.lent 1 []) c 65535)
  counted_rounds is accepted room c on =
      let seen = is_solvable flat rows columns row column b shown opened_in in
      rounds_counted seen counts after is (answer_demand_3 flat rows columns row column b shown opened_in accepted seen.answer seen.shown seen.opened_in refl).0 room
      (answer_rounds flat rows columns row column b shown opened_in accepted seen.answer seen.shown seen.opened_in refl c on)

  -- one that shows its mine total
  pub counted_grade_total : after ≡ verdict_returned (is_solvable_total rows columns row column b shown opened_in) counts → after.number ≡ 0 → 2 < length counts
      → (get_or after.counts 2 0 ≡ 4) ↔ (get_or after.counts 0 0 ≡ 0)
  counted_grade_total is = grade_counted _ counts after is (total_grade_tells rows columns row column b shown opened_in).four

  pub counted_rounds_total : after ≡ verdict_returned (is_solvable_total rows columns row column b shown opened_in) counts
      → board_tested flat rows columns row column b (length shown ∷ length opened_in ∷ []) ≡ Accepted → 3 < length counts → (c : ℕ) → c < length b
      → RoundTells (neighbours flat rows columns) b (four_rules (neighbours flat rows columns) b) (start_cell columns row column)
      (get_or after.lent 0 []) (get_or after.counts 3 0) c (get_or (get_or after.lent 1 []) c 65535)
  counted_rounds_total is accepted room c on =
      let seen = is_solvable_total rows columns row column b shown opened_in in
      rounds_counted seen counts after is (total_answer_demand_3 rows columns row column b shown opened_in accepted seen.answer seen.shown seen.opened_in refl).0 room
      (total_answer_rounds rows columns row column b shown opened_in accepted seen.answer seen.shown seen.opened_in refl c on)
