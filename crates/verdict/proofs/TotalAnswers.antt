-- What a caller may rely on of the verdict of a board that shows its mine total: demand 3 with the layouts of that total, what the grade tells, and what the rounds of
-- the cells tell; and beside the plain verdict of the same board no less is opened. Rests on DemandThree, Bounds and RoundsTold. Assumes nothing.
use Rattle.std.specs.Prelude.{Err, Ok}
use mathlib.Core.Path.{◌≡◌, refl, ap, ◌∙◌}
use mathlib.Core.Logic.{◌≢◌, inl, inr}
use mathlib.Core.Bool.{true}
use mathlib.Core.List.{List, [], ◌∷◌}
use Prim.Native.Nat.{ℕ, ◌≤◌, ◌<◌}
use native.Mathlib.Omega.{arith}
use lib.ListN.{length, get_or}
use borrow.Author.Tests.{eqb-false}
use Rattle.lists.proofs.Tests.{Decided, decided, bit_is_one}
use Rattle.grid.specs.Cells.{shows}
use Rattle.grid.specs.Window.{flat, neighbours}
use Rattle.refusals.specs.Tests.{board_tested, start_cell}
use Rattle.refusals.proofs.Accepted.{accepted_board}
use Rattle.fitting.specs.Demand.{opened}
use Rattle.fitting.specs.Passes.{nothing, or_else, Ending, judge}
use Rattle.fitting.proofs.Passes.{grade_of_a_rule, grade_zero}
use Rattle.fitting.proofs.KnownTotal.{total_opens_more}
use Rattle.fitting.specs.ForcedCells.{forced_cells}
use Rattle.enumeration.specs.ThreeRules.{three_rules}
use Rattle.rounds.proofs.Rounds.{RoundTells, tells_picture}
use Rattle.verdict.specs.Rules.{four_rules}
use Rattle.verdict.specs.Verdict.{VerdictAnswer, verdict_yes, verdict_opened, verdict_rounds, VerdictSeen, verdict_seen, judged_by, verdict_after_tests, is_solvable, is_solvable_total, MeetsDemand3Total}
use Rattle.refusals.proofs.Admitted.{tested_accepted}
use Rattle.verdict.proofs.DemandThree.{after_acceptance, passes_demand_3, answer_demand_3}
use Rattle.verdict.proofs.Bounds.{three_grades, GradeTellsUpTo, board_grade_tells, refusal_tells}
use Rattle.verdict.proofs.RoundsTold.{judged_round}
use Rattle.refusals.specs.Refusals.{Accepted, Tested}

-- the four rules have the grades 1, 2, 3 and 5
pub four_grades : (near : ℕ → List ℕ) (b p : List ℕ) → (1 ≤ (four_rules near b p).grade) × (((four_rules near b p).grade ≤ 5) × ((four_rules near b p).grade ≢ 4))
unfolding or_else forced_cells
four_grades near b p = go (decided (nothing (three_rules near p)))
  where
    go : Decided (nothing (three_rules near p)) → (1 ≤ (four_rules near b p).grade) × (((four_rules near b p).grade ≤ 5) × ((four_rules near b p).grade ≢ 4))
    go (inl e) = rw e (omega arith, (omega arith, λ w. eqb-false 5 4 refl w))
    go (inr e) = rw e ((three_grades near p).0, (omega (arith, (three_grades near p).1), λ w. omega (arith, w, (three_grades near p).1)))

-- what the grade of an answer tells: that of the mine total is 5
abbrev pub TotalGradeTells : VerdictAnswer → Type 0
TotalGradeTells v = GradeTellsUpTo 5 v

module _ (rows columns row column : ℕ) (b shown opened_in : List ℕ) where
  abbrev near : ℕ → List ℕ
  near = neighbours flat rows columns

  abbrev tests : Tested
  tests = board_tested flat rows columns row column b (length shown ∷ length opened_in ∷ [])

  abbrev judged : VerdictSeen
  judged = judged_by near b (four_rules near b) (start_cell columns row column)

  abbrev ends : Ending
  ends = judge near b (four_rules near b) (start_cell columns row column)

  -- the grade of what the call answers
  pub total_grade_tells : TotalGradeTells (is_solvable_total rows columns row column b shown opened_in).answer
  unfolding is_solvable_total
  total_grade_tells = go tests
    where
      go : (t : Tested) → TotalGradeTells (verdict_after_tests t judged shown opened_in).answer
      go (Ok _) =
          board_grade_tells 5 ends.yes (opened ends.position) ends.grade ends.rounds
          (grade_of_a_rule near b (four_rules near b) (start_cell columns row column) (λ g. (g ≤ 5) × (g ≢ 4)) (omega arith, λ e. omega (arith, e)) (λ p _. (four_grades near b p).1))
          (grade_zero near b (four_rules near b) (start_cell columns row column) (λ p _. (four_grades near b p).0))
      go (Err x) = refusal_tells 5 x

  module _ (accepts : tests ≡ Accepted) where
    pub total_tests_accept : is_solvable_total rows columns row column b shown opened_in ≡ judged_by near b (four_rules near b) (start_cell columns row column)
    unfolding is_solvable_total
    total_tests_accept = after_acceptance _ _ shown opened_in accepts

    module _ (r : VerdictAnswer) (after rounds : List ℕ) (is : verdict_seen r after rounds ≡ is_solvable_total rows columns row column b shown opened_in) where
      told : verdict_seen r after rounds ≡ judged_by near b (four_rules near b) (start_cell columns row column)
      told = is ∙ total_tests_accept

      -- demand 3 of an answer that is the definition's
      pub total_answer_demand_3 : MeetsDemand3Total near b (start_cell columns row column) r after
      total_answer_demand_3 =
          rw (ap (λ (w : VerdictSeen). w.answer) told, ap (λ (w : VerdictSeen). w.shown) told)
          (refl, rw (bit_is_one ends.yes) (passes_demand_3 flat rows columns row column b shown opened_in accepts true))

      -- what the round of a cell tells there
      pub total_answer_rounds : (c : ℕ) → c < length b → RoundTells near b (four_rules near b) (start_cell columns row column) after (verdict_rounds r) c (get_or rounds c 65535)
      total_answer_rounds c on =
          rw (ap (λ (w : VerdictSeen). w.answer) told, ap (λ (w : VerdictSeen). w.shown) told, ap (λ (w : VerdictSeen). w.opened_in) told)
          (tells_picture _ (judged_round flat rows columns row column b shown opened_in accepts true c on))

      -- beside the plain verdict of the same board: each cell that it shows open is open with the same number, a yes stays a yes, and no fewer cells are opened
      pub total_beside_plain : (v : VerdictAnswer) (plain plain_rounds : List ℕ) → verdict_seen v plain plain_rounds ≡ is_solvable flat rows columns row column b shown opened_in
          → ((c : ℕ) → shows plain c ≤ 8 → shows after c ≡ shows plain c) × (verdict_yes v ≡ true → verdict_yes r ≡ true) × (verdict_opened v ≤ verdict_opened r)
      total_beside_plain v plain plain_rounds e =
          let accepted = accepted_board flat rows columns row column b _ accepts in
          total_opens_more near b (start_cell columns row column) (tested_accepted flat rows columns row column b _ accepts) accepted.start_within accepted.start_safe_lem
          (verdict_yes v) (verdict_yes r) (verdict_opened v) (verdict_opened r) plain after
          (answer_demand_3 flat rows columns row column b shown opened_in accepts v plain plain_rounds e).1 total_answer_demand_3.1
