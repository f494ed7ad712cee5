-- Rounds and grade of a verdict, for every input: rounds never exceed the cells of the board; the grade is 4 exactly where the verdict is no, and a yes has the
-- grade of a rule, or 0 where no pass found a cell. A refusal has neither. Rests on `rounds_cells`, `grade_of_a_rule` and `grade_zero` of the crate fitting. Assumes nothing.
use Rattle.std.specs.Prelude.{Err, Ok}
use mathlib.Core.Path.{◌≡◌, refl, sym, ap}
use mathlib.Core.Logic.{inl, inr, ◌↔◌, ◌≢◌}
use mathlib.Core.Bool.{Bool, true, false}
use mathlib.Core.List.{List, [], ◌∷◌}
use Prim.Native.Nat.{ℕ, ◌≤◌}
use native.Mathlib.Omega.{arith}
use lib.ListN.{length}
use borrow.Author.Tests.{eqb-false}
use Rattle.lists.proofs.Tests.{Decided, decided, clash}
use Rattle.grid.specs.Window.{neighbours}
use Rattle.refusals.specs.declared.Refusal.{Refusal}
use Rattle.refusals.specs.Refusals.{Accepted, Tested, refusal_number}
use Rattle.refusals.specs.Tests.{board_tested, start_cell}
use Rattle.refusals.proofs.Accepted.{accepted_board}
use Rattle.refusals.proofs.FirstFailure.{refusal_not_zero}
use Rattle.fitting.specs.Demand.{opened}
use Rattle.fitting.specs.Passes.{nothing, or_else, Ending, judge}
use Rattle.fitting.proofs.Passes.{rounds_cells, grade_of_a_rule, grade_zero}
use Rattle.direct.specs.Found.{rule_of}
use Rattle.direct.specs.Direct.{direct}
use Rattle.subtraction.specs.Minus.{subtraction}
use Rattle.enumeration.specs.ThreeRules.{three_rules}
use Rattle.verdict.specs.Rules.{layouts_of}
use Rattle.verdict.proofs.KindsOfBoard.{own_passes, rules_sound}
use Rattle.verdict.specs.Verdict.{VerdictAnswer, verdict_of, verdict_number, verdict_yes, verdict_grade, verdict_rounds, board_grade, VerdictSeen, verdict_seen, verdict_after_tests, judged_from, is_solvable}
use Rattle.refusals.proofs.Admitted.{tested_accepted}

-- the three rules have the grades 1, 2 and 3
pub three_grades : (near : ℕ → List ℕ) (p : List ℕ) → (1 ≤ (three_rules near p).grade) × ((three_rules near p).grade ≤ 3)
unfolding or_else
three_grades near p = go (decided (nothing (rule_of near direct 1 p))) (decided (nothing (rule_of near subtraction 2 p)))
  where
    go : Decided (nothing (rule_of near direct 1 p)) → Decided (nothing (rule_of near subtraction 2 p))
        → (1 ≤ (three_rules near p).grade) × ((three_rules near p).grade ≤ 3)
    go (inr e) f = rw e (omega arith, omega arith)
    go (inl e) (inr f) = rw (e, f) (omega arith, omega arith)
    go (inl e) (inl f) = rw (e, f) (omega arith, omega arith)

-- ---- what the grade of an answer tells

-- where the strongest rule has the grade `most`
pub record GradeTellsUpTo (most : ℕ) (v : VerdictAnswer) : Type 0 where
  -- it is 4 exactly where the verdict is no
  pub four : verdict_number v ≡ 0 → (verdict_grade v ≡ 4) ↔ (verdict_yes v ≡ false)
  -- a yes has the grade of a rule
  pub of_a_rule : verdict_yes v ≡ true → verdict_grade v ≤ most
  -- or 0, exactly where no pass found a cell
  pub none : verdict_yes v ≡ true → (verdict_grade v ≡ 0) ↔ (verdict_rounds v ≡ 0)

-- on a plain board that is enumeration
abbrev pub GradeTells : VerdictAnswer → Type 0
GradeTells v = GradeTellsUpTo 3 v

-- that of a board does, where the strongest rule's is at most so much and is not 4, and 0 exactly without a round
pub board_grade_tells : (most : ℕ) (answer : Bool) (n strongest rounds : ℕ) → (strongest ≤ most) × (strongest ≢ 4) → (strongest ≡ 0) ↔ (rounds ≡ 0)
    → GradeTellsUpTo most (verdict_of answer n (board_grade answer strongest) rounds)
board_grade_tells most true n strongest rounds few zero = record {
  four = λ _. (λ e. absurd (few.1 e), λ e. clash true refl e);
  of_a_rule = λ _. few.0;
  none = λ _. zero;
}
board_grade_tells most false n strongest rounds few zero = record {
  four = λ _. (λ _. refl, λ _. refl);
  of_a_rule = λ e. clash true refl (sym e);
  none = λ e. clash true refl (sym e);
}

-- a refusal has none
pub refusal_tells : (most : ℕ) (r : Refusal) → GradeTellsUpTo most (Err r)
refusal_tells most r = record {
  four = λ e. absurd (eqb-false (refusal_number r) 0 (refusal_not_zero r) e);
  of_a_rule = λ e. clash true refl (sym e);
  none = λ e. clash true refl (sym e);
}

-- ---- from the start's cell

module _ (near : ℕ → List ℕ) (b : List ℕ) (s : ℕ) where
  abbrev ends : Ending
  ends = judge near b (three_rules near) s

  judged_grade : GradeTells (judged_from near b s).answer
  judged_grade =
      board_grade_tells 3 ends.yes (opened ends.position) ends.grade ends.rounds
      (grade_of_a_rule near b (three_rules near) s (λ g. (g ≤ 3) × (g ≢ 4)) (omega arith, λ e. omega (arith, e)) (λ p _. ((three_grades near p).1, λ e. omega (arith, e, (three_grades near p).1))))
      (grade_zero near b (three_rules near) s (λ p _. (three_grades near p).0))

-- ---- of the call

module _ (edgeless : Bool) (rows columns row column : ℕ) (b shown opened_in : List ℕ) where
  abbrev lent : List ℕ
  lent = length shown ∷ length opened_in ∷ []

  abbrev tests : Tested
  tests = board_tested edgeless rows columns row column b lent

  abbrev judged : VerdictSeen
  judged = judged_from (neighbours edgeless rows columns) b (start_cell columns row column)

  -- what the grade tells
  pub grade_tells : GradeTells (is_solvable edgeless rows columns row column b shown opened_in).answer
  unfolding is_solvable
  grade_tells = go tests
    where
      go : (t : Tested) → GradeTells (verdict_after_tests t judged shown opened_in).answer
      go (Ok _) = judged_grade (neighbours edgeless rows columns) b (start_cell columns row column)
      go (Err x) = refusal_tells 3 x

  -- rounds never exceed the cells
  pub rounds_at_most_cells : verdict_rounds (is_solvable edgeless rows columns row column b shown opened_in).answer ≤ length b
  unfolding is_solvable
  rounds_at_most_cells = go tests refl
    where
      go : (t : Tested) → tests ≡ t → verdict_rounds (verdict_after_tests t judged shown opened_in).answer ≤ length b
      go (Ok _) e =
          let accepted = accepted_board edgeless rows columns row column b lent e in
          rounds_cells (neighbours edgeless rows columns) (layouts_of false b) b (three_rules (neighbours edgeless rows columns)) (start_cell columns row column)
          (tested_accepted edgeless rows columns row column b lent e) (own_passes false b) accepted.start_within accepted.start_safe_lem (rules_sound edgeless rows columns b false)
      go (Err x) e = omega arith

  -- so of an answer that is the definition's
  pub answer_bounds : (r : VerdictAnswer) (after rounds : List ℕ) → verdict_seen r after rounds ≡ is_solvable edgeless rows columns row column b shown opened_in → (verdict_rounds r ≤ length b) × GradeTells r
  answer_bounds r after rounds e =
      let same : r ≡ (is_solvable edgeless rows columns row column b shown opened_in).answer = ap (λ (w : VerdictSeen). w.answer) e in
      (rw same rounds_at_most_cells, rw same grade_tells)
