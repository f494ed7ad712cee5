-- The verdict as a caller sees it (SPECIFICATION 4.2, 4.4 and 9): refusals 1 to 5 and 13; else the passes over the board's rules from the start's cell, which is safe,
-- the picture of the position that they end with, and the round in which each cell was opened. A no has the grade 4. Assumes nothing.
use Rattle.std.specs.Prelude.{◌≡◌, Bool, cond, List, [], ◌∷◌, ℕ, eqb, length, get_or, Result, Ok, Err}
use Rattle.lists.specs.Lists.{bit}
use Rattle.grid.specs.Window.{flat, neighbours}
use Rattle.refusals.specs.declared.Refusal.{Refusal}
use Rattle.refusals.specs.Refusals.{Tested, refusal_number}
use Rattle.refusals.specs.Tests.{board_tested, start_cell}
use Rattle.fitting.specs.Passes.{GradedCells, Ending, judge}
use Rattle.rounds.specs.Rounds.{judge_rounds}
use Rattle.fitting.specs.Layouts.{of_total}
use Rattle.fitting.specs.Boards.{mine_total}
use Rattle.fitting.specs.Demand.{Demand3, Demand3Among, picture, opened}
use Rattle.enumeration.specs.ThreeRules.{three_rules}
use Rattle.verdict.specs.Rules.{four_rules}
use Rattle.verdict.specs.declared.Verdict.{Verdict}

-- what the call answers; and the answer with this verdict
abbrev pub VerdictAnswer : Type 0
VerdictAnswer = Result Verdict Refusal

abbrev pub verdict_of : Bool → ℕ → ℕ → ℕ → VerdictAnswer
verdict_of answer n grade rounds = Ok (record { yes = answer; opened = n; grade = grade; rounds = rounds })

-- the number of an answer (SPECIFICATION 3.1): 0, or the refusal's
abbrev pub verdict_number : VerdictAnswer → ℕ
verdict_number (Err r) = refusal_number r
verdict_number (Ok v) = 0

-- and its values: 1 for yes or 0 for no, opened cells, grade, rounds; a refusal has none
abbrev pub verdict_values : VerdictAnswer → List ℕ
verdict_values (Err r) = []
verdict_values (Ok v) = bit v.yes ∷ v.opened ∷ v.grade ∷ v.rounds ∷ []

-- the values by their names
abbrev pub verdict_yes : VerdictAnswer → Bool
verdict_yes v = eqb (get_or (verdict_values v) 0 0) 1

abbrev pub verdict_opened : VerdictAnswer → ℕ
verdict_opened v = get_or (verdict_values v) 1 0

abbrev pub verdict_grade : VerdictAnswer → ℕ
verdict_grade v = get_or (verdict_values v) 2 0

abbrev pub verdict_rounds : VerdictAnswer → ℕ
verdict_rounds v = get_or (verdict_values v) 3 0

-- the grade of a board (SPECIFICATION 9.3), what finishing it takes: of one judged yes the grade of the strongest rule that found a cell, 0 if none did; of one
-- judged no 4, a guess
abbrev pub board_grade : Bool → ℕ → ℕ
board_grade answer strongest = cond answer strongest 4

-- what the caller sees after the call: the answer, the lent picture, and the lent slice for the rounds in which the cells were opened
pub record VerdictSeen : Type 0 where
  pub answer : VerdictAnswer
  pub shown : List ℕ
  pub opened_in : List ℕ

abbrev pub verdict_seen : VerdictAnswer → List ℕ → List ℕ → VerdictSeen
verdict_seen a shown opened_in = record { answer = a; shown = shown; opened_in = opened_in }

-- what the end of the passes is to the caller, with the rounds of the cells
abbrev pub end_seen : Ending → List ℕ → VerdictSeen
end_seen e opened_in = verdict_seen (verdict_of e.yes (opened e.position) (board_grade e.yes e.grade) e.rounds) (picture e.position) opened_in

-- the verdict from a safe cell, the start's, by any rules
abbrev pub judged_by : (ℕ → List ℕ) → List ℕ → (List ℕ → GradedCells) → ℕ → VerdictSeen
judged_by near b rule s = end_seen (judge near b rule s) (judge_rounds near b rule s)

-- by the three
abbrev pub judged_from : (ℕ → List ℕ) → List ℕ → ℕ → VerdictSeen
judged_from near b s = judged_by near b (three_rules near) s

-- the tests first; a refusal leaves both slices as they were
abbrev pub verdict_after_tests : Tested → VerdictSeen → List ℕ → List ℕ → VerdictSeen
verdict_after_tests (Ok _) w shown opened_in = w
verdict_after_tests (Err r) w shown opened_in = verdict_seen (Err r) shown opened_in

unfoldable pub is_solvable : Bool → ℕ → ℕ → ℕ → ℕ → List ℕ → List ℕ → List ℕ → VerdictSeen
is_solvable edgeless rows columns row column b shown opened_in =
    verdict_after_tests (board_tested edgeless rows columns row column b (length shown ∷ length opened_in ∷ []))
    (judged_from (neighbours edgeless rows columns) b (start_cell columns row column)) shown opened_in

-- demand 3 of an answer that has its four values, as every answer but a refusal has
abbrev pub MeetsDemand3 : (ℕ → List ℕ) → List ℕ → ℕ → VerdictAnswer → List ℕ → Type 0
MeetsDemand3 near b s v shown = (length (verdict_values v) ≡ 4) × Demand3 near b s (verdict_yes v) (verdict_opened v) shown

-- ---- boards that show their mine total, which have an edge: the same tests, and the passes over the four rules

unfoldable pub is_solvable_total : ℕ → ℕ → ℕ → ℕ → List ℕ → List ℕ → List ℕ → VerdictSeen
is_solvable_total rows columns row column b shown opened_in =
    verdict_after_tests (board_tested flat rows columns row column b (length shown ∷ length opened_in ∷ []))
    (judged_by (neighbours flat rows columns) b (four_rules (neighbours flat rows columns) b) (start_cell columns row column)) shown opened_in

-- demand 3 with the layouts that hold exactly as many mines as the board
abbrev pub MeetsDemand3Total : (ℕ → List ℕ) → List ℕ → ℕ → VerdictAnswer → List ℕ → Type 0
MeetsDemand3Total near b s v shown =
    (length (verdict_values v) ≡ 4) × Demand3Among near (of_total (mine_total b)) b s (verdict_yes v) (verdict_opened v) shown
