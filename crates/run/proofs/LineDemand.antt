-- Demand 3 of a printed line: the line of an accepted plain board tells a verdict and an opened count of which demand 3 holds, with the picture that the verdict filled;
-- that of a board that shows its mine total the same with the layouts of that total. And what the grade in a line tells, by the mark. Rests on `answer_demand_3`,
-- `grade_tells` and the laws in TotalAnswers, of the crate verdict. Assumes nothing.
use mathlib.Core.Path.{◌≡◌, refl}
use mathlib.Core.List.{List, [], ◌∷◌}
use Prim.Native.Nat.{ℕ}
use lib.ListN.{length, replicate, length-replicate}
use Rattle.grid.specs.Window.{flat, neighbours}
use Rattle.refusals.specs.Tests.{board_tested, start_cell}
use Rattle.records.specs.declared.BoardMark.{BoardMark}
use Rattle.refusals.specs.declared.Refusal.TheVariants.{Mark}
use Rattle.records.specs.declared.BoardMark.TheVariants.{Plain, Total, Unknown}
use Rattle.records.specs.declared.Head.{Head}
use Rattle.verdict.specs.Verdict.{VerdictAnswer, is_solvable, MeetsDemand3, is_solvable_total, MeetsDemand3Total}
use Rattle.verdict.proofs.DemandThree.{answer_demand_3}
use Rattle.verdict.proofs.Bounds.{GradeTells, refusal_tells, grade_tells}
use Rattle.verdict.proofs.TotalAnswers.{TotalGradeTells, total_grade_tells, total_answer_demand_3}
use Rattle.record_lines.specs.Answers.{picture_size, board_verdict}
use Rattle.refusals.specs.Refusals.{Accepted}

-- what the grade in a line tells: that of a yes is at most 3, and where the mine total is known at most 5
abbrev pub LineGrade : BoardMark → VerdictAnswer → Type 0
LineGrade Plain v = GradeTells v
LineGrade Total v = TotalGradeTells v
LineGrade Unknown v = GradeTells v

module _ (rows columns row column : ℕ) (b : List ℕ) where
  abbrev marked : BoardMark → Head
  marked mark = record { mark = mark; rows = rows; columns = columns; row = row; column = column }

  -- the picture and the rounds that are lent
  abbrev zeros : List ℕ
  zeros = replicate (picture_size rows columns) 0

  -- they are as long as the tests ask
  lent : board_tested flat rows columns row column b (picture_size rows columns ∷ picture_size rows columns ∷ []) ≡ Accepted
      → board_tested flat rows columns row column b (length zeros ∷ length zeros ∷ []) ≡ Accepted
  lent tests = rw (length-replicate {A = ℕ} (picture_size rows columns) 0) tests

  pub line_demand_3 : board_tested flat rows columns row column b (picture_size rows columns ∷ picture_size rows columns ∷ []) ≡ Accepted
      → (shown : List ℕ) × MeetsDemand3 (neighbours flat rows columns) b (start_cell columns row column) (board_verdict (marked Plain) b) shown
  unfolding board_verdict
  line_demand_3 tests = (
    (is_solvable flat rows columns row column b zeros zeros).shown,
    answer_demand_3 flat rows columns row column b zeros zeros (lent tests) _ _ _ refl,
  )

  pub line_demand_3_total : board_tested flat rows columns row column b (picture_size rows columns ∷ picture_size rows columns ∷ []) ≡ Accepted
      → (shown : List ℕ) × MeetsDemand3Total (neighbours flat rows columns) b (start_cell columns row column) (board_verdict (marked Total) b) shown
  unfolding board_verdict
  line_demand_3_total tests = (
    (is_solvable_total rows columns row column b zeros zeros).shown,
    total_answer_demand_3 rows columns row column b zeros zeros (lent tests) _ _ _ refl,
  )

  -- the grade is 4 exactly where the line says no
  pub line_grade : (mark : BoardMark) → LineGrade mark (board_verdict (marked mark) b)
  unfolding board_verdict
  line_grade Plain = grade_tells flat rows columns row column b zeros zeros
  line_grade Total = total_grade_tells rows columns row column b zeros zeros
  line_grade Unknown = refusal_tells 3 Mark
