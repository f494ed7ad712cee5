-- The line that answers a record (SPECIFICATION 5.3): number, verdict, opened, grade, rounds; or number, `refused`, the refusal. And the verdict of a whole
-- record. Assumes nothing.
use Rattle.std.specs.Prelude.{Bool, cond, ◌&&◌, List, [], ◌∷◌, ◌++◌, ℕ, ◌*◌, leb, eqb, replicate}
use Rattle.grid.specs.Window.{flat}
use Rattle.std.specs.Prelude.{Err}
use Rattle.refusals.specs.declared.Refusal.TheVariants.{Mark}
use Rattle.records.specs.declared.BoardMark.{BoardMark}
use Rattle.records.specs.declared.BoardMark.TheVariants.{Plain, Total, Unknown}
use Rattle.records.specs.declared.Head.{Head}
use Rattle.verdict.specs.Verdict.{VerdictAnswer, verdict_number, verdict_yes, verdict_opened, verdict_grade, verdict_rounds, VerdictSeen, verdict_seen, is_solvable, is_solvable_total}
use Rattle.text.specs.Text.{decimal}

-- `yes ` and `no `
abbrev pub verdict_word : Bool → List ℕ
verdict_word v = cond v (121 ∷ 101 ∷ 115 ∷ 32 ∷ []) (110 ∷ 111 ∷ 32 ∷ [])

-- `yes 2 0 0` or `refused 1`
unfoldable pub verdict_text : VerdictAnswer → List ℕ
verdict_text v =
    cond (eqb (verdict_number v) 0)
    (verdict_word (verdict_yes v) ++ (decimal (verdict_opened v) ++ (32 ∷ (decimal (verdict_grade v) ++ (32 ∷ decimal (verdict_rounds v))))))
    ((114 ∷ 101 ∷ 102 ∷ 117 ∷ 115 ∷ 101 ∷ 100 ∷ 32 ∷ []) ++ decimal (verdict_number v))

-- `1 yes 2 0 0` and the end of the line
unfoldable pub line_text : ℕ → VerdictAnswer → List ℕ
line_text number v = decimal number ++ (32 ∷ (verdict_text v ++ (10 ∷ [])))

-- how many cells of picture, and of rounds, a board is lent: all that it has, and none for a board that test 1 refuses
unfoldable pub picture_size : ℕ → ℕ → ℕ
picture_size rows columns = cond (leb rows 32 && leb columns 32) (rows * columns) 0

-- the verdict of a board by its mark, as its caller sees it: of a plain board the one that knows no mine total, of one that shows its total the one that goes by it
abbrev pub judged_by : BoardMark → Head → List ℕ → List ℕ → List ℕ → VerdictSeen
judged_by Plain h cells shown opened_in = is_solvable flat h.rows h.columns h.row h.column cells shown opened_in
judged_by Total h cells shown opened_in = is_solvable_total h.rows h.columns h.row h.column cells shown opened_in
judged_by Unknown h cells shown opened_in = verdict_seen (Err Mark) shown opened_in

-- by the head of its record
abbrev pub verdict_by_mark : Head → List ℕ → List ℕ → List ℕ → VerdictSeen
verdict_by_mark h cells shown opened_in = judged_by h.mark h cells shown opened_in

-- the verdict of a record's board, which is lent zeros for the picture and for the rounds of its cells
unfoldable pub board_verdict : Head → List ℕ → VerdictAnswer
board_verdict h cells = (verdict_by_mark h cells (replicate (picture_size h.rows h.columns) 0) (replicate (picture_size h.rows h.columns) 0)).answer
