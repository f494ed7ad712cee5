-- Cited by no public contract. The answer of the verdict to a line with a start: `yes 2 0 0 picture 1 10 rounds 0 65535`, the verdict, the opened cells, the grade, the
-- rounds, the picture, and the round in which each cell was opened; `no` with the same, `refused 5`, or `unreadable`. Both slices that are lent are as long as the
-- line has cells. Assumes nothing.
use Rattle.std.specs.Prelude.{cond, List, [], ◌∷◌, ◌++◌, ℕ, eqb, take, replicate}
use Rattle.records.specs.declared.BoardMark.{BoardMark}
use Rattle.records.specs.declared.Head.{Head}
use Rattle.verdict.specs.Verdict.{VerdictAnswer, verdict_number, VerdictSeen}
use Rattle.show.specs.Cells.{cells_text}
use Rattle.lines.specs.declared.StartLine.{StartLine}
use Rattle.lines.specs.Lines.{start_line_of, answer_text}
use Rattle.record_lines.specs.Answers.{verdict_text, verdict_by_mark}

-- a word and the numbers of a slice behind a verdict, and nothing behind a refusal
abbrev pub slice_text : List ℕ → VerdictAnswer → List ℕ → List ℕ
slice_text word v numbers = cond (eqb (verdict_number v) 0) (word ++ cells_text numbers) []

-- ` picture 1 10`
abbrev pub picture_text : VerdictAnswer → List ℕ → List ℕ
picture_text = slice_text (32 ∷ 112 ∷ 105 ∷ 99 ∷ 116 ∷ 117 ∷ 114 ∷ 101 ∷ [])

-- ` rounds 0 65535`
abbrev pub rounds_text : VerdictAnswer → List ℕ → List ℕ
rounds_text = slice_text (32 ∷ 114 ∷ 111 ∷ 117 ∷ 110 ∷ 100 ∷ 115 ∷ [])

-- what the caller sees, as text
abbrev pub verdict_seen_text : VerdictSeen → List ℕ
verdict_seen_text w = verdict_text w.answer ++ (picture_text w.answer w.shown ++ rounds_text w.answer w.opened_in)

-- the line's board and start as the head of a record
abbrev pub head_on : BoardMark → StartLine → Head
head_on mark l = record { mark = mark; rows = l.board.rows; columns = l.board.columns; row = l.start_row; column = l.start_column }

-- the answer to the line's board and start, by a mark
abbrev pub verdict_on : BoardMark → StartLine → VerdictSeen
verdict_on mark l = verdict_by_mark (head_on mark l) (take l.board.len l.board.cells) (replicate l.board.len 0) (replicate l.board.len 0)

unfoldable pub verdict_line : BoardMark → List ℕ → List ℕ
verdict_line mark line = answer_text (λ l. verdict_seen_text (verdict_on mark l)) (start_line_of line)
