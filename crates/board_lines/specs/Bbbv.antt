-- Cited by no public contract. The answer of cal_bbbv to a line: the 3BV in decimal, `refused 5`, or `unreadable`. Assumes nothing.
use Rattle.std.specs.Prelude.{Result, Ok, Err, List, ℕ, take}
use Rattle.grid.specs.Window.{flat}
use Rattle.refusals.specs.declared.Refusal.{Refusal}
use Rattle.refusals.specs.Refusals.{refusal_number}
use Rattle.bbbv.specs.Answer.{cal_bbbv}
use Rattle.text.specs.Text.{decimal}
use Rattle.show.specs.Refusals.{refused_text}
use Rattle.lines.specs.declared.Line.{Line}
use Rattle.lines.specs.Lines.{line_of, answer_text}

-- `17`, or `refused 5`
abbrev pub bbbv_text : Result ℕ Refusal → List ℕ
bbbv_text (Err r) = refused_text (refusal_number r)
bbbv_text (Ok n) = decimal n

-- the call's answer to the line's board
abbrev pub bbbv_of : Line → Result ℕ Refusal
bbbv_of l = cal_bbbv flat l.rows l.columns (take l.len l.cells)

unfoldable pub bbbv_line : List ℕ → List ℕ
bbbv_line line = answer_text (λ l. bbbv_text (bbbv_of l)) (line_of line)
