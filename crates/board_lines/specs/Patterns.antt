-- Cited by no public contract. The answer of unsolvable_structure to a line: `true` where a pattern is found, `false` where none is, `refused 1`, or
-- `unreadable`. Assumes nothing.
use Rattle.std.specs.Prelude.{Bool, true, false, Result, Ok, Err, List, [], ◌∷◌, ℕ, take}
use Rattle.refusals.specs.declared.Refusal.{Refusal}
use Rattle.refusals.specs.Refusals.{refusal_number}
use Rattle.patterns.specs.Answer.{unsolvable_structure}
use Rattle.show.specs.Refusals.{refused_text}
use Rattle.lines.specs.declared.Line.{Line}
use Rattle.lines.specs.Lines.{line_of, answer_text}

-- `true`, `false`, or `refused 1`
abbrev pub pattern_text : Result Bool Refusal → List ℕ
pattern_text (Err r) = refused_text (refusal_number r)
pattern_text (Ok false) = 102 ∷ 97 ∷ 108 ∷ 115 ∷ 101 ∷ []
pattern_text (Ok true) = 116 ∷ 114 ∷ 117 ∷ 101 ∷ []

-- the call's answer to the line's board
abbrev pub pattern_of : Line → Result Bool Refusal
pattern_of l = unsolvable_structure l.rows l.columns (take l.len l.cells)

unfoldable pub pattern_line : List ℕ → List ℕ
pattern_line line = answer_text (λ l. pattern_text (pattern_of l)) (line_of line)
