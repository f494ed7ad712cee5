-- Cited by no public contract. The answer of refresh_matrixs to a line: `inside 1 mines 0 blocks 1 [1 | 1=1]`, `refused 2`, or `unreadable`. Assumes nothing.
use Rattle.std.specs.Prelude.{Result, Ok, Err, List, [], ◌∷◌, ◌++◌, ℕ, take}
use Rattle.grid.specs.Window.{flat}
use Rattle.refusals.specs.declared.Refusal.{Refusal}
use Rattle.refusals.specs.Refusals.{refusal_number}
use Rattle.blocks.specs.BlockSets.{blocks_of}
use Rattle.frontier.specs.declared.FrontierAnswer.{FrontierAnswer}
use Rattle.frontier.specs.Answer.{refresh_matrixs}
use Rattle.text.specs.Text.{decimal}
use Rattle.show.specs.Blocks.{blocks_text}
use Rattle.show.specs.Refusals.{refused_text}
use Rattle.lines.specs.declared.Line.{Line}
use Rattle.lines.specs.Lines.{line_of, answer_text}

-- `inside 1 mines 0 blocks 1 [1 | 1=1]`
abbrev pub frontier_text : Result FrontierAnswer Refusal → List ℕ
frontier_text (Err r) = refused_text (refusal_number r)
frontier_text (Ok a) =
    ((105 ∷ 110 ∷ 115 ∷ 105 ∷ 100 ∷ 101 ∷ 32 ∷ []) ++ decimal a.inside_cell)
    ++ (((32 ∷ 109 ∷ 105 ∷ 110 ∷ 101 ∷ 115 ∷ 32 ∷ []) ++ decimal a.is_minenum) ++ (32 ∷ blocks_text (blocks_of a.blocks)))

-- the call's answer to the line's position
abbrev pub answer_to : Line → Result FrontierAnswer Refusal
answer_to l = refresh_matrixs flat l.rows l.columns (take l.len l.cells)

unfoldable pub frontier_line : List ℕ → List ℕ
frontier_line line = answer_text (λ l. frontier_text (answer_to l)) (line_of line)
