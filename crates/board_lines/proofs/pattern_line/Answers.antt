-- `board_lines::pattern_line` meets its contract: each of its four ways writes the text that the definition has for it, those of a readable line by one law (`AnswerWritten`). Assumes nothing.
use mathlib.Core.Path.{◌≡◌, sym, ap, ◌∙◌}
use Rattle.std.specs.Prelude.{Some, Ok}
use Rattle.lines.specs.Lines.{line_of}
use Rattle.lines.proofs.CellsSoFar.{line_fits}
use Rattle.board_lines.specs.Patterns.{pattern_text, pattern_of, pattern_line}
use Rattle.board_lines.proofs.AnswerWritten.{answer_written}
use Rattle.board_lines.proofs.pattern_line.Goals as goal
use Rattle.board_lines.proofs.pattern_line.Goals.{In-Some, After-unsolvable_structure}

-- the line was read
read : (c : In-Some) → Some c.in-Some.read ≡ line_of c.args.line.now
read c = sym c.in-Some.is ∙ c.read_line.ensures

-- and its board put to the call
told : (c : After-unsolvable_structure) → c.unsolvable_structure.result ≡ pattern_of c.in-Some.read
told c = rw c.cells.ensures at c.unsolvable_structure.ensures

pub returns-in_default : goal.returns-in_default
unfolding pattern_line
returns-in_default c = rw (sym c.read_line.ensures ∙ c.in_default.is) c.put_unreadable.ensures

pub cells-requires : goal.cells-requires
cells-requires c = (line_fits _ _ (sym (read (goal.at.cells-requires c).In-Some))).0

pub returns-in-Err : goal.returns-in-Err
unfolding pattern_line
returns-in-Err c =
    let c' = goal.at.returns-in-Err c in
    answer_written pattern_text pattern_of _ _ (read c'.In-Some) (told c'.After-unsolvable_structure) c.in-Err.is c.put_refused.ensures

pub returns-in-Ok-true : goal.returns-in-Ok-true
unfolding pattern_line
returns-in-Ok-true c =
    let c' = goal.at.returns-in-Ok-true c in
    answer_written pattern_text pattern_of _ _ (read c'.In-Some) (told c'.After-unsolvable_structure) (c.in-Ok-true.is ∙ ap Ok c.in-Ok-true.field-0-test) c.bytes.ensures

pub returns-in-Ok-false : goal.returns-in-Ok-false
unfolding pattern_line
returns-in-Ok-false c =
    let c' = goal.at.returns-in-Ok-false c in
    answer_written pattern_text pattern_of _ _ (read c'.In-Some) (told c'.After-unsolvable_structure) (c.in-Ok-false.is ∙ ap Ok c.in-Ok-false.field-0-test) c.bytes-in-Ok-false.ensures
