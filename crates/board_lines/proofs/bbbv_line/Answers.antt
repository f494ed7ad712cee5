-- `board_lines::bbbv_line` meets its contract: each of its three ways writes the text that the definition has for it, those of a readable line by one law (`AnswerWritten`). Assumes nothing.
use mathlib.Core.Path.{◌≡◌, sym, ◌∙◌}
use Rattle.std.specs.Prelude.{Some}
use Rattle.lines.specs.Lines.{line_of}
use Rattle.lines.proofs.CellsSoFar.{line_fits}
use Rattle.board_lines.specs.Bbbv.{bbbv_text, bbbv_of, bbbv_line}
use Rattle.board_lines.proofs.AnswerWritten.{answer_written}
use Rattle.board_lines.proofs.bbbv_line.Goals as goal
use Rattle.board_lines.proofs.bbbv_line.Goals.{In-Some, After-cal_bbbv}

-- the line was read
read : (c : In-Some) → Some c.in-Some.read ≡ line_of c.args.line.now
read c = sym c.in-Some.is ∙ c.read_line.ensures

-- and its board put to the call
told : (c : After-cal_bbbv) → c.cal_bbbv.result ≡ bbbv_of c.in-Some.read
told c = rw (c.flat.ensures, c.cells.ensures) at c.cal_bbbv.ensures.value

pub returns-in_default : goal.returns-in_default
unfolding bbbv_line
returns-in_default c = rw (sym c.read_line.ensures ∙ c.in_default.is) c.put_unreadable.ensures

pub cells-requires : goal.cells-requires
cells-requires c = (line_fits _ _ (sym (read (goal.at.cells-requires c).In-Some))).0

pub returns-in-Err : goal.returns-in-Err
unfolding bbbv_line
returns-in-Err c =
    let c' = goal.at.returns-in-Err c in
    answer_written bbbv_text bbbv_of _ _ (read c'.In-Some) (told c'.After-cal_bbbv) c.in-Err.is c.put_refused.ensures

pub returns-in-Ok : goal.returns-in-Ok
unfolding bbbv_line
returns-in-Ok c =
    let c' = goal.at.returns-in-Ok c in
    answer_written bbbv_text bbbv_of _ _ (read c'.In-Some) (told c'.After-cal_bbbv) c.in-Ok.is c.number.ensures
