-- `table_line` meets its contract: each of its three ways writes the text that the definition has for it. Assumes nothing.
use mathlib.Core.Path.{◌≡◌, sym, ◌∙◌}
use Rattle.std.specs.Prelude.{Some}
use Rattle.lines.specs.Lines.{line_of}
use Rattle.lines.proofs.CellsSoFar.{line_fits}
use Rattle.frontier_lines.specs.Frontier.{answer_to}
use Rattle.table_lines.specs.Tables.{table_line}
use Rattle.table_lines.proofs.table_line.Goals as goal
use Rattle.table_lines.proofs.table_line.Goals.{In-Some, After-refresh_matrixs}

-- the line was read
read : (c : In-Some) → line_of c.args.line.now ≡ Some c.in-Some.read
read c = sym c.read_line.ensures ∙ c.in-Some.is

-- and its position put to the call that lists its blocks
told : (c : After-refresh_matrixs) → c.refresh_matrixs.result ≡ answer_to c.in-Some.read
told c = rw (c.flat.ensures, c.cells.ensures) at c.refresh_matrixs.ensures

pub returns-in_default : goal.returns-in_default
unfolding table_line
returns-in_default c = rw (sym c.read_line.ensures ∙ c.in_default.is) c.put_unreadable.ensures

pub cells-requires : goal.cells-requires
cells-requires c = (line_fits _ _ (read (goal.at.cells-requires c).In-Some)).0

pub returns-in-Err : goal.returns-in-Err
unfolding table_line
returns-in-Err c =
    let c' = (goal.at.returns-in-Err c).After-refresh_matrixs in
    rw (read (goal.at.returns-in-Err c).In-Some, ← told c', c.in-Err.is) c.put_refused.ensures

pub cells-requires-in-Ok : goal.cells-requires-in-Ok
cells-requires-in-Ok c = (line_fits _ _ (read (goal.at.cells-requires-in-Ok c).In-Some)).0

pub returns-in-Ok : goal.returns-in-Ok
unfolding table_line
returns-in-Ok c =
    let c' = (goal.at.returns-in-Ok c).After-refresh_matrixs in
    rw (read (goal.at.returns-in-Ok c).In-Some, ← told c', c.in-Ok.is) (rw c.cells-in-Ok.ensures at c.put_tables.ensures)
