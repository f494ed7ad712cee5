-- `frontier_lines::frontier_line` meets its contract: the writes of each of its three ways are the answer's text, one behind the other, and the block set of
-- the answer is whole. Rests on `FrontierWritten`. Assumes nothing.
use mathlib.Core.Path.{◌≡◌, sym, ◌∙◌}
use Rattle.std.specs.Prelude.{Some}
use Rattle.lines.specs.Lines.{line_of}
use Rattle.lines.proofs.CellsSoFar.{line_fits}
use Rattle.frontier_lines.specs.Frontier.{answer_to, frontier_line}
use Rattle.frontier_lines.proofs.FrontierWritten.{answer_whole, accepted_frontier}
use Rattle.frontier_lines.proofs.frontier_line.Goals as goal
use Rattle.frontier_lines.proofs.frontier_line.Goals.{In-Some, After-refresh_matrixs}

-- the line was read
read : (c : In-Some) → line_of c.args.line.now ≡ Some c.in-Some.read
read c = sym c.read_line.ensures ∙ c.in-Some.is

-- and its position put to the call
told : (c : After-refresh_matrixs) → c.refresh_matrixs.result ≡ answer_to c.in-Some.read
told c = rw (c.flat.ensures, c.cells.ensures) at c.refresh_matrixs.ensures

pub returns-in_default : goal.returns-in_default
unfolding frontier_line
returns-in_default c = rw (sym c.read_line.ensures ∙ c.in_default.is) c.put_unreadable.ensures

pub cells-requires : goal.cells-requires
cells-requires c = (line_fits _ _ (read (goal.at.cells-requires c).In-Some)).0

pub put_blocks-requires : goal.put_blocks-requires
put_blocks-requires c = answer_whole _ _ _ _ (sym (told (goal.at.put_blocks-requires c).After-refresh_matrixs) ∙ c.in-Ok.is)

pub returns-in-Err : goal.returns-in-Err
unfolding frontier_line
returns-in-Err c =
    let c' = (goal.at.returns-in-Err c).After-refresh_matrixs in
    rw (read (goal.at.returns-in-Err c).In-Some, ← told c', c.in-Err.is) c.put_refused.ensures

pub returns-in-Ok : goal.returns-in-Ok
unfolding frontier_line
returns-in-Ok c =
    let c' = (goal.at.returns-in-Ok c).After-refresh_matrixs in
    rw (read (goal.at.returns-in-Ok c).In-Some, ← told c', c.in-Ok.is)
    (accepted_frontier c.in-Ok.answer c.bytes.ensures c.number.ensures c.bytes-in-Ok.ensures c.number-in-Ok.ensures c.bytes-in-Ok-2.ensures c.put_blocks.ensures)
