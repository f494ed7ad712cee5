-- `verdict_line` meets its contract: the call is made on the line's cells and on as many zeros twice, and what it leaves there is printed with its answer. Rests on
-- `VerdictWritten`. Assumes nothing.
use mathlib.Core.Path.{◌≡◌, sym, ◌∙◌}
use native.Mathlib.Omega.{arith}
use Rattle.std.specs.Prelude.{Some}
use Rattle.lines.specs.Lines.{start_line_of}
use Rattle.lines.proofs.CellsSoFar.{Inside, start_fits}
use Rattle.board_lines.specs.Verdicts.{verdict_line}
use Rattle.board_lines.proofs.VerdictWritten.{zeros_long, lent_zeros}
use Rattle.board_lines.proofs.verdicts.verdict_line.Goals as goal
use Rattle.board_lines.proofs.verdicts.verdict_line.Goals.{In-Some}

-- the line was read
read : (c : In-Some) → start_line_of c.args.line.now ≡ Some c.in-Some.read
read c = sym c.read_start_line.ensures ∙ c.in-Some.is

-- its cells stand inside their array, which has 1025
fits : (c : In-Some) → Inside c.in-Some.read.board
fits c = start_fits _ c.in-Some.read (read c)

pub returns-in_default : goal.returns-in_default
unfolding verdict_line
returns-in_default c = rw (sym c.read_start_line.ensures ∙ c.in_default.is) c.put_unreadable.ensures

pub cells-requires : goal.cells-requires
cells-requires c = (fits (goal.at.cells-requires c).In-Some).0

pub slice_bounds-all_shown-end : goal.slice_bounds-all_shown-end
slice_bounds-all_shown-end c = (fits (goal.at.slice_bounds-all_shown-end c).In-Some).1

pub slice_bounds-picture-end : goal.slice_bounds-picture-end
slice_bounds-picture-end c = zeros_long _ (fits (goal.at.slice_bounds-picture-end c).In-Some).1

pub slice_bounds-all_rounds-end : goal.slice_bounds-all_rounds-end
slice_bounds-all_rounds-end c = (fits (goal.at.slice_bounds-all_rounds-end c).In-Some).1

pub slice_bounds-opened_in-end : goal.slice_bounds-opened_in-end
slice_bounds-opened_in-end c = zeros_long _ (fits (goal.at.slice_bounds-opened_in-end c).In-Some).1

pub returns : goal.returns
unfolding verdict_line
returns c =
    let c' = (goal.at.returns c).In-Some in
    let told = rw c.cells.ensures at c.verdict_by_mark-verdict.ensures in
    rw (read c', ← (told ∙ lent_zeros c.args.mark c.in-Some.read (fits c').1)) c.put_judged.ensures
