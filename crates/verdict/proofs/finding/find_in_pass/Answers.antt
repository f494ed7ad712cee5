-- `finding::find_in_pass` meets its contract: what the three rules find, and where that is nothing and the total is shown what the total finds. Rests on TotalFindings and on the
-- contracts of the calls. Assumes nothing.
use native.Mathlib.Omega.{arith}
use Rattle.grid.proofs.Places.{few_cells}
use Rattle.verdict.proofs.FoundCells.{finds_nothing, finds_cell}
use Rattle.verdict.proofs.TotalFindings.{finds_total, rules_at_three, rules_at_total}
use Rattle.verdict.proofs.finding.find_in_pass.Goals as goal

pub find_cells-found-requires : goal.find_cells-found-requires
find_cells-found-requires c = record { board = c.requires.board; fits = (c.requires.fits.0, c.requires.fits.1) }

pub returns-then-found-ne0 : goal.returns-then-found-ne0
returns-then-found-ne0 c =
    let found = c.find_cells-found.ensures in
    rw (c.in-Some.is, rules_at_three _ _ c.in-Some.shown (finds_cell found c.if-found-ne0.true)) found

pub returns : goal.returns
returns c =
    let found = c.find_cells-found.ensures in
    let total = c.find_by_total.ensures in
    rw (c.in-Some.is, rules_at_total _ _ c.in-Some.shown (finds_nothing found (omega (arith, c.if-found-ne0.false))))
    (finds_total _ _ c.in-Some.shown _ c.requires.board.whole (few_cells c.requires.board.sized) _ total.safe_value total.mines_value)
