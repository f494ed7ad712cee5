-- `refresh_matrixs` meets its contract: a refusal by the tests is the call's, and an acceptance tells that the position is a board of at most 1,024 cells. Rests on
-- the contracts of the calls and on the facts of an accepted position. Assumes nothing.
use mathlib.Core.Path.{sym}
use native.Mathlib.Omega.{arith}
use Rattle.std.proofs.lemmas.Result.{err_from_is_err_and}
use Rattle.grid.specs.Window.{Board}
use Rattle.grid.proofs.Places.{few_cells}
use Rattle.refusals.proofs.Accepted.{accepted_position}
use Rattle.frontier.specs.Answer.{refresh_matrixs}
use Rattle.frontier.proofs.refresh_matrixs.Goals as goal
use Rattle.frontier.proofs.refresh_matrixs.Goals.{In_ok-test_position}

-- a position that the tests accept is a board
board : (c : In_ok-test_position) → (let a = c.args in Board a.position.now a.size.rows a.size.columns)
board c = (accepted_position _ _ _ (sym c.in_ok-test_position.ensures)).board

pub returns-in_err-test_position : goal.returns-in_err-test_position
unfolding refresh_matrixs
returns-in_err-test_position c =
    let p = err_from_is_err_and c.from_residual.result c.from_residual.ensures.1 in
    rw (p.1, p.2, ← c.in_err-test_position.ensures)

pub read_blocks-requires : goal.read_blocks-requires
read_blocks-requires c = board c

pub inside_cells-requires : goal.inside_cells-requires
inside_cells-requires c = board (goal.at.inside_cells-requires c).In_ok-test_position

pub known_mines-requires : goal.known_mines-requires
known_mines-requires c = let known = board (goal.at.known_mines-requires c).In_ok-test_position in omega (arith, known.whole, few_cells known.sized)

pub returns : goal.returns
unfolding refresh_matrixs
returns c = rw (← c.in_ok-test_position.ensures, c.read_blocks.ensures, c.inside_cells.ensures, c.known_mines.ensures)
