-- `test_bbbv` meets its contract: tests 1 to 3 are those of every board, and once they have passed the test of numbers is left. Rests on the law of the tests
-- after those of the cells and on the contracts of the calls. Assumes nothing.
use mathlib.Core.Path.{sym}
use Rattle.std.proofs.lemmas.Result.{err_from_is_err_and}
use Rattle.lists.specs.Lists.{all}
use Rattle.refusals.specs.SharedTests.{cell_in}
use Rattle.refusals.proofs.LaterTests.{bbbv_later}
use Rattle.refusals.proofs.Accepted.{accepted_cells}
use Rattle.refusals.proofs.test_bbbv.Goals as goal

pub returns-in_err-test_cells : goal.returns-in_err-test_cells
returns-in_err-test_cells c =
    let p = err_from_is_err_and c.from_residual.result c.from_residual.ensures.1 in
    rw (p.1, p.2, bbbv_later _ _ _ c.args.board.now c.in_err-test_cells.ensures)

pub numbers_ok-requires : goal.numbers_ok-requires
numbers_ok-requires c = accepted_cells 1 _ _ _ (all (cell_in 255 255) c.args.board.now) (sym c.in_ok-test_cells.ensures)

pub returns-then-numbers_ok : goal.returns-then-numbers_ok
returns-then-numbers_ok c = rw (bbbv_later _ _ _ c.args.board.now c.in_ok-test_cells.ensures, ← c.if-numbers_ok.ensures)

pub returns-else-numbers_ok : goal.returns-else-numbers_ok
returns-else-numbers_ok c = rw (bbbv_later _ _ _ c.args.board.now c.in_ok-test_cells.ensures, ← c.if-numbers_ok.ensures)
