-- `test_board` meets its contract: where the size is right a lent length that is wrong fails test 2, whatever the board's own; else tests 1 to 3 are those of the
-- board alone, and the others follow. Rests on the law of the tests after those of the cells and on the contracts of the calls. Assumes nothing.
use mathlib.Core.Path.{◌≡◌, sym}
use mathlib.Core.Bool.{true, and-false}
use native.Mathlib.Omega.{arith}
use Rattle.std.proofs.lemmas.Result.{err_from_is_err_and}
use Rattle.lists.specs.Lists.{all}
use Rattle.grid.specs.Window.{Board}
use Rattle.refusals.specs.Tests.{size_ok, length_ok, board_tested}
use Rattle.refusals.specs.SharedTests.{cell_in}
use Rattle.refusals.proofs.Sides.{size_ok_sized}
use Rattle.refusals.proofs.Starts.{start_cell_within, mine_start_fails, safe_start_passes}
use Rattle.refusals.proofs.LaterTests.{board_later}
use Rattle.refusals.proofs.Accepted.{accepted_cells}
use Rattle.refusals.proofs.test_board.Goals as goal
use Rattle.refusals.proofs.test_board.Goals.{After-test_cells, Else-not-start_ok, Else-not-numbers_ok, else-size_ok-via-then-size_ok+else-not-lengths_ok, else-size_ok-via-else-size_ok}

pub lengths_ok-requires : goal.lengths_ok-requires
lengths_ok-requires c = size_ok_sized 1 _ _ (sym c.if-size_ok.ensures)

pub returns-then-not-lengths_ok : goal.returns-then-not-lengths_ok
unfolding board_tested
returns-then-not-lengths_ok c = rw (← c.if-size_ok.ensures, ← c.if-not-lengths_ok.ensures, and-false)

-- where the size is right the lent lengths are
measured : (c : After-test_cells) → (let a = c.args in size_ok 1 a.size.rows a.size.columns ≡ true → all (length_ok a.size.rows a.size.columns) a.lent.now ≡ true)
measured c size =
    elim c.else-size_ok.branch [
      | else-size_ok-via-then-size_ok+else-not-lengths_ok w ↦ sym w.if-not-lengths_ok.ensures
      | else-size_ok-via-else-size_ok w ↦ cc
    ]

pub returns-in_err-test_cells : goal.returns-in_err-test_cells
returns-in_err-test_cells c =
    let a = c.args in
    let p = err_from_is_err_and c.from_residual.result c.from_residual.ensures.1 in
    rw (p.1, p.2, board_later a.size.edgeless _ _ a.row a.column a.cells.now a.lent.now (measured (goal.at.returns-in_err-test_cells c).After-test_cells) c.in_err-test_cells.ensures)

pub returns-then-not-start_ok : goal.returns-then-not-start_ok
returns-then-not-start_ok c =
    let a = c.args in
    rw (board_later a.size.edgeless _ _ a.row a.column a.cells.now a.lent.now (measured (goal.at.returns-then-not-start_ok c).After-test_cells) c.in_ok-test_cells.ensures, ← c.if-not-start_ok.ensures)

-- tests 1 to 3 have passed, so that the cells are a board
cells_board : (c : Else-not-start_ok) → (let a = c.args in Board a.cells.now a.size.rows a.size.columns)
cells_board c = accepted_cells 1 _ _ _ (all (cell_in 255 255) c.args.cells.now) (sym c.in_ok-test_cells.ensures)

pub numbers_ok-requires : goal.numbers_ok-requires
numbers_ok-requires c = cells_board c

pub returns-then-not-numbers_ok : goal.returns-then-not-numbers_ok
returns-then-not-numbers_ok c =
    let a = c.args in
    rw (
      board_later a.size.edgeless _ _ a.row a.column a.cells.now a.lent.now (measured (goal.at.returns-then-not-numbers_ok c).After-test_cells) c.in_ok-test_cells.ensures,
      ← c.if-not-start_ok.ensures,
      ← c.if-not-numbers_ok.ensures,
    )

pub start_cell-requires-clause-sized : goal.start_cell-requires-clause-sized
start_cell-requires-clause-sized c = (cells_board (goal.at.start_cell-requires-clause-sized c).Else-not-start_ok).sized

pub bounds-cells-start_cell : goal.bounds-cells-start_cell
bounds-cells-start_cell c =
    omega (arith, c.start_cell.ensures, start_cell_within _ _ _ _ (sym c.if-not-start_ok.ensures) c.args.cells.now (cells_board (goal.at.bounds-cells-start_cell c).Else-not-start_ok).whole)

pub returns-then-cells-start_cell : goal.returns-then-cells-start_cell
returns-then-cells-start_cell c =
    let a = c.args in
    rw (
      board_later a.size.edgeless _ _ a.row a.column a.cells.now a.lent.now (measured (goal.at.returns-then-cells-start_cell c).After-test_cells) c.in_ok-test_cells.ensures,
      ← c.if-not-start_ok.ensures,
      ← c.if-not-numbers_ok.ensures,
      mine_start_fails a.size.columns a.row a.column a.cells.now (rw (← c.start_cell.ensures) c.if-cells-start_cell.true),
    )

pub returns : goal.returns
returns c =
    let a = c.args in
    rw (
      board_later a.size.edgeless _ _ a.row a.column a.cells.now a.lent.now (measured (goal.at.returns c).After-test_cells) c.in_ok-test_cells.ensures,
      ← c.if-not-start_ok.ensures,
      ← c.if-not-numbers_ok.ensures,
      safe_start_passes a.size.columns a.row a.column a.cells.now (rw (← c.start_cell.ensures) c.if-cells-start_cell.false),
    )
