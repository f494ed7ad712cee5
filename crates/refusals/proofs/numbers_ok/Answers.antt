-- `numbers_ok` meets its contract. The loop's invariant: every cell before the loop's is a mine or has the number of mines beside it. Rests on the contract of
-- `number_ok`. Assumes nothing.
use mathlib.Core.Path.{◌≡◌, sym}
use native.Mathlib.Omega.{arith}
use lib.ListN.{length}
use Rattle.lists.proofs.Tests.{every_fails}
use Rattle.grid.specs.Window.{neighbours_on}
use Rattle.refusals.specs.Tests.{numbers_ok}
use Rattle.refusals.proofs.Numbers.{number_ok}
use Rattle.refusals.proofs.numbers_ok.Goals as goal

pub returns-then-not-number_ok : goal.returns-then-not-number_ok
unfolding numbers_ok
returns-then-not-number_ok c =
    let cells = c.args.cells.now in
    sym (every_fails (length cells) (number_ok (neighbours_on c.args.size) cells) c.loop-cell.cell c.loop-cell-test.true (sym c.if-not-number_ok.ensures))

pub returns : goal.returns
unfolding numbers_ok
returns c =
    let loop = c.loop-cell in
    let all : loop.cell ≡ length c.args.cells.now = omega (arith, loop.invariant.0, c.loop-cell-test.false) in
    sym (rw all at loop.invariant.1)
