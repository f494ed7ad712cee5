-- `flood::open_list` meets its contract. The loop's invariant: opening the cells of the list from here on gives from here what opening all of them gives from
-- the start. Rests on the laws of `open_each`. Assumes nothing.
use mathlib.Core.Path.{◌∙◌}
use Rattle.flood.specs.Stack.{held}
use Rattle.flood.proofs.Opening.{each_next, each_end}
use Rattle.flood.proofs.open_list.Goals as goal

pub loop-cell-preserved : goal.loop-cell-preserved
loop-cell-preserved c =
    let l = c.loop-cell in
    let opened = c.open_cell.ensures in
    (opened.room_2, each_next c.args.board.now _ c.args.cells.now l.cell-index c.loop-cell-test.true _ opened.opened ∙ l.invariant.1)

pub returns-clause-opened : goal.returns-clause-opened
returns-clause-opened c =
    let l = c.loop-cell in
    rw (each_end c.args.board.now (held l.position l.stack l.n) c.args.cells.now l.cell-index c.loop-cell-test.false) at l.invariant.1
