-- `passes::all_open` meets its contract. The loop's invariant: every cell before i is a mine or open. Rests on CellByCell. Assumes nothing.
use Rattle.verdict.proofs.CellByCell.{shut_fails, all_passed}
use Rattle.verdict.proofs.passes.all_open.Goals as goal

pub returns-then-position-i-gt8 : goal.returns-then-position-i-gt8
returns-then-position-i-gt8 c = shut_fails c.args.board.now c.args.position.now c.requires c.loop-i.i c.loop-i-test.true c.if-cell.true c.if-position-i-gt8.true

pub returns : goal.returns
returns c = all_passed _ _ c.loop-i.i c.loop-i.invariant.0 c.loop-i-test.false c.loop-i.invariant.1
