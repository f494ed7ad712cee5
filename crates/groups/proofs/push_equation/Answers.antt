-- `groups::push_equation` meets its contract. Rests on the laws of `PushedColumns`. Assumes nothing.
use Rattle.groups.proofs.PushedColumns.{Pushable, push_on_board, push_room, push_next}
use Rattle.groups.proofs.push_equation.Goals as goal
use Rattle.groups.proofs.push_equation.Goals.{After-as_slice-cell-items}

-- what is asked, of the cells as a slice
pushable : (c : After-as_slice-cell-items) → Pushable c.args.columns.now c.as_slice-cell-items.result.now c.args.place
pushable c =
    rw c.as_slice-cell-items.ensures
    record { slots = c.requires.slots; below = c.requires.on_board.0.below; once = c.requires.on_board.1; small = c.requires.on_board.2; room = c.requires.list_value }

pub push_slot-requires : goal.push_slot-requires
push_slot-requires c =
    let p = pushable (goal.at.push_slot-requires c).After-as_slice-cell-items in
    let l = c.loop-cell in
    (push_on_board p c.loop-cell-test.true c.wide.ensures l.invariant, push_room p c.loop-cell-test.true c.wide.ensures l.invariant)

pub loop-cell-preserved : goal.loop-cell-preserved
loop-cell-preserved c =
    push_next (pushable (goal.at.loop-cell-preserved c).After-as_slice-cell-items) c.loop-cell-test.true c.wide.ensures c.loop-cell.invariant _ c.push_slot.ensures
