-- `flood::open_cell` meets its contract: a closed cell is opened and goes on the stack, which has room for every closed cell. Rests on the laws of
-- `open_one`. Assumes nothing.
use Rattle.flood.proofs.Opening.{open_kept, open_room, open_pushed, room_pushed}
use Rattle.flood.proofs.open_cell.Goals as goal

pub push-requires : goal.push-requires
push-requires c = open_room _ _ _ _ _ c.requires.room c.requires.cell_in_bounds (rw c.wide-c.ensures at c.if-position-c-eq10.true)

pub returns-then-position-c-eq10 : goal.returns-then-position-c-eq10
returns-then-position-c-eq10 c =
    let at = c.wide-c.ensures in
    let shut = rw at at c.if-position-c-eq10.true in
    rw (at, c.push.ensures.0, c.push.ensures.1) record { room_2 = room_pushed _ _ _ _ _ c.requires.room c.requires.cell_in_bounds shut; opened = open_pushed _ _ _ _ _ c.requires.room c.requires.cell_in_bounds shut }

pub returns-else-position-c-eq10-clause-opened : goal.returns-else-position-c-eq10-clause-opened
returns-else-position-c-eq10-clause-opened c = open_kept _ _ _ _ _ c.requires.room c.requires.cell_in_bounds (rw c.wide-c.ensures at c.if-position-c-eq10.false)
