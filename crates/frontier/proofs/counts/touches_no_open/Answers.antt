-- `touches_no_open` meets its contract. The loop's invariant: a neighbour from here on is open exactly where any neighbour is. On the board the code's reading
-- of a cell is what the position shows there. Rests on the laws of the neighbours. Assumes nothing.
use mathlib.Core.Path.{◌∙◌, ap}
use Prim.Native.Nat.{◌<◌}
use mathlib.Core.Bool.{not}
use native.Mathlib.Omega.{arith}
use lib.ListN.{length}
use Rattle.lists.proofs.Arrays.{drop_more}
use Rattle.grid.proofs.Listed.{near_items, near_item_on}
use Rattle.frontier.proofs.CountTurns.{read_open}
use Rattle.frontier.proofs.counts.touches_no_open.Goals as goal
use Rattle.frontier.proofs.counts.touches_no_open.Goals.{After-wide}

on_board : (c : After-wide) → c.wide.result < length c.args.position.now
on_board c =
    omega (arith, near_item_on _ _ _ _ _ _ c.requires.on c.neighbours_of-near.ensures _ _ _ c.as_slice-neighbour-items.ensures c.loop-neighbour-test.true c.wide.ensures, c.requires.board.whole)

pub bounds-position-wide : goal.bounds-position-wide
bounds-position-wide c = on_board (goal.at.bounds-position-wide c).After-wide

pub returns-then-position-wide-le8 : goal.returns-then-position-wide-le8
returns-then-position-wide-le8 c =
    let l = c.loop-neighbour in
    let open_there = read_open c.args.position.now c.wide.result (on_board (goal.at.returns-then-position-wide-le8 c).After-wide) c.if-position-wide-le8.true in
    let next = drop_more c.as_slice-neighbour-items.result.now l.neighbour-index 0 c.loop-neighbour-test.true in
    let found = rw (next, ← c.wide.ensures, open_there) at l.invariant in
    ap not (rw (c.as_slice-neighbour-items.ensures ∙ near_items _ _ _ _ _ _ c.requires.on c.neighbours_of-near.ensures) at found)
