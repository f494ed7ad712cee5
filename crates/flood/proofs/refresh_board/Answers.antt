-- `flood::refresh_board` meets its contract. The loop's invariant: the stack has room for every closed cell, and a flood that has come to where the loop
-- began has come on to here, with the neighbours of the 0s on the stack still to be opened. When the stack is empty nothing is left to be opened, and that is
-- the position of `open_cells`. The measure is the cells on the stack and the closed cells, together. Rests on the laws of Reached, Opening and Waiting. Assumes nothing.
use Prim.Native.Nat.{◌-◌, ◌≤◌, ◌<◌}
use mathlib.Core.Path.{◌≡◌, sym, ◌∙◌}
use native.Mathlib.Omega.{arith}
use lib.ListN.{length, get_or}
use Rattle.grid.proofs.Neighbours.{neighbours_few}
use Rattle.flood.specs.Stack.{Room}
use Rattle.flood.proofs.Reached.{so_far_ends}
use Rattle.flood.proofs.Opening.{taken_on, room_taken, held_counts}
use Rattle.flood.proofs.Waiting.{so_far_held, so_far_first, so_far_zero, so_far_number, so_far_last}
use Rattle.flood.proofs.OnBoard.{room_first, beside_cells, beside_on}
use Rattle.flood.proofs.refresh_board.Goals as goal
use Rattle.flood.proofs.refresh_board.Goals.{After-wide-c}

pub open_list-requires : goal.open_list-requires
open_list-requires c = let board = c.requires.board.0 in record { room = room_first _ _ _ _ board c.requires.accepted _ c.requires.board.1; on_board = rw board.whole c.requires.on_board }

-- the cell is the last of the stack, and is on the board
last : (c : After-wide-c) → c.wide-c.result ≡ get_or c.loop-cell.stack (c.loop-cell.n - 1) 0
last c = c.wide-c.ensures ∙ c.in-Some.ensures.last.1

on : (c : After-wide-c) → c.wide-c.result < length c.args.board.now
on c = let l = c.loop-cell in taken_on _ l.position l.stack l.n _ l.invariant.0 c.in-Some.ensures.last.0 (last c)

-- the stack without it has room
room : (c : After-wide-c) → Room c.args.board.now c.loop-cell.position c.loop-cell.stack (c.loop-cell.n - 1)
room c = let l = c.loop-cell in room_taken _ l.position l.stack l.n _ l.invariant.0 c.in-Some.ensures.last.0 (last c)

pub open_list-requires-then-board-c-eq0 : goal.open_list-requires-then-board-c-eq0
open_list-requires-then-board-c-eq0 c =
    let before = (goal.at.open_list-requires-then-board-c-eq0 c).After-wide-c in
    record {
      room = rw c.in-Some.ensures.last.2 (room before);
      on_board = rw c.as_slice.ensures (beside_on _ _ _ _ c.requires.board.0 _ (on before) _ c.neighbours_of-near.ensures);
    }

pub loop-cell-smaller-then-board-c-eq0 : goal.loop-cell-smaller-then-board-c-eq0
loop-cell-smaller-then-board-c-eq0 c =
    let l = c.loop-cell in
    let o = c.open_list-then-board-c-eq0 in
    let opened = rw c.in-Some.ensures.last.2 at o.ensures.opened in
    omega (
      arith,
      c.in-Some.ensures.last.0,
      held_counts _ l.position l.stack (l.n - 1) o.new.position o.new.stack o.new.n _ (room (goal.at.loop-cell-smaller-then-board-c-eq0 c).After-wide-c) o.ensures.room_2 opened,
    )

pub loop-cell-preserved-then-board-c-eq0 : goal.loop-cell-preserved-then-board-c-eq0
loop-cell-preserved-then-board-c-eq0 c =
    let l = c.loop-cell in
    let after = c.open_list-then-board-c-eq0 in
    let before = (goal.at.loop-cell-preserved-then-board-c-eq0 c).After-wide-c in
    let some = c.in-Some.ensures.last.0 in
    let few : l.n ≤ length l.stack = omega (arith, l.invariant.0.room, l.invariant.0.long) in
    let list = c.as_slice.ensures ∙ beside_cells _ _ _ _ c.requires.board.0 _ (on before) _ c.neighbours_of-near.ensures in
    let opened = rw (c.in-Some.ensures.last.2, list) at after.ensures.opened in (
      after.ensures.room_2,
      λ p cs f. so_far_held _ _ p cs c.requires.accepted l.position l.stack (l.n - 1) _ after.new.position after.new.stack after.new.n opened
          (so_far_zero _ _ p cs l.position l.stack l.n _ few some (last before) (l.invariant.1 p cs f) c.if-board-c-eq0.true),
    )

pub loop-cell-preserved : goal.loop-cell-preserved
loop-cell-preserved c =
    let l = c.loop-cell in
    let some = c.in-Some.ensures.last.0 in
    let few : l.n ≤ length l.stack = omega (arith, l.invariant.0.room, l.invariant.0.long) in
    rw c.in-Some.ensures.last.2 (
      room (goal.at.loop-cell-preserved c).After-wide-c,
      λ p cs f. so_far_number _ _ p cs l.position l.stack l.n _ few some (last (goal.at.loop-cell-preserved c).After-wide-c) (l.invariant.1 p cs f) c.if-board-c-eq0.false,
    )

pub returns : goal.returns
returns c =
    let l = c.loop-cell in
    let ok = c.requires.accepted in
    let whole : length c.args.position.now ≡ length c.args.board.now = c.requires.board.1.whole ∙ sym c.requires.board.0.whole in
    let p = c.args.position.now in
    let cs = c.args.cells.now in
    let o = c.open_list in
    let first = so_far_first _ _ p cs ok o.new.position o.new.stack o.new.n whole o.ensures.opened in
    so_far_ends _ _ ok (λ c _. neighbours_few _ _ _ c) p whole cs _ (so_far_last _ _ p cs _ l.stack l.n (omega (arith, c.in_default.ensures.empty.0)) (l.invariant.1 p cs first))
