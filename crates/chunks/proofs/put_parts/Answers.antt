-- `chunks::put_parts` meets its contract. Rests on the laws of `Growing` and on `parts_others`. Assumes nothing.
use Prim.Native.Nat.{◌+◌, ◌<◌}
use mathlib.Core.Path.{◌≡◌}
use native.Mathlib.Omega.{arith}
use lib.ListN.{get_or}
use borrow.Author.Tests.{eq-eqb, ne_eqb}
use Rattle.blocks.proofs.Behind.{growing_start, growing_room, growing_next, growing_pass, growing_end}
use Rattle.blocks.proofs.Between.{length_cells, cell_place, cells_below}
use Rattle.chunks.proofs.Remaining.{parts_start, parts_done, parts_pass, parts_first, parts_others}
use Rattle.chunks.proofs.put_parts.Goals as goal
use Rattle.chunks.proofs.put_parts.Goals.{After-wide-c, else-done-c-ne1, then-done-c-ne1}

pub loop-cell-init : goal.loop-cell-init
loop-cell-init c =
    let set = c.args.set.now in
    let start : c.args.bounds.first_cell + 0 ≡ c.args.bounds.first_cell = omega arith in
    rw start (growing_pass (growing_start c.requires.room) _ (parts_start set.cells set.slots set.rests c.args.bounds 1024))

-- the place of the next cell among the set's cells
place : (c : After-wide-c)
    → (c.args.bounds.first_cell + c.loop-cell.cell-index < c.args.bounds.end_cell)
    × (c.wide-c.result ≡ get_or c.args.set.now.cells (c.args.bounds.first_cell + c.loop-cell.cell-index) 0)
place c =
    cell_place c.args.set.now.cells c.args.bounds.first_cell c.args.bounds.end_cell _ _ _ c.cells_of-cells.ensures c.loop-cell-test.true c.wide-c.ensures

on_board : (c : After-wide-c) → c.wide-c.result < 1024
on_board c = rw (place c).1 (c.requires.stands.0.in_cells.below _ (place c).0)

pub bounds-done-c : goal.bounds-done-c
bounds-done-c c = on_board (goal.at.bounds-done-c c).After-wide-c

pub connected_with-marks-requires-clause-c_bound : goal.connected_with-marks-requires-clause-c_bound
connected_with-marks-requires-clause-c_bound c = on_board (goal.at.connected_with-marks-requires-clause-c_bound c).After-wide-c

pub put_part-out-requires-clause-room : goal.put_part-out-requires-clause-room
put_part-out-requires-clause-room c =
    let loop = c.loop-cell in
    let set = c.args.set.now in
    let at = place (goal.at.put_part-out-requires-clause-room c).After-wide-c in
    growing_room loop.invariant c.requires.room.fits _ _
    (parts_first set.cells set.slots set.rests c.args.bounds loop.done _ _ at.0 at.1 (ne_eqb _ _ c.if-done-c-ne1.true) _ c.connected_with-marks.ensures)

pub add_done-requires : goal.add_done-requires
add_done-requires c =
    rw c.cells_of-cells.ensures (cells_below c.args.set.now.cells c.args.bounds.first_cell c.args.bounds.end_cell c.requires.stands.0.in_cells)

pub loop-cell-preserved : goal.loop-cell-preserved
loop-cell-preserved c =
    let loop = c.loop-cell in
    let set = c.args.set.now in
    let bounds = c.args.bounds in
    let at = place (goal.at.loop-cell-preserved c).After-wide-c in
    let next : bounds.first_cell + (loop.cell-index + 1) ≡ bounds.first_cell + loop.cell-index + 1 = omega arith in
    elim c.if-done-c-ne1.branch [
      | then-done-c-ne1 w ↦ rw (w.out-is, w.done-is, next)
          (growing_next loop.invariant c.requires.room.fits _ _
          (parts_others set.cells set.slots set.rests bounds loop.done _ _ at.0 at.1 (ne_eqb _ _ w.if-done-c-ne1.true) _ w.connected_with-marks.ensures w.add_done.new.done (omega arith)
          (rw c.cells_of-cells.ensures at w.add_done.ensures))
          _ w.put_part-out.ensures)
      | else-done-c-ne1 w ↦ rw (w.out-is, w.done-is, next)
          (growing_pass loop.invariant _ (parts_pass set.cells set.slots set.rests bounds loop.done _ _ at.0 at.1 (eq-eqb _ _ w.if-done-c-ne1.false)))
    ]

pub returns : goal.returns
returns c =
    let loop = c.loop-cell in
    let set = c.args.set.now in
    let bounds = c.args.bounds in
    let long = length_cells set.cells bounds.first_cell bounds.end_cell in
    let all = rw c.cells_of-cells.ensures at c.loop-cell-test.false in
    growing_end loop.invariant (parts_done set.cells set.slots set.rests bounds loop.done (bounds.first_cell + loop.cell-index) (omega arith))
