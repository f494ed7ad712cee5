-- `chunks::put_part` meets its contract: what the functions that it calls store is what one block more has in each array, and where no equation has a
-- marked cell nothing is stored. Rests on `shown_put`. Assumes nothing.
use mathlib.Core.Path.{◌∙◌}
use native.Mathlib.Omega.{arith}
use Rattle.blocks.proofs.Behind.{blocks_held, room_blocks}
use Rattle.blocks.proofs.Between.{cells_below}
use Rattle.chunks.proofs.Gathered.{marked_from}
use Rattle.chunks.proofs.Shown.{shown_fits, shown_nothing, shown_room, shown_cells_fit, shown_put}
use Rattle.chunks.proofs.put_part.Goals as goal

pub next_equation-first-requires : goal.next_equation-first-requires
next_equation-first-requires c = omega (arith, blocks_held c.args.out c.requires.room.held, c.requires.room.held.fits.few_blocks)

pub put_equations-end-requires-clause-end_bound : goal.put_equations-end-requires-clause-end_bound
put_equations-end-requires-clause-end_bound c =
    let set = c.args.set.now in
    shown_fits c.args.marks.now set.cells set.slots set.rests c.args.bounds c.args.out c.requires.room _ c.next_equation-first.ensures

pub returns-then-end-first : goal.returns-then-end-first
returns-then-end-first c =
    let set = c.args.set.now in
    let put = c.put_equations-end.ensures in
    shown_nothing c.args.marks.now set.cells set.slots set.rests c.args.bounds c.args.out c.requires.room _ c.next_equation-first.ensures _ put.value _ put.slots_after c.if-end-first.true _ put.rests_after

pub next_cell-first_cell-requires : goal.next_cell-first_cell-requires
next_cell-first_cell-requires c = omega (arith, blocks_held c.args.out c.requires.room.held, c.requires.room.held.fits.few_blocks)

pub put_cells-end_cell-requires-clause-below : goal.put_cells-end_cell-requires-clause-below
put_cells-end_cell-requires-clause-below c =
    rw c.cells_of.ensures (cells_below c.args.set.now.cells c.args.bounds.first_cell c.args.bounds.end_cell c.requires.stands.0.in_cells)

pub put_cells-end_cell-requires-clause-end_bound : goal.put_cells-end_cell-requires-clause-end_bound
put_cells-end_cell-requires-clause-end_bound c =
    let set = c.args.set.now in
    let put = c.put_equations-end.ensures in
    rw (marked_from c.args.marks.now set.cells _ _ _ c.cells_of.ensures)
    (shown_cells_fit c.args.marks.now set.cells set.slots set.rests c.args.bounds c.args.out c.requires.room _ c.next_equation-first.ensures _ put.value _ put.slots_after c.if-end-first.false _ c.next_cell-first_cell.ensures)

pub end_block-requires : goal.end_block-requires
end_block-requires c =
    let set = c.args.set.now in
    let marks = c.args.marks.now in
    let put = c.put_equations-end.ensures in
    let same = marked_from marks set.cells _ _ _ c.cells_of.ensures in
    let room = shown_room marks set.cells set.slots set.rests c.args.bounds c.args.out c.requires.room _ c.next_equation-first.ensures _ put.value _ put.slots_after c.if-end-first.false in
    let cells = shown_cells_fit marks set.cells set.slots set.rests c.args.bounds c.args.out c.requires.room _ c.next_equation-first.ensures _ put.value _ put.slots_after c.if-end-first.false _ c.next_cell-first_cell.ensures in
    let equations = shown_fits marks set.cells set.slots set.rests c.args.bounds c.args.out c.requires.room _ c.next_equation-first.ensures in
    (room_blocks c.args.out _ room, rw (c.put_cells-end_cell.ensures.value, same) cells, rw put.value equations)

pub returns : goal.returns
returns c =
    let set = c.args.set.now in
    let marks = c.args.marks.now in
    let put = c.put_equations-end.ensures in
    let same = marked_from marks set.cells _ _ _ c.cells_of.ensures in
    c.end_block.ensures
    ∙ shown_put marks set.cells set.slots set.rests c.args.bounds c.args.out c.requires.room _ c.next_equation-first.ensures _ put.value _ put.slots_after c.if-end-first.false _ c.next_cell-first_cell.ensures
    _ (rw same at c.put_cells-end_cell.ensures.value) _ (rw same at c.put_cells-end_cell.ensures.out_after) _ put.rests_after
