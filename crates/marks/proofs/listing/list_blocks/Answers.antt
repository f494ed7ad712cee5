-- `marks::listing::list_blocks` meets its contract. The loop's invariant: the marked cells of the first b blocks, from the last block to the first, stored from
-- place k on, give what those of all blocks give from the start.  Rests on the laws of `Storing`. Assumes nothing.
use Prim.Native.Nat.{ℕ, ◌-◌}
use mathlib.Core.Path.{refl}
use native.Mathlib.Omega.{arith}
use native.Mathlib.Nat.{zero-add}
use lib.ListN.{length, get_or}
use Rattle.lists.proofs.Joined.{filled_sets}
use Rattle.lists.proofs.Storing.{storing_start}
use Rattle.blocks.specs.BlockSets.{begin_at}
use Rattle.marks.specs.Marked.{cells_with, all_with}
use Rattle.marks.proofs.ByMarks.{all_last, all_none}
use Rattle.lists.proofs.StoredAndKept.{run_room, run_next, run_end}
use Rattle.marks.proofs.listing.list_blocks.Goals as goal

pub loop-b-init : goal.loop-b-init
loop-b-init c = storing_start refl

pub begin_at-first-requires : goal.begin_at-first-requires
begin_at-first-requires c = omega (arith, c.requires.parts.few)

pub offset_bounds-cell_ends-b : goal.offset_bounds-cell_ends-b
offset_bounds-cell_ends-b c = omega (arith, c.requires.parts.few)

pub bounds-cell_ends-b : goal.bounds-cell_ends-b
bounds-cell_ends-b c = omega (arith, c.requires.parts.few, c.loop-b-test.true)

pub list_cells-k-requires : goal.list_cells-k-requires
list_cells-k-requires c =
    let loop = c.loop-b in
    let test = c.loop-b-test.true in
    let last = cells_with c.args.marks.now 1 c.args.cells.now (begin_at c.args.cell_ends.now (loop.b - 1)) (get_or c.args.cell_ends.now (loop.b - 1) 0) in
    let before = all_with c.args.marks.now c.args.cells.now c.args.cell_ends.now (loop.b - 1) in
    rw (c.wide.ensures, c.begin_at-first.ensures) record { cells = c.requires.parts.in_cells (loop.b - 1) (omega (arith, test)); out_len = loop.invariant.long; room = run_room loop.invariant last before (all_last c.args.marks.now c.args.cells.now c.args.cell_ends.now loop.b test) 1024 (omega (arith, c.requires.room)) }

pub loop-b-preserved : goal.loop-b-preserved
loop-b-preserved c =
    let loop = c.loop-b in
    let test = c.loop-b-test.true in
    let put = rw (c.wide.ensures, c.begin_at-first.ensures) at c.list_cells-k.ensures in
    let last = cells_with c.args.marks.now 1 c.args.cells.now (begin_at c.args.cell_ends.now (loop.b - 1)) (get_or c.args.cell_ends.now (loop.b - 1) 0) in
    let before = all_with c.args.marks.now c.args.cells.now c.args.cell_ends.now (loop.b - 1) in
    run_next loop.invariant last before (all_last c.args.marks.now c.args.cells.now c.args.cell_ends.now loop.b test) _ put.out_after _ put.value

pub returns : goal.returns
returns c =
    let loop = c.loop-b in
    let end = run_end loop.invariant (all_none c.args.marks.now c.args.cells.now c.args.cell_ends.now loop.b c.loop-b-test.false) in
    rw (end.0, end.1, filled_sets {A = ℕ} 1024 0 _ c.requires.room, zero-add (length (all_with c.args.marks.now c.args.cells.now c.args.cell_ends.now c.args.blocks)))
