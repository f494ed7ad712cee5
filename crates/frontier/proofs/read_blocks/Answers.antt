-- `read_blocks` meets its contract. The loop's invariant: the set holds the blocks done, which with the blocks of the sources left are the whole frontier, and
-- `places` has no cell for the next block yet (`BlocksSoFar`). The measure is the sources left: a block has at least one. A turn is one block more, for which
-- there is room, since what is written is a beginning of the frontier. Rests on the laws of `BlocksSoFar`. Assumes nothing.
use mathlib.Core.Path.{◌≡◌, refl}
use mathlib.Core.Bool.{true}
use native.Mathlib.Omega.{arith}
use lib.Dec.{ltb}
use lib.ListN.{length}
use lib.Seq.{length-take-le}
use Rattle.lists.specs.Lists.{all}
use Rattle.sources.specs.Reading.{Slots}
use Rattle.sources.proofs.SourceLaws.{read_none}
use Rattle.sources.proofs.ReadSlots.{read_slots}
use Rattle.frontier.proofs.BlocksSoFar.{NextFits, none_so_far, next_fits, one_more, all_so_far}
use Rattle.frontier.proofs.read_blocks.Goals as goal
use Rattle.frontier.proofs.read_blocks.Goals.{After-grow_block, After-as_slice-part, After-read}

-- what the slots of the sources tell
slots : (c : After-read) → Slots c.args.size.edgeless c.args.size.columns c.read.new.self.beside
slots c = read_slots _ c.requires c.read.ensures

-- there is room for the block that has grown
fits : (c : After-grow_block)
    → (let a = c.args in
    let l = c.loop-left in
    let found = c.grow_block.new.found in
    NextFits a.size.rows a.size.columns a.position.now c.read.new.self.beside found.cells found.len l.set.slots l.set.rests l.k l.e l.set.blocks)
fits c =
    let told = c.grow_block.ensures in
    next_fits _ c.requires c.read.ensures c.loop-left.invariant.0 c.loop-left-test.true
    told.cells_2.1 told.cells_2.0 told.found_after told.left_after

-- how many sources it has
length_part : (c : After-as_slice-part) → length c.as_slice-part.result.now ≡ c.grow_block.new.found.len
length_part c =
    let cells = c.grow_block.ensures.cells_2.1 in
    rw c.as_slice-part.ensures (length-take-le c.grow_block.new.found.len c.grow_block.new.found.cells (omega (arith, cells.long, cells.few)))

on_board : (c : After-as_slice-part) → all (λ d. ltb d 1024) c.as_slice-part.result.now ≡ true
on_board c = rw c.as_slice-part.ensures c.grow_block.ensures.cells_2.1.on_board

-- ---- the needs
pub read-requires-clause-read : goal.read-requires-clause-read
read-requires-clause-read c = read_none _ _ _ refl

pub loop-left-init : goal.loop-left-init
loop-left-init c = rw c.empty_set-set.ensures (none_so_far _ c.requires c.read.ensures, refl)

pub grow_block-requires-clause-slots : goal.grow_block-requires-clause-slots
grow_block-requires-clause-slots c = slots (goal.at.grow_block-requires-clause-slots c).After-read

pub fill_cells-k-requires-clause-board_slots : goal.fill_cells-k-requires-clause-board_slots
fill_cells-k-requires-clause-board_slots c = ((slots (goal.at.fill_cells-k-requires-clause-board_slots c).After-read).held, on_board (goal.at.fill_cells-k-requires-clause-board_slots c).After-as_slice-part)

pub fill_cells-k-requires-clause-found_bound : goal.fill_cells-k-requires-clause-found_bound
fill_cells-k-requires-clause-found_bound c = rw c.as_slice-part.ensures (fits (goal.at.fill_cells-k-requires-clause-found_bound c).After-grow_block).cells_room

pub fill_equations-e-requires-clause-board_slots : goal.fill_equations-e-requires-clause-board_slots
fill_equations-e-requires-clause-board_slots c = ((slots (goal.at.fill_equations-e-requires-clause-board_slots c).After-read).held, on_board (goal.at.fill_equations-e-requires-clause-board_slots c).After-as_slice-part)

pub fill_equations-e-requires-clause-places_len : goal.fill_equations-e-requires-clause-places_len
fill_equations-e-requires-clause-places_len c =
    let room = fits (goal.at.fill_equations-e-requires-clause-places_len c).After-grow_block in
    let counted = length_part (goal.at.fill_equations-e-requires-clause-places_len c).After-as_slice-part in
    (c.fill_cells-k.ensures.placed_2.long, room.slots_long, room.rests_long, rw counted room.equations_room)

pub fill_equations-e-requires-clause-found_value : goal.fill_equations-e-requires-clause-found_value
fill_equations-e-requires-clause-found_value c = rw c.as_slice-part.ensures (fits (goal.at.fill_equations-e-requires-clause-found_value c).After-grow_block).are_open

pub end_block-requires : goal.end_block-requires
end_block-requires c =
    let room = fits (goal.at.end_block-requires c).After-grow_block in
    let counted = length_part (goal.at.end_block-requires c).After-as_slice-part in
    (room.block_room, c.fill_cells-k.ensures.placed_2.few, rw (c.fill_equations-e.ensures.value, counted) room.equations_room)

pub loop-left-smaller : goal.loop-left-smaller
loop-left-smaller c = omega (arith, (fits (goal.at.loop-left-smaller c).After-grow_block).some, c.drop_first.ensures.cells.1, c.grow_block.ensures.le_left.1)

pub loop-left-preserved : goal.loop-left-preserved
loop-left-preserved c =
    let told = c.grow_block.ensures in
    let filled = c.fill_cells-k.ensures in
    let written = c.fill_equations-e.ensures in
    let dropped = c.drop_first.ensures in
    let counted = length_part (goal.at.loop-left-preserved c).After-as_slice-part in
    let part = c.as_slice-part.ensures in
    rw (c.end_block.ensures, written.value, counted) (
      one_more _ c.requires c.read.ensures c.loop-left.invariant.0 c.loop-left-test.true
          told.cells_2.1 told.cells_2.0 told.found_after told.left_after
          filled.placed_2 filled.cells_unchanged (rw part at filled.cells_after) refl (rw part at written.slots_after) (rw part at written.rests_after)
          dropped.cells.0 dropped.left_after told.le_left.1 dropped.cells.1,
      told.cells_2.1.long,
    )

pub returns : goal.returns
returns c = all_so_far _ c.requires c.read.ensures c.loop-left.invariant.0 c.loop-left-test.false
