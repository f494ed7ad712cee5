-- `enumeration::enumerate::enumerate_rule` meets its contract. The loop's invariant: what is listed so far, with what the blocks from place b on list, is what all
-- blocks list, and no block so far is without a solution. Rests on ListedBlock and ListedBlocks and on what `combine`, `shown_by` and `list_groups` ensure. Assumes
-- nothing.
use Prim.Native.Nat.{◌≤◌, ◌<◌}
use native.Mathlib.Omega.{arith}
use lib.ListN.{length}
use Rattle.blocks.specs.BlockSets.{blocks_of}
use Rattle.blocks.specs.Places.{Stands, block_between}
use Rattle.blocks.proofs.Behind.{blocks_held}
use Rattle.groups.specs.Grouping.{Combinable}
use Rattle.enumeration.proofs.ListedBlocks.{listed_start, next_arrays, next_order, next_below, next_combinable, groups_within, first_marks, safe_room, mines_room, block_listed, unsolved_answer, all_listed, none_whole}
use Rattle.enumeration.proofs.enumerate.enumerate_rule.Goals as goal
use Rattle.enumeration.proofs.enumerate.enumerate_rule.Goals.{After-bounds_at-bounds, After-shown_by-shown, After-cells_of-cells, In-loop-b}

-- the block is one of the set
inside : (c : In-loop-b) → c.loop-b.b < length (blocks_of c.args.set)
inside c = omega (arith, c.loop-b-test.true, blocks_held c.args.set c.requires.whole)

-- it stands in the arrays, and has groups
stands : (c : After-bounds_at-bounds) → Stands c.args.set c.bounds_at-bounds.result
stands c = next_arrays c.requires.whole c.requires.combinable c.loop-b.b (inside (goal.at.After-bounds_at-bounds c).In-loop-b) c.bounds_at-bounds.ensures

has_groups : (c : After-bounds_at-bounds) → Combinable (block_between c.args.set c.bounds_at-bounds.result)
has_groups c = next_combinable c.requires.whole c.requires.combinable c.loop-b.b (inside (goal.at.After-bounds_at-bounds c).In-loop-b) c.bounds_at-bounds.ensures

few_groups : (c : After-shown_by-shown) → c.combine-grouped.result.groups ≤ 1024
few_groups c =
    groups_within c.requires.whole c.requires.combinable c.loop-b.b (inside (goal.at.After-shown_by-shown c).In-loop-b) c.bounds_at-bounds.ensures c.combine-grouped.ensures c.shown_by-shown.ensures

pub loop-b-init : goal.loop-b-init
loop-b-init c = listed_start c.requires.whole c.requires.combinable c.none-lists.result c.none-lists.ensures

pub bounds_at-bounds-requires : goal.bounds_at-bounds-requires
bounds_at-bounds-requires c = omega (arith, inside (goal.at.bounds_at-bounds-requires c).In-loop-b, c.requires.whole.fits.few_blocks)

pub combine-grouped-requires : goal.combine-grouped-requires
combine-grouped-requires c = let at = (goal.at.combine-grouped-requires c).After-bounds_at-bounds in record { arrays = stands at; combinable = has_groups at }

pub shown_by-shown-requires : goal.shown_by-shown-requires
shown_by-shown-requires c =
    let at = (goal.at.shown_by-shown-requires c).After-bounds_at-bounds in
    record { arrays = stands at; combinable = has_groups at; grouped_value = c.combine-grouped.ensures }

pub overflow_add-shown : goal.overflow_add-shown
overflow_add-shown c =
    omega (
      arith,
      first_marks c.requires.whole c.requires.combinable c.loop-b.b (inside (goal.at.overflow_add-shown c).In-loop-b) c.bounds_at-bounds.ensures c.combine-grouped.ensures c.shown_by-shown.ensures,
    )

pub returns-then-shown-eq0-clause-value : goal.returns-then-shown-eq0-clause-value
returns-then-shown-eq0-clause-value c =
    unsolved_answer c.requires.whole c.requires.combinable c.loop-b.b (inside (goal.at.returns-then-shown-eq0-clause-value c).In-loop-b) c.bounds_at-bounds.ensures c.combine-grouped.ensures
    c.shown_by-shown.ensures c.loop-b.invariant c.if-shown-eq0.true

pub cells_of-cells-requires : goal.cells_of-cells-requires
cells_of-cells-requires c =
    let at = (goal.at.cells_of-cells-requires c).After-bounds_at-bounds in
    (next_order c.requires.whole c.requires.combinable c.loop-b.b (inside (goal.at.cells_of-cells-requires c).In-loop-b) c.bounds_at-bounds.ensures, (stands at).in_cells.few)

pub list_groups-requires : goal.list_groups-requires
list_groups-requires c =
    let i = inside (goal.at.list_groups-requires c).In-loop-b in record {
      below = rw c.cells_of-cells.ensures (next_below c.requires.whole c.requires.combinable c.loop-b.b i c.bounds_at-bounds.ensures);
      groups_bound = (few_groups (goal.at.list_groups-requires c).After-shown_by-shown, c.loop-b.invariant.safe_so_far.long);
      room = rw c.cells_of-cells.ensures
          (safe_room c.requires.whole c.requires.combinable c.loop-b.b i c.bounds_at-bounds.ensures c.combine-grouped.ensures c.shown_by-shown.ensures c.loop-b.invariant);
    }

pub list_groups-requires-in-loop-b : goal.list_groups-requires-in-loop-b
list_groups-requires-in-loop-b c =
    let i = inside (goal.at.list_groups-requires-in-loop-b c).In-loop-b in record {
      below = rw c.cells_of-cells.ensures (next_below c.requires.whole c.requires.combinable c.loop-b.b i c.bounds_at-bounds.ensures);
      groups_bound = (few_groups (goal.at.list_groups-requires-in-loop-b c).After-shown_by-shown, c.loop-b.invariant.mines_so_far.long);
      room = rw c.cells_of-cells.ensures
          (mines_room c.requires.whole c.requires.combinable c.loop-b.b i c.bounds_at-bounds.ensures c.combine-grouped.ensures c.shown_by-shown.ensures c.loop-b.invariant);
    }

pub loop-b-preserved : goal.loop-b-preserved
loop-b-preserved c =
    let is = c.cells_of-cells.ensures in
    block_listed c.requires.whole c.requires.combinable c.loop-b.b (inside (goal.at.loop-b-preserved c).In-loop-b) c.bounds_at-bounds.ensures c.combine-grouped.ensures c.shown_by-shown.ensures
    c.loop-b.invariant c.if-shown-eq0.false c.list_groups.new.list c.list_groups-in-loop-b.new.list (rw is at c.list_groups.ensures) (rw is at c.list_groups-in-loop-b.ensures)

pub returns-clause-value : goal.returns-clause-value
returns-clause-value c =
    all_listed c.requires.whole c.requires.combinable c.loop-b.b c.loop-b.invariant (omega (arith, c.loop-b-test.false, blocks_held c.args.set c.requires.whole)) c.empty_set.result c.empty_set.ensures

pub returns-clause-left_whole : goal.returns-clause-left_whole
returns-clause-left_whole c = none_whole c.requires.whole c.requires.combinable c.empty_set.result c.empty_set.ensures
