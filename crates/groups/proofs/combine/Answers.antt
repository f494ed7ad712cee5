-- `groups::combine` meets its contract: what the functions that it calls are asked holds of a block with few equations for each cell, and what they
-- tell together is the block over its groups. Rests on the laws of `BlockColumns` and `GroupedBlock`. Assumes nothing.
use mathlib.Core.Path.{refl, ◌∙◌}
use native.Mathlib.Omega.{arith}
use lib.ListN.{length-take}
use Rattle.blocks.proofs.Between.{length_cells, cells_below}
use Rattle.groups.proofs.BlockColumns.{block_cells, cells_order, equations_order, equation_once, columns_few, groups_eight}
use Rattle.groups.proofs.GroupedBlock.{first_cells_below, few_groups, combined}
use Rattle.groups.proofs.PassedEquations.{negative_from}
use Rattle.groups.proofs.combine.Goals as goal

pub fill_columns-requires : goal.fill_columns-requires
fill_columns-requires c =
    let s = c.args.set.now in
    let bounds = c.args.bounds in
    let h = c.requires.combinable in
    record {
      slots = (c.requires.arrays.in_slots, equations_order s.cells s.slots s.rests bounds h, refl);
      by_index = equation_once s.cells s.slots s.rests bounds h;
      by_index_2 = columns_few s.cells s.slots s.rests bounds h;
    }

pub cells_of-cells-requires : goal.cells_of-cells-requires
cells_of-cells-requires c =
    let s = c.args.set.now in
    (cells_order s.cells s.slots s.rests c.args.bounds c.requires.combinable, c.requires.arrays.in_cells.few)

pub fill_groups-groups-requires : goal.fill_groups-groups-requires
fill_groups-groups-requires c =
    let s = c.args.set.now in
    let bounds = c.args.bounds in
    let h = c.requires.combinable in
    let are = c.fill_columns.ensures in
    let few = c.requires.arrays.in_cells.few in
    let long = length_cells s.cells bounds.first_cell bounds.end_cell in
    rw c.cells_of-cells.ensures
    record {
      cells = (cells_below s.cells bounds.first_cell bounds.end_cell c.requires.arrays.in_cells, omega arith);
      firsts_value = (refl, refl, refl);
      few_alike = rw (block_cells s.cells s.slots s.rests bounds) at (groups_eight s.cells s.slots s.rests bounds h _ are);
    }

pub copy_columns-requires : goal.copy_columns-requires
copy_columns-requires c =
    let s = c.args.set.now in
    let are = c.fill_columns.ensures in
    let found = rw c.cells_of-cells.ensures at c.fill_groups-groups.ensures in
    let below = first_cells_below s.cells s.slots s.rests c.args.bounds c.requires.combinable _ are _ _ _ _ found in
    let few = few_groups s.cells s.slots s.rests c.args.bounds c.requires.combinable _ are _ _ _ _ found in
    (below, omega (arith, length-take c.fill_groups-groups.result c.fill_groups-groups.new.firsts))

pub fill_needs-requires-clause-slots : goal.fill_needs-requires-clause-slots
fill_needs-requires-clause-slots c =
    let s = c.args.set.now in
    (c.requires.arrays.in_slots, equations_order s.cells s.slots s.rests c.args.bounds c.requires.combinable)

pub returns : goal.returns
returns c =
    let s = c.args.set.now in
    let bounds = c.args.bounds in
    let h = c.requires.combinable in
    let are = c.fill_columns.ensures in
    let found = rw c.cells_of-cells.ensures at c.fill_groups-groups.ensures in
    let put = c.fill_needs.ensures in
    let long = c.requires.arrays.whole in
    let order = equations_order s.cells s.slots s.rests bounds h in
    let negative = c.has_negative.ensures ∙ negative_from s.slots s.rests bounds.first_equation bounds.end_equation (omega (arith, c.requires.arrays.in_slots.few)) order in
    combined s.cells s.slots s.rests bounds h _ are _ _ _ _ found _ _ _ _ c.copy_columns.ensures put.needs_after put.rooms_after negative

pub overflow_sub-result : goal.overflow_sub-result
overflow_sub-result c = let s = c.args.set.now in equations_order s.cells s.slots s.rests c.args.bounds c.requires.combinable

pub slice_bounds-has_negative-count : goal.slice_bounds-has_negative-count
slice_bounds-has_negative-count c = let s = c.args.set.now in equations_order s.cells s.slots s.rests c.args.bounds c.requires.combinable

pub slice_bounds-has_negative-start : goal.slice_bounds-has_negative-start
slice_bounds-has_negative-start c = let s = c.args.set.now in equations_order s.cells s.slots s.rests c.args.bounds c.requires.combinable
