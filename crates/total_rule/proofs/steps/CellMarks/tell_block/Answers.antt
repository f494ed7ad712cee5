-- `total_rule::steps::CellMarks::tell_block` meets its contract: what the solutions show of the block's groups is told to its cells. Rests on ToldBlocks and on the
-- contracts of the calls. Assumes nothing.
use Rattle.blocks.specs.Places.{block_between}
use Rattle.groups.proofs.BlockColumns.{block_cells}
use Rattle.total_rule.specs.Blocks.{mine_allowed, free_allowed}
use Rattle.total_rule.proofs.ToldBlocks.{groups_in_array, told_block}
use Rattle.total_rule.proofs.steps.CellMarks.tell_block.Goals as goal

pub count_block-counted-requires : goal.count_block-counted-requires
count_block-counted-requires c =
    let table = c.requires.table_below.0 in
    record { combinable = (_, c.requires.combinable, c.combine-grouped.ensures); tags_len = (table.whole.0, table.whole.1, table.whole.2, table.below, c.requires.table_below.1) }

pub cells_of-cells-requires : goal.cells_of-cells-requires
cells_of-cells-requires c = (c.requires.arrays.1, c.requires.arrays.0.in_cells.few)

pub tell_cells-requires : goal.tell_cells-requires
tell_cells-requires c = record {
  below = rw (c.cells_of-cells.ensures, ← block_cells c.args.set.now.cells c.args.set.now.slots c.args.set.now.rests c.args.bounds) c.requires.combinable.below;
  by_index = λ d. rw c.combine-grouped.ensures (groups_in_array _ c.requires.combinable d);
}

pub tell_cells-requires-2 : goal.tell_cells-requires-2
tell_cells-requires-2 c = record {
  below = rw (c.cells_of-cells.ensures, ← block_cells c.args.set.now.cells c.args.set.now.slots c.args.set.now.rests c.args.bounds) c.requires.combinable.below;
  by_index = λ d. rw c.combine-grouped.ensures (groups_in_array _ c.requires.combinable d);
}

pub returns : goal.returns
returns c =
    let is = c.combine-grouped.ensures in
    let e = c.count_block-counted.ensures in
    let set = c.args.set.now in
    let b = block_between set c.args.bounds in
    let counted = e.counted_by b c.requires.combinable is in
    let cells = c.cells_of-cells.ensures in record {
      by_index = counted.reaches;
      told_block = told_block set.cells set.slots set.rests c.args.bounds c.requires.combinable c.combine-grouped.result is c.count_block-counted.result.mined (mine_allowed c.args.allowed.now b)
          counted.mines (rw cells at c.tell_cells.ensures);
      told_block_2 = told_block set.cells set.slots set.rests c.args.bounds c.requires.combinable c.combine-grouped.result is c.count_block-counted.result.unfilled
          (free_allowed c.args.allowed.now b) counted.frees (rw cells at c.tell_cells-2.ensures);
      table_below_2 = record { whole = (e.tags_len_2.0, e.tags_len_2.1, e.tags_len_2.2); below = e.tags_len_2.3 };
    }
