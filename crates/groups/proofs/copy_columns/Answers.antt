-- `groups::copy_columns` meets its contract. Rests on the laws of `Storing`. Assumes nothing.
use mathlib.Core.Path.{◌∙◌}
use Rattle.lists.proofs.Arrays.{length_pad, drop_next}
use Rattle.lists.proofs.Storing.{storing_next}
use Rattle.blocks.specs.BlockSets.{slot_cells}
use Rattle.blocks.proofs.Between.{slots_eight}
use Rattle.blocks.proofs.EightCells.{cells_listed}
use Rattle.groups.proofs.copy_columns.Goals as goal

pub loop-g-preserved : goal.loop-g-preserved
loop-g-preserved c =
    let l = c.loop-g in
    let x = c.wide.result in
    let own = slot_cells c.args.columns.now x in
    let next = drop_next c.args.firsts.now l.g 0 x c.loop-g-test.true c.wide.ensures in
    storing_next l.invariant next (length_pad 8 65535 own (slots_eight c.args.columns.now x)) _ (c.put_slots.ensures ∙ rw (cells_listed own c.slots_at.ensures))
