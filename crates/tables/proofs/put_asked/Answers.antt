-- `put_asked` meets its contract: a number that isn't below the block count is refused; else the block's bounds are found and its table is put.
-- Rests on AskedBlock and on what `bounds_at` and `put_table` ensure. Assumes nothing.
use mathlib.Core.Path.{◌∙◌}
use Prim.Native.Nat.{◌<◌}
use native.Mathlib.Omega.{arith}
use Rattle.tables.proofs.AskedBlock.{block_past, block_below, asked_arrays, asked_combinable, asked_seen}
use Rattle.tables.proofs.put_asked.Goals as goal

pub returns-then-set-block : goal.returns-then-set-block
returns-then-set-block c = block_past c.requires.whole c.args.block c.args.table.now (omega (arith, c.if-set-block.true))

pub bounds_at-requires : goal.bounds_at-requires
bounds_at-requires c = block_below c.requires.whole c.args.block (omega (arith, c.if-set-block.false))

pub put_table-requires : goal.put_table-requires
put_table-requires c =
    let below : c.args.block < c.args.set.now.blocks = omega (arith, c.if-set-block.false) in
    record { arrays = asked_arrays c.requires.whole c.args.block below c.bounds_at.ensures; combinable = asked_combinable c.requires.whole c.args.block below c.bounds_at.ensures c.requires.combinable }

pub returns : goal.returns
returns c = c.put_table.ensures ∙ asked_seen c.requires.whole c.args.block (omega (arith, c.if-set-block.false)) c.bounds_at.ensures c.args.table.now
