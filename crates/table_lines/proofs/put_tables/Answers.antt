-- `put_tables` meets its contract. The loop's invariant: the tables of the blocks up to place k are written. It rests on the laws of a loop that writes, of the crate text.
-- Assumes nothing.
use Prim.Native.Nat.{◌-◌}
use mathlib.Core.Path.{◌≡◌}
use native.Mathlib.Omega.{arith}
use Rattle.text.proofs.Writing.{wrote_both, wrote_place}
use Rattle.table_lines.specs.Tables.{block_table, tables_text}
use Rattle.table_lines.proofs.put_tables.Goals as goal

pub loop-k-preserved : goal.loop-k-preserved
loop-k-preserved c = wrote_place (block_table c.args.rows c.args.columns c.args.position.now) 0 c.loop-k.k (omega arith) c.loop-k.invariant c.put_block.ensures

pub returns : goal.returns
unfolding tables_text
returns c =
    let e : c.loop-k.k - 0 ≡ c.args.blocks = omega arith in
    wrote_both (wrote_both c.bytes.ensures c.number.ensures) (rw e at c.loop-k.invariant)
