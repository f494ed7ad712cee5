-- `show::put_blocks` meets its contract. The loop's invariant: the blocks up to place k are written. A whole block set has its blocks' ends inside its arrays (`Parts`); the
-- loop rests on the laws of a loop that writes, of the crate text. Assumes nothing.
use Prim.Native.Nat.{ℕ, ◌-◌}
use mathlib.Core.Path.{◌≡◌}
use native.Mathlib.Omega.{arith}
use Rattle.blocks.specs.BlockSets.{block_at}
use Rattle.text.proofs.Writing.{wrote_both, wrote_place}
use Rattle.show.specs.Blocks.{block_text}
use Rattle.show.proofs.Parts.{whole_inside, blocks_by_places}
use Rattle.show.proofs.put_blocks.Goals as goal

pub put_block-requires : goal.put_block-requires
put_block-requires c = whole_inside c.args.set.now c.requires c.loop-k.k c.loop-k-test.true

pub loop-k-preserved : goal.loop-k-preserved
loop-k-preserved c = wrote_place (λ (k : ℕ). block_text (block_at c.args.set.now k)) 0 c.loop-k.k (omega arith) c.loop-k.invariant c.put_block.ensures

pub returns : goal.returns
returns c =
    let e : c.loop-k.k - 0 ≡ c.args.set.now.blocks = omega arith in
    rw (blocks_by_places c.args.set.now) (wrote_both (wrote_both c.bytes.ensures c.number.ensures) (rw e at c.loop-k.invariant))
