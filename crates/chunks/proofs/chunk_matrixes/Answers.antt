-- `chunks::chunk_matrixes` meets its contract. Rests on the laws of `Growing` and on `chunk_small`. Assumes nothing.
use Prim.Native.Nat.{◌-◌, ◌≤◌, ◌<◌}
use native.Mathlib.Omega.{arith}
use lib.ListN.{length}
use Rattle.blocks.specs.BlockSets.{blocks_of}
use Rattle.blocks.proofs.Behind.{blocks_held}
use Rattle.blocks.proofs.Standing.{arrays_in, order_in}
use Rattle.chunks.proofs.InSet.{chunks_start, chunks_room, chunks_next, chunks_end}
use Rattle.chunks.proofs.chunk_matrixes.Goals as goal

pub loop-b-init : goal.loop-b-init
loop-b-init c = chunks_start c.args.set c.requires _ c.empty_set-out.ensures

pub bounds_at-requires : goal.bounds_at-requires
bounds_at-requires c = omega (arith, blocks_held c.args.set c.requires, c.requires.fits.few_blocks)

pub chunk_matrix-out-requires : goal.chunk_matrix-out-requires
chunk_matrix-out-requires c =
    let loop = c.loop-b in
    let few : loop.b ≤ length (blocks_of c.args.set) = omega (arith, blocks_held c.args.set c.requires) in
    let inside : loop.b - 1 < length (blocks_of c.args.set) = omega arith in
    rw c.bounds_at.ensures
    record {
      stands = (arrays_in c.args.set c.requires (loop.b - 1) inside, order_in c.args.set c.requires (loop.b - 1) inside);
      room = chunks_room c.args.set c.requires loop.out loop.b loop.invariant c.loop-b-test.true few;
    }

pub loop-b-preserved : goal.loop-b-preserved
loop-b-preserved c =
    let loop = c.loop-b in
    let few : loop.b ≤ length (blocks_of c.args.set) = omega (arith, blocks_held c.args.set c.requires) in
    chunks_next c.args.set c.requires loop.out loop.b loop.invariant c.loop-b-test.true few _ (rw c.bounds_at.ensures at c.chunk_matrix-out.ensures)

pub returns : goal.returns
returns c =
    let both = chunks_end c.args.set c.requires c.loop-b.out c.loop-b.b c.loop-b.invariant (omega arith) in
    record { value = both.0; whole = both.1 }
