-- `marks::left::left_blocks` meets its contract. The loop's invariant: the blocks put so far, with what is left of the set's blocks from place b on, are what is left
-- of all of them. The measure is what is left of the set. Rests on the laws of `Growing` and on `left_small`. Assumes nothing.
use Prim.Native.Nat.{◌<◌}
use native.Mathlib.Omega.{arith}
use lib.ListN.{length}
use Rattle.blocks.specs.BlockSets.{blocks_of}
use Rattle.blocks.proofs.Behind.{blocks_held}
use Rattle.blocks.proofs.Standing.{arrays_in}
use Rattle.marks.proofs.LeftInSet.{left_start, left_room_in, left_next, left_end}
use Rattle.marks.proofs.left.left_blocks.Goals as goal

pub loop-b-init : goal.loop-b-init
loop-b-init c = left_start c.args.known.now.subtracted c.args.known.now.mines c.args.known.now.cells c.args.set c.requires _ c.empty_set-out.ensures

pub bounds_at-requires : goal.bounds_at-requires
bounds_at-requires c = omega (arith, c.loop-b-test.true, blocks_held c.args.set c.requires, c.requires.fits.few_blocks)

pub put_left-out-requires : goal.put_left-out-requires
put_left-out-requires c =
    let loop = c.loop-b in
    let inside : loop.b < length (blocks_of c.args.set) = omega (arith, c.loop-b-test.true, blocks_held c.args.set c.requires) in
    rw c.bounds_at.ensures record { arrays = arrays_in c.args.set c.requires loop.b inside; room = left_room_in c.args.known.now.subtracted c.args.known.now.mines c.args.known.now.cells c.args.set c.requires loop.out loop.b loop.invariant inside }

pub overflow_step-b : goal.overflow_step-b
overflow_step-b c = omega (arith, c.loop-b-test.true, blocks_held c.args.set c.requires, c.requires.fits.few_blocks)

pub loop-b-preserved : goal.loop-b-preserved
loop-b-preserved c =
    let loop = c.loop-b in
    let inside : loop.b < length (blocks_of c.args.set) = omega (arith, c.loop-b-test.true, blocks_held c.args.set c.requires) in
    left_next c.args.known.now.subtracted c.args.known.now.mines c.args.known.now.cells c.args.set c.requires loop.out loop.b loop.invariant inside _ (rw c.bounds_at.ensures at c.put_left-out.ensures)

pub returns : goal.returns
returns c =
    let both = left_end c.args.known.now.subtracted c.args.known.now.mines c.args.known.now.cells c.args.set c.requires c.loop-b.out c.loop-b.b c.loop-b.invariant (omega (arith, c.loop-b-test.false, blocks_held c.args.set c.requires)) in
    record { value = both.0; whole = both.1 }
