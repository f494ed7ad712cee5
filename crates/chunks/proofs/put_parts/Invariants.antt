-- The loop's invariant: the blocks put so far, with the parts of the cells still to come that are not done, are all of them.
use Prim.Native.Nat.{◌+◌}
use mathlib.Core.List.{◌++◌}
use Rattle.blocks.specs.BlockSets.{blocks_of}
use Rattle.blocks.specs.Places.{block_between}
use Rattle.blocks.proofs.Behind.{Growing}
use Rattle.chunks.specs.Splitting.{all_parts}
use Rattle.chunks.proofs.Remaining.{parts_left}
use Rattle.chunks.proofs.put_parts.Given as goal

abbrev pub invariant-loop-cell : goal.invariant-loop-cell
invariant-loop-cell l =
    Growing (blocks_of l.initial.out ++ all_parts (block_between l.set l.bounds)) l.out (parts_left l.set.cells l.set.slots l.set.rests l.bounds l.done (l.bounds.first_cell + l.cell-index))
