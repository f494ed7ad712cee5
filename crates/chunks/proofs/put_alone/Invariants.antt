-- The loop's invariant: the blocks put so far, with the equations without cells from place e on, are all of them.
use mathlib.Core.List.{◌++◌}
use Rattle.blocks.specs.BlockSets.{blocks_of}
use Rattle.blocks.proofs.Behind.{Growing}
use Rattle.chunks.proofs.Remaining.{bare_from}
use Rattle.chunks.proofs.put_alone.Given as goal

abbrev pub invariant-loop-e : goal.invariant-loop-e
invariant-loop-e l =
    Growing (blocks_of l.initial.out ++ bare_from l.set.slots l.set.rests l.fn.bounds.first_equation l.fn.bounds.end_equation) l.out (bare_from l.set.slots l.set.rests l.e l.fn.bounds.end_equation)
