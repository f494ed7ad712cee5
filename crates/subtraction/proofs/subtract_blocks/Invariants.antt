use Prim.Native.Nat.{◌-◌}
use lib.ListN.{replicate}
use Rattle.lists.specs.Lists.{range}
use Rattle.subtraction.proofs.MarkedSoFar.{MarkedSoFar}
use Rattle.subtraction.proofs.Pairs.{mines_in, safe_in}
use Rattle.subtraction.proofs.subtract_blocks.Given as goal

abbrev pub invariant-loop-b : goal.invariant-loop-b
invariant-loop-b l =
    MarkedSoFar (mines_in l.set.slots l.set.rests l.set.equation_ends) (replicate 1024 0) (range 0 l.set.blocks) l.marks.mines (range l.b (l.set.blocks - l.b))
    × MarkedSoFar (safe_in l.set.slots l.set.rests l.set.equation_ends) (replicate 1024 0) (range 0 l.set.blocks) l.marks.safe (range l.b (l.set.blocks - l.b))
