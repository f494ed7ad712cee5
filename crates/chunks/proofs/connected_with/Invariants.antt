-- The loop's invariant: the marks are those of a list which the looks still to come connect with the cell.
use Prim.Native.Nat.{◌-◌}
use Rattle.blocks.specs.Places.{equations_between}
use Rattle.chunks.proofs.Marking.{Connecting}
use Rattle.chunks.proofs.connected_with.Given as goal

abbrev pub invariant-loop-look : goal.invariant-loop-look
invariant-loop-look l = Connecting (equations_between l.set l.bounds) (l.bounds.end_equation - l._look) (l.bounds.end_equation - l.bounds.first_equation) l.c l.marks
