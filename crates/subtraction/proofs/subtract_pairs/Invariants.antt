use Rattle.blocks.specs.Places.{equations_from, equations_between}
use Rattle.subtraction.proofs.MarkedSoFar.{MarkedSoFar}
use Rattle.subtraction.proofs.Pairs.{mines_among, safe_among}
use Rattle.subtraction.proofs.subtract_pairs.Given as goal

abbrev pub invariant-loop-e : goal.invariant-loop-e
invariant-loop-e l =
    MarkedSoFar (mines_among (equations_between l.set l.bounds)) l.initial.marks.mines (equations_between l.set l.bounds) l.marks.mines (equations_from l.set.slots l.set.rests l.e l.bounds.end_equation)
    × MarkedSoFar (safe_among (equations_between l.set l.bounds)) l.initial.marks.safe (equations_between l.set l.bounds) l.marks.safe (equations_from l.set.slots l.set.rests l.e l.bounds.end_equation)
