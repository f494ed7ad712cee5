use Rattle.blocks.specs.Places.{equations_from, equations_between}
use Rattle.subtraction.specs.Pairs.{equation_in}
use Rattle.subtraction.proofs.MarkedSoFar.{MarkedSoFar}
use Rattle.subtraction.proofs.Pairs.{mines_beside, safe_beside}
use Rattle.subtraction.proofs.subtract_from.Given as goal

abbrev pub invariant-loop-f : goal.invariant-loop-f
invariant-loop-f l =
    MarkedSoFar (mines_beside (equation_in l.set.slots l.set.rests l.e)) l.initial.marks.mines (equations_between l.set l.fn.bounds) l.marks.mines (equations_from l.set.slots l.set.rests l.f l.fn.bounds.end_equation)
    × MarkedSoFar (safe_beside (equation_in l.set.slots l.set.rests l.e)) l.initial.marks.safe (equations_between l.set l.fn.bounds) l.marks.safe (equations_from l.set.slots l.set.rests l.f l.fn.bounds.end_equation)
