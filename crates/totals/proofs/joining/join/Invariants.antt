use lib.ListN.{take}
use Rattle.totals.specs.Joining.{Joined}
use Rattle.totals.proofs.joining.join.Given as goal

abbrev pub invariant-loop-t : goal.invariant-loop-t
invariant-loop-t l = Joined l.rest (take l.t l.set) l.before l.after
