-- The loop's invariant: the slots still to come are equal, up to the filler, where the columns are.
use lib.ListN.{length}
use Rattle.groups.proofs.ComparedColumns.{SameFrom, lent}
use Rattle.groups.proofs.same_columns.Given as goal

abbrev pub invariant-loop-own : goal.invariant-loop-own
invariant-loop-own l = SameFrom (lent l.columns l.a) (lent l.columns l.b) (length l.yielded)
