use Prim.Native.Nat.{◌+◌, ◌≤◌}
use Rattle.counting.specs.Counting.{Marked}
use Rattle.totals.specs.Joining.{raised}
use Rattle.totals.proofs.joining.add_count.Given as goal

abbrev pub invariant-loop-n : goal.invariant-loop-n
invariant-loop-n l = (l.t ≤ l.n) × (l.n ≤ l.rest + 1) × Marked (raised l.before l.t l.n) l.initial.after l.after
