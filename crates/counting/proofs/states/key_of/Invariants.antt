use Prim.Native.Nat.{◌≤◌}
use Rattle.counting.proofs.Keys.{KeyAt}
use Rattle.counting.proofs.states.key_of.Given as goal

abbrev pub invariant-loop-e : goal.invariant-loop-e
invariant-loop-e l = (l.e ≤ l.equations) × KeyAt l.equations l.unmet.needs l.unmet.rooms l.start_rooms l.e l.digits
