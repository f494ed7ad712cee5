use Prim.Native.Nat.{◌+◌, ◌-◌, ◌*◌}
use Rattle.counting.proofs.TriedValues.{Tried}
use Rattle.counting.proofs.walking.Walk.+walk_values.Given as goal

abbrev pub invariant-walk_values-loop-v : goal.invariant-walk_values-loop-v
invariant-walk_values-loop-v l = Tried l.self l.at l.count l.v l.initial.unmet l.unmet l.initial.told l.initial.met l.told l.met l.found

abbrev pub decreases-walk : goal.decreases-walk
decreases-walk l = 2 * (l.self.now.grouped.now.groups - l.at) + 1

abbrev pub decreases-walk_values : goal.decreases-walk_values
decreases-walk_values l = 2 * (l.self.now.grouped.now.groups - l.at)
