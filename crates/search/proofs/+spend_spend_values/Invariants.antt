use Prim.Native.Nat.{suc, ◌+◌, ◌-◌, ◌*◌, ◌≤◌, ◌<◌}
use Rattle.search.proofs.Spending.{Tried}
use Rattle.search.proofs.+spend_spend_values.Given as goal

abbrev pub decreases-spend : goal.decreases-spend
decreases-spend l = 2 * (l.grouped.now.groups - l.at) + 1

abbrev pub decreases-spend_values : goal.decreases-spend_values
decreases-spend_values l = 2 * (l.grouped.now.groups - l.at)

abbrev pub invariant-spend_values-loop-v : goal.invariant-spend_values-loop-v
invariant-spend_values-loop-v l = record {
  inside : l.v - l.from ≤ suc l.to - l.from;
  some : 0 < l.rest;
  tried : Tried l.order l.grouped.groups l.grouped.sizes l.grouped.columns l.at l.from l.v l.initial.unmet l.unmet l.initial.values l.values l.left l.rest;
}
