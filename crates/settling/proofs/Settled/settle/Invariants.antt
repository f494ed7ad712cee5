use Prim.Native.Nat.{◌-◌}
use Rattle.orders.specs.WholeOrders.{Beginning}
use Rattle.settling.specs.SettledGroups.{SettledFrom}
use Rattle.settling.proofs.Settled.settle.Given as goal

abbrev pub invariant-loop-settled : goal.invariant-loop-settled
invariant-loop-settled l = Beginning l.grouped.groups l.settled.begun × SettledFrom l.grouped l.grouped.needs l.grouped.rooms l.settled

abbrev pub decreases-loop-settled : goal.decreases-loop-settled
decreases-loop-settled l = l.grouped.groups - l.settled.begun.count
