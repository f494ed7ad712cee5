use mathlib.Core.List.{List}
use Prim.Native.Nat.{ℕ}
use Rattle.orders.specs.WholeOrders.{Beginning}
use Rattle.settling.specs.SettledGroups.{SettledFrom}
use Rattle.settling.proofs.Settled.sweep.Given as goal

abbrev pub invariant-loop-g : goal.invariant-loop-g
invariant-loop-g l =
    Beginning l.grouped.groups l.self.begun × ((needs rooms : List ℕ) → SettledFrom l.grouped needs rooms l.initial.self → SettledFrom l.grouped needs rooms l.self)
