-- Cited by no public contract. What it means that the groups of a struct are settled. Assumes nothing.
use Rattle.std.specs.Prelude.{List, ℕ}
use Rattle.groups.specs.declared.Grouped.{Grouped}
use Rattle.orders.specs.WholeOrders.{in_order}
use Rattle.settling.specs.Settling.{Settles}
use Rattle.settling.specs.declared.Settled.{Settled}

-- its groups are settled at their values, where the equations need and have room for so much at the start
abbrev pub SettledFrom : Grouped → List ℕ → List ℕ → Settled → Type 0
SettledFrom grouped needs rooms s = Settles grouped.sizes grouped.columns needs rooms (in_order s.begun) s.values s.unmet.needs s.unmet.rooms
