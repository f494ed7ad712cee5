use mathlib.Core.Path.{◌≡◌}
use Rattle.orders.specs.WholeOrders.{in_order}
use Rattle.enumeration.proofs.ShownGroups.{Telling}
use Rattle.enumeration.proofs.asking.Shown.ask_groups.Given as goal

abbrev pub invariant-loop-g : goal.invariant-loop-g
invariant-loop-g l = (l.unmet ≡ l.initial.unmet) × Telling l.grouped (in_order l.settled.begun) l.settled.values l.initial.unmet l.initial.self l.self l.g
