use Prim.Native.Nat.{◌≤◌}
use mathlib.Core.Path.{◌≡◌}
use Rattle.lists.specs.Lists.{count, range}
use Rattle.bbbv.specs.Flooded.{is_closed_safe}
use Rattle.bbbv.proofs.count_closed_safe.Given as goal

abbrev pub invariant-loop-c : goal.invariant-loop-c
invariant-loop-c l = (l.found ≡ count (is_closed_safe l.cells l.position) (range 0 l.c)) × (l.found ≤ l.c)
