use mathlib.Core.Path.{◌≡◌}
use mathlib.Core.Bool.{true}
use Prim.Native.Nat.{ℕ}
use lib.ListN.{take}
use Rattle.totals.specs.Joining.{holds}
use Rattle.totals.proofs.joining.all_allowed.Given as goal

abbrev pub invariant-loop-t : goal.invariant-loop-t
invariant-loop-t l = (t : ℕ) → holds (take l.t l.set) t ≡ true → holds l.allowed t ≡ true
