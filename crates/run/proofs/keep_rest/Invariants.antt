use mathlib.Core.Path.{◌≡◌, refl}
use Prim.Native.Nat.{◌≤◌, ◌-◌}
use native.Mathlib.Omega.{arith}
use Rattle.run.proofs.Moved.{MovedUpTo, moved_none, moved_next, moved_all}
use borrow.Author.Rules.{rules}
use Rattle.run.proofs.keep_rest.Given as goal

abbrev pub invariant-loop-i : goal.invariant-loop-i
invariant-loop-i l = (l.i ≤ l.kept) × MovedUpTo l.read l.i l.initial.input l.input
