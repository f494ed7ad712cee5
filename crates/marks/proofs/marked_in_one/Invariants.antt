use Prim.Native.Nat.{ℕ, ◌<◌}
use mathlib.Core.Path.{◌≡◌}
use mathlib.Core.Bool.{◌||◌}
use lib.ListN.{length, get_or}
use Rattle.lists.specs.Lists.{bit}
use Rattle.blocks.specs.Places.{marked}
use Rattle.marks.proofs.marked_in_one.Given as goal

abbrev pub invariant-loop-c : goal.invariant-loop-c
invariant-loop-c l = (length l.known ≡ 1024) × ((d : ℕ) → d < l.c → get_or l.known d 0 ≡ bit (marked l.mines d || marked l.safe d))
