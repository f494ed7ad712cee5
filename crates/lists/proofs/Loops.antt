-- Loops over a list that stop at the first element that fails, or passes, a test. The invariant speaks of what is still to visit: the elements
-- from place i on answer for the whole list. Each law is one way on from there. Rests on `drop_more` and `drop_none`. Assumes nothing.
use mathlib.Core.Path.{◌≡◌}
use mathlib.Core.Bool.{Bool, true, false}
use mathlib.Core.List.{List}
use Prim.Native.Nat.{ℕ, ◌+◌, ◌≤◌, ◌<◌}
use native.Mathlib.Omega.{arith}
use lib.ListN.{length, drop, get_or}
use Rattle.lists.specs.Lists.{all, first_place}
use Rattle.lists.proofs.Arrays.{drop_more, drop_none}

-- the elements from i on all pass exactly where all do
abbrev pub AllLeft : (ℕ → Bool) → List ℕ → ℕ → Type 0
AllLeft f l i = all f (drop i l) ≡ all f l

-- the first element that passes stands at i or after
abbrev pub FirstLeft : (ℕ → Bool) → List ℕ → ℕ → Type 0
FirstLeft f l i = i + first_place f (drop i l) ≡ first_place f l

module _ (f : ℕ → Bool) (l : List ℕ) (i : ℕ) where
  pub all_next : i < length l → f (get_or l i 0) ≡ true → AllLeft f l i → AllLeft f l (i + 1)
  all_next h e left = rw (drop_more l i 0 h, e) at left

  pub all_fails : i < length l → f (get_or l i 0) ≡ false → AllLeft f l i → false ≡ all f l
  all_fails h e left = rw (drop_more l i 0 h, e) at left

  pub all_done : length l ≤ i → AllLeft f l i → true ≡ all f l
  all_done h left = rw (drop_none l i h) at left

  pub first_next : i < length l → f (get_or l i 0) ≡ false → FirstLeft f l i → FirstLeft f l (i + 1)
  first_next h e left = omega (arith, rw (drop_more l i 0 h, e) at left)

  pub first_found : i < length l → f (get_or l i 0) ≡ true → FirstLeft f l i → i ≡ first_place f l
  first_found h e left = omega (arith, rw (drop_more l i 0 h, e) at left)

  pub first_none : length l ≤ i → FirstLeft f l i → i ≡ first_place f l
  first_none h left = omega (arith, rw (drop_none l i h) at left)
