-- Laws of tests of lists, of any test: whether some number below n passes one, as a loop finds out that stops at the first that does (the invariant: the numbers
-- from i on answer for all), and that two lists are equal that are the same, element by element, by a test. Assumes nothing.
use mathlib.Core.Path.{◌≡◌, refl, sym}
use mathlib.Core.Bool.{Bool, true, false, ◌||◌}
use mathlib.Core.List.{List, [], ◌∷◌}
use Prim.Native.Nat.{ℕ, suc, ◌+◌, ◌-◌, ◌≤◌, ◌<◌}
use native.Mathlib.Numerals.{add-one}
use native.Mathlib.Omega.{arith}
use Rattle.lists.specs.Lists.{any, range}
use Rattle.lists.proofs.Tests.{clash, and_left, and_right}
use Rattle.patterns.specs.Walk.{same_by}

-- ---- some number below n passes a test: what is left from i on

unfoldable pub AnyLeft : (ℕ → Bool) → ℕ → ℕ → Type 0
AnyLeft f n i = any f (range i (n - i)) ≡ any f (range 0 n)

module _ (f : ℕ → Bool) (n : ℕ) where
  pub any_start : AnyLeft f n 0
  unfolding AnyLeft
  any_start = let e : n - 0 ≡ n = omega arith in rw e

  any_more : (i : ℕ) → i < n → any f (range i (n - i)) ≡ (f i || any f (range (i + 1) (n - (i + 1))))
  any_more i h = let e : n - i ≡ suc (n - (i + 1)) = omega arith in rw (e, add-one)

  module _ (i : ℕ) (left : AnyLeft f n i) where
    -- r is the test's answer at i
    pub any_next : {r : Bool} → i < n → r ≡ f i → r ≡ false → AnyLeft f n (i + 1)
    unfolding AnyLeft
    any_next h is e = rw (any_more i h, sym is, e) at left

    pub any_found : {r : Bool} → i < n → r ≡ f i → r ≡ true → true ≡ any f (range 0 n)
    unfolding AnyLeft
    any_found h is e = rw (any_more i h, sym is, e) at left

    pub any_none : n ≤ i → false ≡ any f (range 0 n)
    unfolding AnyLeft
    any_none h = let e : n - i ≡ 0 = omega arith in rw e at left

-- ---- lists that are the same by a test are equal

module _ {A : Type 0} (eq : A → A → Bool) (equal : (x y : A) → eq x y ≡ true → x ≡ y) where
  pub same_by_lem : (l k : List A) → same_by eq l k ≡ true → l ≡ k
  same_by_lem [] [] h = refl
  same_by_lem [] (y ∷ k) h = clash false h refl
  same_by_lem (x ∷ l) [] h = clash false h refl
  same_by_lem (x ∷ l) (y ∷ k) h = rw (equal x y (and_left (eq x y) (same_by eq l k) h), same_by_lem l k (and_right (eq x y) (same_by eq l k) h))
