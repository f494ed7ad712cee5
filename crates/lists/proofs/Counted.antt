-- The first n elements of an array, read one after another: before n the array has the next of them, and from n on none is left. Whatever a test says of
-- all of them it says of each. The last laws are the same of an element x that a loop has read from its slot. Assumes nothing.
use Prim.Native.Nat.{ℕ, ◌+◌, ◌≤◌, ◌<◌}
use mathlib.Core.Path.{◌≡◌, ◌∙◌}
use mathlib.Core.Bool.{Bool, true}
use mathlib.Core.List.{List, [], ◌∷◌}
use native.Mathlib.Omega.{arith}
use lib.Dec.{ltb}
use lib.ListN.{length, get_or, take, drop, length-take}
use lib.Seq.{get_or-take, length-take-le}
use borrow.Author.Tests.{ltb-true}
use Rattle.lists.specs.Lists.{all}
use Rattle.lists.proofs.Arrays.{drop_more, drop_none}
use Rattle.lists.proofs.All.{all_at}

module _ {A : Type 0} (a : List A) (n : ℕ) where
  module _ (t : ℕ) (d : A) (before : t < n) (fits : n ≤ length a) where
    inside : t < length (take n a)
    inside = omega (arith, length-take-le n a fits)

    pub counted_more : drop t (take n a) ≡ get_or a t d ∷ drop (t + 1) (take n a)
    counted_more = drop_more (take n a) t d inside ∙ rw (get_or-take n a t d before)

    pub counted_passes : (f : A → Bool) → all f (take n a) ≡ true → f (get_or a t d) ≡ true
    counted_passes f h = rw (get_or-take n a t d before) at (all_at f (take n a) t d h inside)

  pub counted_none : (t : ℕ) → n ≤ t → drop t (take n a) ≡ []
  counted_none t h = drop_none (take n a) t (omega (arith, length-take n a))

module _ (array : List ℕ) (len k x : ℕ) (few : len ≤ length array) (inside : k < len) (at : x ≡ get_or array k 0) where
  pub rest_more : drop k (take len array) ≡ x ∷ drop (k + 1) (take len array)
  rest_more = rw at (counted_more array len k 0 inside few)

  pub rest_below : (n : ℕ) → all (λ d. ltb d n) (take len array) ≡ true → x < n
  rest_below n h = rw at (ltb-true (get_or array k 0) n (counted_passes array len k 0 inside few (λ d. ltb d n) h))
