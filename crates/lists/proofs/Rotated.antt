-- A list whose last element goes to the front, and a removal by the last element: an element of an array that holds a list gives its place to the last one,
-- so what stands behind it is rotated. Assumes nothing.
use mathlib.Core.Path.{◌≡◌, refl, sym, ap, ◌∙◌}
use mathlib.Core.List.{List, [], ◌∷◌, ◌++◌}
use Prim.Native.Nat.{ℕ, suc, ◌+◌, ◌-◌, ◌≤◌}
use native.Mathlib.Omega.{arith}
use lib.ListN.{length, get_or, take, drop, set, length-append}
use lib.Seq.{drop-cons, drop-length, get_or-take, take-take, take-set-lt, length-take-le, take-append-add, get_or-append-add, set_at}
use Rattle.lists.specs.Lists.{rotated}

module _ {A : Type 0} where
  last_only : (y : A) (r : List A) (d : A) → drop (length r) (y ∷ r) ≡ get_or (y ∷ r) (length r) d ∷ []
  last_only y r d = drop-cons (y ∷ r) (length r) d (omega arith) ∙ ap (λ (l : List A). get_or (y ∷ r) (length r) d ∷ l) (drop-length r)

  -- the last of x and r, in front of the others of r
  last_first : (x : A) (r : List A) (d : A) → take (length r) (get_or (x ∷ r) (length r) d ∷ r) ≡ rotated r
  unfolding rotated
  last_first x [] d = refl
  last_first x (y ∷ r) d = let e : length (y ∷ r) - 1 ≡ length r = omega arith in rw (e, last_only y r d)

  -- the first n of an array hold p, x and r; x gives its place t to the last of them
  pub swap_remove : (a : List A) (n t : ℕ) (d : A) (p : List A) (x : A) (r : List A) → n ≤ length a → take n a ≡ p ++ (x ∷ r) → length p ≡ t
      → take (n - 1) (set a t (get_or a (n - 1) d)) ≡ p ++ rotated r
  swap_remove a n t d p x r fits held at =
      ap (λ (v : A). take (n - 1) (set a t v)) last_is
      ∙ sym (take-take (n - 1) n (set a t last) (omega (arith, long)))
      ∙ ap (take (n - 1)) (take-set-lt n a t last (omega (arith, long)) ∙ ap (λ (l : List A). set l t last) held ∙ set_at p x r last t at)
      ∙ ap (λ (i : ℕ). take i (p ++ (last ∷ r))) less
      ∙ take-append-add p (last ∷ r) (length r)
      ∙ ap (λ (l : List A). p ++ l) (last_first x r d)
    where
      last : A
      last = get_or (x ∷ r) (length r) d

      long : n ≡ t + suc (length r)
      long = omega (arith, length-take-le n a fits, ap length held, length-append p (x ∷ r))

      less : n - 1 ≡ length p + length r
      less = omega (arith, long)

      last_is : get_or a (n - 1) d ≡ last
      last_is =
          sym (get_or-take n a (n - 1) d (omega (arith, long)))
          ∙ ap (λ (l : List A). get_or l (n - 1) d) held
          ∙ ap (λ (i : ℕ). get_or (p ++ (x ∷ r)) i d) less
          ∙ get_or-append-add p (x ∷ r) (length r) d
