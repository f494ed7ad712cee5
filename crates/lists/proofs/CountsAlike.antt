-- Counts in lists of elements of any type: of a list mapped or turned round, of two tests together, and of tests that agree.
-- Two lists in which every test counts alike have the same elements, each as often.
-- Rests on `Counts`. Assumes nothing.
use mathlib.Core.Path.{◌≡◌, refl, sym, ap, ◌∙◌}
use mathlib.Core.Logic.{◌⊎◌, inl, inr}
use mathlib.Core.Bool.{Bool, true, false, not}
use mathlib.Core.List.Memᴰ
use mathlib.Core.List.{List, [], ◌∷◌, map, reverse, reverse-cons, Memᴰ}
use Prim.Native.Nat.{ℕ, ◌+◌, ◌≤◌, ◌<◌}
use native.Mathlib.Omega.{arith}
use lib.Dec.{eqb}
use lib.ListN.{length}
use borrow.Author.Tests.{ne_eqb}
use Rattle.lists.specs.Lists.{bit, count, all}
use Rattle.lists.proofs.Tests.{Decided, decided}
use Rattle.lists.proofs.Counts.{count_le, count_append}

module _ {A : Type 0} where
  pub counts_reverse : (f : A → Bool) (l : List A) → count f (reverse l) ≡ count f l
  counts_reverse f [] = refl
  counts_reverse f (x ∷ l) = ap (count f) (reverse-cons x l) ∙ omega (arith, count_append f (reverse l) (x ∷ []), counts_reverse f l)

  -- ---- two tests

  -- of two tests each element passes as many as it passes of a third
  pub counts_sum_lem : (f g h : A → Bool) (l : List A) → ((x : A) → Memᴰ x l → bit (f x) + bit (g x) ≡ bit (h x)) → count f l + count g l ≡ count h l
  counts_sum_lem f g h [] e = refl
  counts_sum_lem f g h (x ∷ l) e = omega (arith, e x (Memᴰ.head refl), counts_sum_lem f g h l (λ y m. e y (Memᴰ.tail m)))

  pub counts_ext : (f g : A → Bool) (l : List A) → ((x : A) → Memᴰ x l → f x ≡ g x) → count f l ≡ count g l
  counts_ext f g [] h = refl
  counts_ext f g (x ∷ l) h = rw (h x (Memᴰ.head refl), counts_ext f g l (λ y m. h y (Memᴰ.tail m)))

  pub counts_zero : (f : A → Bool) (l : List A) → ((x : A) → Memᴰ x l → f x ≡ false) → count f l ≡ 0
  counts_zero f [] h = refl
  counts_zero f (x ∷ l) h = rw (h x (Memᴰ.head refl)) (omega (arith, counts_zero f l (λ y m. h y (Memᴰ.tail m))))

  -- what passes the first passes the second
  module _ (f g : A → Bool) (implied : (x : A) → f x ≡ true → g x ≡ true) where
    step : (x : A) → bit (f x) ≤ bit (g x)
    step x = go (decided (f x))
      where
        go : Decided (f x) → bit (f x) ≤ bit (g x)
        go (inl e) = rw (e, implied x e) (omega arith)
        go (inr e) = rw e (omega arith)

    pub counts_implied : (l : List A) → count f l ≤ count g l
    counts_implied [] = omega arith
    counts_implied (x ∷ l) = omega (arith, step x, counts_implied l)

    -- and one that passes only the second is there
    pub counts_grow : {y : A} (l : List A) → Memᴰ y l → f y ≡ false → g y ≡ true → count f l < count g l
    counts_grow [] m a b = absurd (Memᴰ.not-nil m)
    counts_grow {y} (x ∷ l) m a b = go (Memᴰ.cases_cons m) (λ k. counts_grow l k a b)
      where
        go : (y ≡ x) ⊎ Memᴰ y l → (Memᴰ y l → count f l < count g l) → count f (x ∷ l) < count g (x ∷ l)
        go (inl e) ih = rw (← e, a, b) (omega (arith, counts_implied l))
        go (inr k) ih = omega (arith, step x, ih k)

  -- as many are counted as there are: all pass
  pub counts_full : (f : A → Bool) {y : A} (l : List A) → length l ≤ count f l → Memᴰ y l → f y ≡ true
  counts_full f [] h m = absurd (Memᴰ.not-nil m)
  counts_full f {y} (x ∷ l) h m = go (decided (f x)) (Memᴰ.cases_cons m) (λ k. counts_full f l k)
    where
      go : Decided (f x) → (y ≡ x) ⊎ Memᴰ y l → (length l ≤ count f l → Memᴰ y l → f y ≡ true) → f y ≡ true
      go (inr a) e ih = absurd (omega (arith, count_le f l, rw a at h))
      go (inl a) (inl e) ih = rw e a
      go (inl a) (inr k) ih = ih (omega (arith, rw a at h)) k

  -- all pass: none that fails is counted
  pub all_counts : (f : A → Bool) (l : List A) → all f l ≡ eqb (count (λ x. not (f x)) l) 0
  all_counts f [] = refl
  all_counts f (x ∷ l) = go (decided (f x)) (all_counts f l)
    where
      go : Decided (f x) → all f l ≡ eqb (count (λ y. not (f y)) l) 0 → all f (x ∷ l) ≡ eqb (count (λ y. not (f y)) (x ∷ l)) 0
      go (inl e) ih = let z : count (λ y. not (f y)) l ≡ 0 + count (λ y. not (f y)) l = omega arith in rw e (ih ∙ ap (λ (n : ℕ). eqb n 0) z)
      go (inr e) ih = rw e (sym (ne_eqb (1 + count (λ y. not (f y)) l) 0 (λ w. omega arith)))

pub counts_map : {A B : Type 0} (f : B → Bool) (g : A → B) (l : List A) → count f (map g l) ≡ count (λ x. f (g x)) l
counts_map f g [] = refl
counts_map f g (x ∷ l) = rw (counts_map f g l)
