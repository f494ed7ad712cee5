-- Sums of sets of numbers: `sums_to` tells exactly whether a number from each set can be had so that they add up, in whatever order the sets stand.
-- What another first set changes: nothing where it agrees up to the sum, and the sums with d where it has the number d more. The idea: the number of the first
-- set is looked for up to the sum, and no summand is greater. Assumes nothing.
use mathlib.Core.Path.{◌≡◌, refl, sym, ap, ◌∙◌}
use mathlib.Core.Logic.{◌⊎◌, inl, inr, ◌↔◌}
use mathlib.Core.Bool.{Bool, true, false, ◌&&◌, ◌||◌}
use mathlib.Core.List.{List, [], ◌∷◌, ◌++◌}
use Prim.Native.Nat.{ℕ, suc, ◌+◌, ◌-◌, ◌≤◌}
use native.Mathlib.Omega.{arith}
use lib.Dec.{leb, eqb}
use borrow.Author.Tests.{leb-true, le-leb, eqb-true, eq-eqb}
use Rattle.lists.specs.Lists.{range}
use Rattle.lists.proofs.Tests.{Decided, decided, clash, same_test, and_left, and_right, or_cases, or_left, or_right}
use Rattle.lists.proofs.Members.{range_in, in_range}
use Rattle.lists.proofs.Counts.{any_at, any_of}
use Rattle.lists.proofs.Kept.{any_ext}
use Rattle.search.specs.Solutions.{sum}
use Rattle.totals.specs.Totals.{sums_to}

-- no set: the sum is 0
pub none_sums : (n : ℕ) → sums_to [] n ≡ true → n ≡ 0
none_sums n h = eqb-true n 0 h

-- what adds up to a number adds up to one that is equal
pub sums_equal : (ss : List (ℕ → Bool)) {m n : ℕ} → m ≡ n → sums_to ss m ≡ true → sums_to ss n ≡ true
sums_equal ss e h = sym (ap (sums_to ss) e) ∙ h

module _ (s : ℕ → Bool) (ss : List (ℕ → Bool)) where
  -- a number of the first set, and what numbers of the others add up to
  pub sums_more : (t r : ℕ) → s t ≡ true → sums_to ss r ≡ true → sums_to (s ∷ ss) (t + r) ≡ true
  sums_more t r h k =
      let rest : t + r - t ≡ r = omega arith in
      any_of (λ x. s x && sums_to ss (t + r - x)) (range 0 (suc (t + r))) t (in_range 0 (suc (t + r)) t (omega arith) (omega arith)) (rw (h, rest) k)

  -- and back
  pub more_sums : (n : ℕ) → sums_to (s ∷ ss) n ≡ true → (t : ℕ) × (r : ℕ) × (s t ≡ true) × (sums_to ss r ≡ true) × (t + r ≡ n)
  more_sums n h =
      let (t, k, e) = any_at (λ x. s x && sums_to ss (n - x)) (range 0 (suc n)) h in
      let (low, high) = range_in 0 (suc n) t k in
      (t, n - t, and_left (s t) (sums_to ss (n - t)) e, and_right (s t) (sums_to ss (n - t)) e, omega arith)

-- one set alone
pub sums_one : (s : ℕ → Bool) (n : ℕ) → sums_to (s ∷ []) n ≡ s n
sums_one s n =
    same_test (sums_to (s ∷ []) n) (s n)
    (λ h. let (t, r, k, l, e) = more_sums s [] n h in let same : n ≡ t = omega (arith, none_sums r l) in rw same k)
    (λ h. let same : n + 0 ≡ n = omega arith in sums_equal (s ∷ []) same (sums_more s [] n 0 h refl))

-- ---- what the first set has

module _ (s : ℕ → Bool) (ss : List (ℕ → Bool)) (n : ℕ) where
  -- nothing
  pub nothing_sums : ((t : ℕ) → s t ≡ false) → sums_to (s ∷ ss) n ≡ false
  nothing_sums none = go (decided (sums_to (s ∷ ss) n))
    where
      go : Decided (sums_to (s ∷ ss) n) → sums_to (s ∷ ss) n ≡ false
      go (inl h) = let (t, r, k, l, e) = more_sums s ss n h in clash (s t) k (none t)
      go (inr h) = h

  module _ (u : ℕ → Bool) where
    -- the same as another, up to the sum
    pub sums_alike : ((t : ℕ) → t ≤ n → s t ≡ u t) → sums_to (s ∷ ss) n ≡ sums_to (u ∷ ss) n
    sums_alike same =
        any_ext (λ t. s t && sums_to ss (n - t)) (λ t. u t && sums_to ss (n - t)) (range 0 (suc n))
        (λ t k. ap (λ (x : Bool). x && sums_to ss (n - t)) (same t (omega (arith, range_in 0 (suc n) t k))))

    -- and one number more
    pub sums_with_one : (d : ℕ) → ((t : ℕ) → u t ≡ (s t || eqb t d)) → sums_to (u ∷ ss) n ≡ ((leb d n && sums_to ss (n - d)) || sums_to (s ∷ ss) n)
    sums_with_one d more = same_test (sums_to (u ∷ ss) n) ((leb d n && sums_to ss (n - d)) || sums_to (s ∷ ss) n) there back
      where
        there : sums_to (u ∷ ss) n ≡ true → ((leb d n && sums_to ss (n - d)) || sums_to (s ∷ ss) n) ≡ true
        there h = let (t, r, k, l, e) = more_sums u ss n h in go t r l e (or_cases (s t) (eqb t d) (sym (more t) ∙ k))
          where
            go : (t r : ℕ) → sums_to ss r ≡ true → t + r ≡ n → (s t ≡ true) ⊎ (eqb t d ≡ true) → ((leb d n && sums_to ss (n - d)) || sums_to (s ∷ ss) n) ≡ true
            go t r l e (inl k) = or_right (leb d n && sums_to ss (n - d)) (sums_to (s ∷ ss) n) (sums_equal (s ∷ ss) e (sums_more s ss t r k l))
            go t r l e (inr k) =
                let same : n - d ≡ r = omega (arith, eqb-true t d k) in
                or_left (leb d n && sums_to ss (n - d)) (sums_to (s ∷ ss) n) (rw (le-leb d n (omega (arith, eqb-true t d k)), same) l)

        back : ((leb d n && sums_to ss (n - d)) || sums_to (s ∷ ss) n) ≡ true → sums_to (u ∷ ss) n ≡ true
        back h = go (or_cases (leb d n && sums_to ss (n - d)) (sums_to (s ∷ ss) n) h)
          where
            go : ((leb d n && sums_to ss (n - d)) ≡ true) ⊎ (sums_to (s ∷ ss) n ≡ true) → sums_to (u ∷ ss) n ≡ true
            go (inl k) =
                let same : d + (n - d) ≡ n = omega (arith, leb-true d n (and_left (leb d n) (sums_to ss (n - d)) k)) in
                sums_equal (u ∷ ss) same (sums_more u ss d (n - d) (more d ∙ or_right (s d) (eqb d d) (eq-eqb d d refl)) (and_right (leb d n) (sums_to ss (n - d)) k))
            go (inr k) =
                let (t, r, w, l, e) = more_sums s ss n k in
                sums_equal (u ∷ ss) e (sums_more u ss t r (more t ∙ or_left (s t) (eqb t d) w) l)

-- ---- the order of the sets

-- two sets change places
sums_swapped : (s t : ℕ → Bool) (ss : List (ℕ → Bool)) (n : ℕ) → sums_to (s ∷ (t ∷ ss)) n ≡ true → sums_to (t ∷ (s ∷ ss)) n ≡ true
sums_swapped s t ss n h =
    let (a, q, x, k, e) = more_sums s (t ∷ ss) n h in
    let (b, r, y, l, w) = more_sums t ss q k in
    let same : b + (a + r) ≡ n = omega arith in
    sums_equal (t ∷ (s ∷ ss)) same (sums_more t (s ∷ ss) b (a + r) y (sums_more s ss a r x l))

-- a set goes to the front: the order of the sets does not matter
pub sums_moved : (ss : List (ℕ → Bool)) (s : ℕ → Bool) (ts : List (ℕ → Bool)) (n : ℕ) → sums_to (ss ++ (s ∷ ts)) n ≡ sums_to (s ∷ (ss ++ ts)) n
sums_moved [] s ts n = refl
sums_moved (u ∷ ss) s ts n =
    any_ext (λ t. u t && sums_to (ss ++ (s ∷ ts)) (n - t)) (λ t. u t && sums_to (s ∷ (ss ++ ts)) (n - t)) (range 0 (suc n))
    (λ t _. ap (λ (x : Bool). u t && x) (sums_moved ss s ts (n - t)))
    ∙ same_test (sums_to (u ∷ (s ∷ (ss ++ ts))) n) (sums_to (s ∷ (u ∷ (ss ++ ts))) n) (sums_swapped u s (ss ++ ts) n) (sums_swapped s u (ss ++ ts) n)

-- ---- as lists of numbers

-- one number from each set, in order
abbrev pub Picked : List (ℕ → Bool) → List ℕ → Type 0
Picked [] [] = Unit {0}
Picked [] (t ∷ ts) = ⊥
Picked (s ∷ ss) [] = ⊥
Picked (s ∷ ss) (t ∷ ts) = (s t ≡ true) × Picked ss ts

-- `sums_to` passes exactly at what such numbers add up to
pub sums_picked : (ss : List (ℕ → Bool)) (n : ℕ) → (sums_to ss n ≡ true) ↔ ((ts : List ℕ) × Picked ss ts × (sum ts ≡ n))
sums_picked ss n = (there ss n, λ (ts, k, e). rw (← e) (back ss ts k))
  where
    there : (us : List (ℕ → Bool)) (m : ℕ) → sums_to us m ≡ true → (ts : List ℕ) × Picked us ts × (sum ts ≡ m)
    there [] m h = ([], tt, sym (none_sums m h))
    there (u ∷ us) m h =
        let (t, r, k, l, e) = more_sums u us m h in
        let (ts, picked, w) = there us r l in
        (t ∷ ts, (k, picked), omega arith)

    back : (us : List (ℕ → Bool)) (ts : List ℕ) → Picked us ts → sums_to us (sum ts) ≡ true
    back [] [] k = refl
    back [] (t ∷ ts) k = absurd k
    back (u ∷ us) [] k = absurd k
    back (u ∷ us) (t ∷ ts) (h, k) = sums_more u us t (sum ts) h (back us ts k)
