-- Laws of `count`, `any` and `all`: what a count says of the numbers counted, counts of parts, of shared numbers, and of a number moved. Assumes nothing.
use mathlib.Core.Path.{◌≡◌, refl, sym, ◌∙◌}
use mathlib.Core.Logic.{◌⊎◌, inl, inr, ◌≢◌}
use mathlib.Core.Bool.{Bool, true, false, not, cond, ◌&&◌, ◌||◌}
use mathlib.Core.List.{List, [], ◌∷◌, ◌++◌}
use Prim.Native.Nat.{ℕ, zero, suc, ◌+◌, ◌≤◌, ◌<◌}
use native.Mathlib.Omega.{arith}
use native.Mathlib.Nat.{not-suc-le-zero, le_of_suc-le-suc}
use lib.ListN.{length, get_or, set}
use lib.Dec.{eqb}
use borrow.Author.Tests.{eqb-true, eqb-false, eq-eqb, ne_eqb}
use Rattle.lists.specs.Lists.{bit, keep, count, any, has, nodup, without}
use Rattle.lists.proofs.Tests.{Decided, decided, clash, or_cases, or_right}
use Rattle.lists.proofs.Members.{has_head, has_tail, nodup_head, nodup_tail, without_gone}

-- ---- what a count says

pub count_le : {A : Type 0} (f : A → Bool) (l : List A) → count f l ≤ length l
count_le f [] = omega arith
count_le f (c ∷ l) = go (f c) (count_le f l)
  where
    go : (x : Bool) → count f l ≤ length l → bit x + count f l ≤ suc (length l)
    go true h = omega arith
    go false h = omega arith

-- none counted: none passes
pub count_none : (f : ℕ → Bool) (l : List ℕ) → count f l ≡ 0 → (c : ℕ) → has l c ≡ true → f c ≡ false
count_none f [] h c k = clash false k refl
count_none f (x ∷ l) h c k = go (count_none f l) (decided (f x)) (or_cases (eqb c x) (has l c) k)
  where
    go : (count f l ≡ 0 → (d : ℕ) → has l d ≡ true → f d ≡ false) → Decided (f x) → (eqb c x ≡ true) ⊎ (has l c ≡ true) → f c ≡ false
    go ih (inl a) e = absurd (omega (arith, rw a at h))
    go ih (inr a) (inl e) = rw (eqb-true c x e) a
    go ih (inr a) (inr e) = ih (omega (arith, rw a at h)) c e

-- as many counted as there are: all pass
pub count_full : (f : ℕ → Bool) (l : List ℕ) → length l ≤ count f l → (c : ℕ) → has l c ≡ true → f c ≡ true
count_full f [] h c k = clash false k refl
count_full f (x ∷ l) h c k = go (count_full f l) (decided (f x)) (or_cases (eqb c x) (has l c) k)
  where
    go : (length l ≤ count f l → (d : ℕ) → has l d ≡ true → f d ≡ true) → Decided (f x) → (eqb c x ≡ true) ⊎ (has l c ≡ true) → f c ≡ true
    go ih (inr a) e = absurd (omega (arith, count_le f l, rw a at h))
    go ih (inl a) (inl e) = rw (eqb-true c x e) a
    go ih (inl a) (inr e) = ih (omega (arith, rw a at h)) c e

-- some counted: one that passes
pub some_passes : (f : ℕ → Bool) (l : List ℕ) → count f l ≢ 0 → (a : ℕ) × (has l a ≡ true) × (f a ≡ true)
some_passes f [] h = absurd (h refl)
some_passes f (x ∷ l) h = go (decided (f x)) (some_passes f l)
  where
    go : Decided (f x) → (count f l ≢ 0 → (a : ℕ) × (has l a ≡ true) × (f a ≡ true)) → (a : ℕ) × (has (x ∷ l) a ≡ true) × (f a ≡ true)
    go (inl e) ih = (x, has_head x l, e)
    go (inr e) ih = let (a, k, t) = ih (λ w. h (rw e (omega arith))) in (a, has_tail x l a k, t)

-- fewer counted than there are: one that fails
pub some_fails : (f : ℕ → Bool) (l : List ℕ) → count f l ≢ length l → (a : ℕ) × (has l a ≡ true) × (f a ≡ false)
some_fails f [] h = absurd (h refl)
some_fails f (x ∷ l) h = go (decided (f x)) (some_fails f l)
  where
    go : Decided (f x) → (count f l ≢ length l → (a : ℕ) × (has l a ≡ true) × (f a ≡ false)) → (a : ℕ) × (has (x ∷ l) a ≡ true) × (f a ≡ false)
    go (inr e) ih = (x, has_head x l, e)
    go (inl e) ih = let (a, k, t) = ih (λ w. h (rw e (omega arith))) in (a, has_tail x l a k, t)

-- two tests that agree on a list's numbers count alike
pub count_ext : (f g : ℕ → Bool) (l : List ℕ) → ((c : ℕ) → has l c ≡ true → f c ≡ g c) → count f l ≡ count g l
count_ext f g [] h = refl
count_ext f g (x ∷ l) h = rw (h x (has_head x l), count_ext f g l (λ c e. h c (has_tail x l c e))) refl

pub count_zero : (f : ℕ → Bool) (l : List ℕ) → ((c : ℕ) → has l c ≡ true → f c ≡ false) → count f l ≡ 0
count_zero f l h = count_ext f (λ _. false) l h ∙ none l
  where
    none : (k : List ℕ) → count (λ _. false) k ≡ 0
    none [] = refl
    none (x ∷ k) = omega (arith, none k)

-- ---- parts

pub count_append : {A : Type 0} (f : A → Bool) (k l : List A) → count f (k ++ l) ≡ count f k + count f l
count_append f [] l = omega arith
count_append f (x ∷ k) l = omega (arith, count_append f k l)

-- those that pass another test, and the rest
pub count_split : (f g : ℕ → Bool) (l : List ℕ) → count f l ≡ count f (keep g l) + count f (keep (λ c. not (g c)) l)
count_split f g [] = refl
count_split f g (c ∷ l) = go (g c) (count_split f g l)
  where
    go : (x : Bool) → count f l ≡ count f (keep g l) + count f (keep (λ d. not (g d)) l) → bit (f c) + count f l ≡ count f (cond x (c ∷ keep g l) (keep g l)) + count f (cond (not x) (c ∷ keep (λ d. not (g d)) l) (keep (λ d. not (g d)) l))
    go true ih = omega arith
    go false ih = omega arith

pub count_kept : {A : Type 0} (f g : A → Bool) (l : List A) → count f (keep g l) ≡ count (λ c. g c && f c) l
count_kept f g [] = refl
count_kept f g (c ∷ l) = go (g c) (count_kept f g l)
  where
    go : (x : Bool) → count f (keep g l) ≡ count (λ d. g d && f d) l → count f (cond x (c ∷ keep g l) (keep g l)) ≡ bit (x && f c) + count (λ d. g d && f d) l
    go true ih = rw ih
    go false ih = omega arith

-- as many are kept as are counted
pub length_keep : {A : Type 0} (f : A → Bool) (l : List A) → length (keep f l) ≡ count f l
length_keep f [] = refl
length_keep f (c ∷ l) = go (f c) (length_keep f l)
  where
    go : (x : Bool) → length (keep f l) ≡ count f l → length (cond x (c ∷ keep f l) (keep f l)) ≡ bit x + count f l
    go true ih = omega arith
    go false ih = omega arith

-- a number taken out of a list
pub count_out : (f : ℕ → Bool) (c : ℕ) (l : List ℕ) → nodup l ≡ true → count f l ≡ bit (has l c && f c) + count f (without c l)
count_out f c [] n = refl
count_out f c (y ∷ l) n = go (decided (eqb y c)) (count_out f c l (nodup_tail y l n))
  where
    go : Decided (eqb y c) → count f l ≡ bit (has l c && f c) + count f (without c l) → bit (f y) + count f l ≡ bit ((eqb c y || has l c) && f c) + count f (without c (y ∷ l))
    go (inl e) ih = let w : y ≡ c = eqb-true y c e in rw (e, eq-eqb c y (sym w), w, without_gone c l (rw w at (nodup_head y l n)))
    go (inr e) ih = rw (e, ne_eqb c y (λ w. eqb-false y c e (sym w))) (omega arith)

-- where the number taken out does not pass, nothing changes
pub count_without : (f : ℕ → Bool) (c : ℕ) (l : List ℕ) → f c ≡ false → count f (without c l) ≡ count f l
count_without f c [] h = refl
count_without f c (y ∷ l) h = go (decided (eqb y c)) (count_without f c l h)
  where
    go : Decided (eqb y c) → count f (without c l) ≡ count f l → count f (without c (y ∷ l)) ≡ bit (f y) + count f l
    go (inl a) ih = rw (a, eqb-true y c a, h) (omega arith)
    go (inr a) ih = rw (a, ih)

-- an element written anew
pub count_set : {A : Type 0} (f : A → Bool) (l : List A) (i : ℕ) (d v : A) → i < length l
    → count f (set l i v) + bit (f (get_or l i d)) ≡ count f l + bit (f v)
count_set f [] i d v h = absurd (not-suc-le-zero h)
count_set f (x ∷ l) zero d v h = omega arith
count_set f (x ∷ l) (suc i) d v h = omega (arith, count_set f l i d v (le_of_suc-le-suc h))

-- ---- numbers that two lists share

count_or : (f g h : ℕ → Bool) (l : List ℕ) → ((c : ℕ) → g c ≡ true → h c ≡ false) → count (λ c. (g c || h c) && f c) l ≡ count (λ c. g c && f c) l + count (λ c. h c && f c) l
count_or f g h [] a = refl
count_or f g h (c ∷ l) a = go (decided (g c)) (count_or f g h l a)
  where
    go : Decided (g c) → count (λ d. (g d || h d) && f d) l ≡ count (λ d. g d && f d) l + count (λ d. h d && f d) l
        → count (λ d. (g d || h d) && f d) (c ∷ l) ≡ count (λ d. g d && f d) (c ∷ l) + count (λ d. h d && f d) (c ∷ l)
    go (inl e) ih = rw (e, a c e) (omega arith)
    go (inr e) ih = rw e (omega arith)

count_at : (f : ℕ → Bool) (a : ℕ) (l : List ℕ) → nodup l ≡ true → count (λ c. eqb c a && f c) l ≡ bit (has l a && f a)
count_at f a [] n = refl
count_at f a (x ∷ l) n = go (decided (eqb x a)) (count_at f a l (nodup_tail x l n))
  where
    go : Decided (eqb x a) → count (λ c. eqb c a && f c) l ≡ bit (has l a && f a) → bit (eqb x a && f x) + count (λ c. eqb c a && f c) l ≡ bit ((eqb a x || has l a) && f a)
    go (inl e) ih = let w : x ≡ a = eqb-true x a e in
        let out : has l a ≡ false = rw w at (nodup_head x l n) in
        rw (ih, out, e, w, eq-eqb a a refl) (omega arith)
    go (inr e) ih = rw (ih, e, ne_eqb a x (λ w. eqb-false x a e (sym w))) (omega arith)

-- counted in the one list or in the other
pub count_shared : (f : ℕ → Bool) (k l : List ℕ) → nodup k ≡ true → nodup l ≡ true → count (λ c. has l c && f c) k ≡ count (λ c. has k c && f c) l
count_shared f [] l n₁ n₂ = sym (count_zero (λ c. false) l (λ c _. refl))
count_shared f (a ∷ k) l n₁ n₂ = omega (arith, count_or f (λ c. eqb c a) (has k) l apart, count_at f a l n₂, count_shared f k l (nodup_tail a k n₁) n₂)
  where
    apart : (c : ℕ) → eqb c a ≡ true → has k c ≡ false
    apart c e = rw (eqb-true c a e) (nodup_head a k n₁)

-- two lists of the same numbers
pub count_same : (f : ℕ → Bool) (k l : List ℕ) → nodup k ≡ true → nodup l ≡ true → ((c : ℕ) → has k c ≡ has l c) → count f k ≡ count f l
count_same f k l n₁ n₂ h = count_ext f (λ c. has l c && f c) k (λ c e. rw (← h c, e)) ∙ count_shared f k l n₁ n₂ ∙ sym (count_ext f (λ c. has k c && f c) l (λ c e. rw (h c, e)))

-- the counts of two lists differ as those of their own numbers
pub count_own : (f : ℕ → Bool) (k l : List ℕ) → nodup k ≡ true → nodup l ≡ true
    → count f k + count f (keep (λ c. not (has k c)) l) ≡ count f l + count f (keep (λ c. not (has l c)) k)
count_own f k l a b = omega (arith, count_split f (has l) k, count_split f (has k) l, count_kept f (has l) k, count_kept f (has k) l, count_shared f k l a b)

-- ---- some number passes

pub any_at : (f : ℕ → Bool) (l : List ℕ) → any f l ≡ true → (c : ℕ) × (has l c ≡ true) × (f c ≡ true)
any_at f [] h = clash false h refl
any_at f (x ∷ l) h = go (or_cases (f x) (any f l) h) (any_at f l)
  where
    go : (f x ≡ true) ⊎ (any f l ≡ true) → (any f l ≡ true → (c : ℕ) × (has l c ≡ true) × (f c ≡ true)) → (c : ℕ) × (has (x ∷ l) c ≡ true) × (f c ≡ true)
    go (inl e) ih = (x, has_head x l, e)
    go (inr e) ih = let (c, k, t) = ih e in (c, has_tail x l c k, t)

pub any_of : (f : ℕ → Bool) (l : List ℕ) (c : ℕ) → has l c ≡ true → f c ≡ true → any f l ≡ true
any_of f [] c h t = clash false h refl
any_of f (x ∷ l) c h t = go (or_cases (eqb c x) (has l c) h) (any_of f l c)
  where
    go : (eqb c x ≡ true) ⊎ (has l c ≡ true) → (has l c ≡ true → f c ≡ true → any f l ≡ true) → (f x || any f l) ≡ true
    go (inl e) ih = rw (← eqb-true c x e, t)
    go (inr e) ih = or_right (f x) (any f l) (ih e t)
