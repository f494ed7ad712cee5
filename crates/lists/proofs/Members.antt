-- Which numbers stand in a list, and that none stands twice: of what is kept, joined, mapped, and of ranges. Assumes nothing.
use mathlib.Core.Path.{◌≡◌, refl, sym, ap, ◌∙◌}
use mathlib.Core.Logic.{◌⊎◌, inl, inr, ◌≢◌}
use mathlib.Core.Bool.{Bool, true, false, not, ◌&&◌, ◌||◌, and-false}
use mathlib.Core.List.{List, [], ◌∷◌, ◌++◌}
use Prim.Native.Nat.{ℕ, zero, suc, ◌+◌, ◌-◌, ◌≤◌, ◌<◌}
use native.Mathlib.Nat.{not-suc-le-zero, le_of_suc-le-suc}
use native.Mathlib.Omega.{arith}
use lib.Dec.{eqb}
use lib.ListN.{length, get_or}
use borrow.Author.Tests.{eqb-true, eqb-false, eq-eqb, ne_eqb, not-true}
use Rattle.lists.specs.Lists.{range, keep, empty, has, nodup, without}
use Rattle.lists.proofs.Tests.{Decided, decided, clash, and_left, and_right, or_cases, or_right, or_false_left, or_false_right}

pub has_head : (x : ℕ) (l : List ℕ) → has (x ∷ l) x ≡ true
has_head x l = rw (eq-eqb x x refl)

pub has_tail : (x : ℕ) (l : List ℕ) (c : ℕ) → has l c ≡ true → has (x ∷ l) c ≡ true
has_tail x l c h = or_right (eqb c x) (has l c) h

-- a list of one number has no other
pub has_one : (x c : ℕ) → has (x ∷ []) c ≡ true → c ≡ x
has_one x c h = go (or_cases (eqb c x) false h)
  where
    go : (eqb c x ≡ true) ⊎ (◌≡◌ {A = Bool} false true) → c ≡ x
    go (inl e) = eqb-true c x e
    go (inr e) = clash false e refl

pub empty_none : (l : List ℕ) → empty l ≡ true → (c : ℕ) → has l c ≡ false
empty_none [] h c = refl
empty_none (x ∷ l) h c = clash false h refl

pub has_not_empty : (l : List ℕ) (c : ℕ) → has l c ≡ true → empty l ≡ false
has_not_empty [] c h = sym h
has_not_empty (x ∷ l) c h = refl

-- what a list has at a place stands in the list
pub get_d_has : (l : List ℕ) (t d : ℕ) → t < length l → has l (get_or l t d) ≡ true
get_d_has [] t d h = absurd (not-suc-le-zero h)
get_d_has (x ∷ l) zero d h = has_head x l
get_d_has (x ∷ l) (suc t) d h = has_tail x l (get_or l t d) (get_d_has l t d (le_of_suc-le-suc h))

-- a number that a list has stands somewhere in it
pub has_place : (l : List ℕ) (x : ℕ) → has l x ≡ true → (i : ℕ) × (i < length l) × (get_or l i 0 ≡ x)
has_place [] x h = clash false h refl
has_place (y ∷ l) x h = go (or_cases (eqb x y) (has l x) h) (has_place l x)
  where
    go : (eqb x y ≡ true) ⊎ (has l x ≡ true) → (has l x ≡ true → (i : ℕ) × (i < length l) × (get_or l i 0 ≡ x)) → (i : ℕ) × (i < suc (length l)) × (get_or (y ∷ l) i 0 ≡ x)
    go (inl e) ih = (0, omega arith, let w : x ≡ y = eqb-true x y e in omega arith)
    go (inr e) ih = let (i, l, w) = ih e in (suc i, omega arith, w)

pub has_append : (k l : List ℕ) (x : ℕ) → has (k ++ l) x ≡ (has k x || has l x)
has_append [] l x = refl
has_append (a ∷ k) l x = go (eqb x a) (has_append k l x)
  where
    go : (e : Bool) → has (k ++ l) x ≡ (has k x || has l x) → (e || has (k ++ l) x) ≡ (e || has k x || has l x)
    go true ih = refl
    go false ih = ih

pub has_keep : (g : ℕ → Bool) (l : List ℕ) (c : ℕ) → has (keep g l) c ≡ (g c && has l c)
has_keep g [] c = sym (and-false (g c))
has_keep g (x ∷ l) c = go (decided (g x)) (decided (eqb c x)) (has_keep g l c)
  where
    go : Decided (g x) → Decided (eqb c x) → has (keep g l) c ≡ (g c && has l c) → has (keep g (x ∷ l)) c ≡ (g c && has (x ∷ l) c)
    go (inl a) (inl e) ih = rw (a, e, eqb-true c x e, a)
    go (inl a) (inr e) ih = rw (a, e) ih
    go (inr a) (inl e) ih = rw (a, e, ih, eqb-true c x e, a)
    go (inr a) (inr e) ih = rw (a, e) ih

-- what is kept passes the test, and was there
pub kept_passes : (g : ℕ → Bool) (l : List ℕ) (c : ℕ) → has (keep g l) c ≡ true → g c ≡ true
kept_passes g l c h = and_left (g c) (has l c) (sym (has_keep g l c) ∙ h)

pub kept_has : (g : ℕ → Bool) (l : List ℕ) (c : ℕ) → has (keep g l) c ≡ true → has l c ≡ true
kept_has g l c h = and_right (g c) (has l c) (sym (has_keep g l c) ∙ h)

pub has_kept : (g : ℕ → Bool) (l : List ℕ) (c : ℕ) → g c ≡ true → has l c ≡ true → has (keep g l) c ≡ true
has_kept g l c p h = has_keep g l c ∙ rw (p, h)

pub without_gone : (c : ℕ) (l : List ℕ) → has l c ≡ false → without c l ≡ l
without_gone c [] h = refl
without_gone c (x ∷ l) h = rw (ne_eqb x c (λ w. eqb-false c x (or_false_left (eqb c x) (has l c) h) (sym w)), without_gone c l (or_false_right (eqb c x) (has l c) h))

-- ---- no number twice

pub nodup_head : (x : ℕ) (l : List ℕ) → nodup (x ∷ l) ≡ true → has l x ≡ false
nodup_head x l h = not-true (has l x) (and_left (not (has l x)) (nodup l) h)

pub nodup_tail : (x : ℕ) (l : List ℕ) → nodup (x ∷ l) ≡ true → nodup l ≡ true
nodup_tail x l h = and_right (not (has l x)) (nodup l) h

pub nodup_keep : (g : ℕ → Bool) (l : List ℕ) → nodup l ≡ true → nodup (keep g l) ≡ true
nodup_keep g [] h = refl
nodup_keep g (x ∷ l) h = go (decided (g x)) (nodup_keep g l (nodup_tail x l h)) (nodup_head x l h)
  where
    go : Decided (g x) → nodup (keep g l) ≡ true → has l x ≡ false → nodup (keep g (x ∷ l)) ≡ true
    go (inl a) ih out = rw (a, has_keep g l x, a, out) ih
    go (inr a) ih out = rw a ih

pub nodup_append : (k l : List ℕ) → nodup k ≡ true → nodup l ≡ true → ((x : ℕ) → has k x ≡ true → has l x ≡ false) → nodup (k ++ l) ≡ true
nodup_append [] l a b d = b
nodup_append (x ∷ k) l a b d = rw (has_append k l x, nodup_head x k a, d x (has_head x k)) (nodup_append k l (nodup_tail x k a) b (λ y e. d y (has_tail x k y e)))

-- ---- ranges

pub range_in : (a k x : ℕ) → has (range a k) x ≡ true → (a ≤ x) × (x < a + k)
range_in a zero x h = clash false h refl
range_in a (suc k) x h = go (or_cases (eqb x a) (has (range (suc a) k) x) h) (range_in (suc a) k x)
  where
    go : (eqb x a ≡ true) ⊎ (has (range (suc a) k) x ≡ true) → (has (range (suc a) k) x ≡ true → (suc a ≤ x) × (x < suc a + k)) → (a ≤ x) × (x < a + suc k)
    go (inl e) ih = let w : x ≡ a = eqb-true x a e in omega arith
    go (inr e) ih = let (l, u) = ih e in omega arith

pub in_range : (a k x : ℕ) → a ≤ x → x < a + k → has (range a k) x ≡ true
in_range a zero x l u = absurd (omega arith)
in_range a (suc k) x l u = go (in_range (suc a) k x) (decided (eqb x a))
  where
    go : (suc a ≤ x → x < suc a + k → has (range (suc a) k) x ≡ true) → Decided (eqb x a) → has (range a (suc k)) x ≡ true
    go ih (inl e) = rw e
    go ih (inr e) = let w : x ≢ a = eqb-false x a e in rw e (ih (omega arith) (omega arith))

pub range_nodup : (a k : ℕ) → nodup (range a k) ≡ true
range_nodup a zero = refl
range_nodup a (suc k) = go (range_nodup (suc a) k) (decided (has (range (suc a) k) a))
  where
    go : nodup (range (suc a) k) ≡ true → Decided (has (range (suc a) k) a) → nodup (range a (suc k)) ≡ true
    go ih (inl e) = absurd (omega (arith, range_in (suc a) k a e))
    go ih (inr e) = rw e ih

-- the numbers from m up to e, e left out, begin with m
pub range_more : (m e : ℕ) → m < e → range m (e - m) ≡ m ∷ range (m + 1) (e - (m + 1))
range_more m e h = rw (less, more)
  where
    less : e - m ≡ suc (e - (m + 1))
    less = omega arith

    more : m + 1 ≡ suc m
    more = omega arith

pub range_none : (m e : ℕ) → e ≤ m → range m (e - m) ≡ []
range_none m e h = rw none
  where
    none : e - m ≡ 0
    none = omega arith

-- a range with its last number apart
pub range_last : (a k : ℕ) → range a (suc k) ≡ range a k ++ ((a + k) ∷ [])
range_last a zero = let e : a ≡ a + 0 = omega arith in ap (λ (x : ℕ). x ∷ []) e
range_last a (suc k) = let e : suc a + k ≡ a + suc k = omega arith in ap (λ (l : List ℕ). a ∷ l) (range_last (suc a) k ∙ rw e)
