-- Sums of numbers over lists. A sum over a list without repetition depends only on which numbers the list has, since one of them can be taken out first; and a
-- sum over the numbers below n that pass a test is a sum up to n, of which the others give nothing. Assumes nothing.
use mathlib.Core.Path.{◌≡◌, refl, sym, ap, ◌∙◌}
use mathlib.Core.Logic.{inl, inr}
use mathlib.Core.Bool.{Bool, true, false, not, cond, ◌&&◌}
use mathlib.Core.List.{List, [], ◌∷◌, ◌++◌, map, map-append}
use Prim.Native.Nat.{ℕ, zero, suc, ◌+◌}
use native.Mathlib.Nat.{zero-add}
use native.Mathlib.Omega.{arith}
use lib.Dec.{eqb}
use borrow.Author.Tests.{eqb-true, eqb-false, ne_eqb}
use Rattle.lists.specs.Lists.{range, keep, has, nodup, without}
use Rattle.lists.proofs.Tests.{Decided, decided, clash}
use Rattle.lists.proofs.Members.{has_head, has_keep, nodup_head, nodup_tail, nodup_keep, without_gone, range_last}
use Rattle.lists.proofs.Kept.{keep_append}
use Rattle.fitting.proofs.Groups.{total}
use Rattle.search.specs.Solutions.{sum}

-- ---- lists without repetition

-- one number of the list apart
sum_out : (f : ℕ → ℕ) (c : ℕ) (l : List ℕ) → nodup l ≡ true → has l c ≡ true → sum (map f l) ≡ f c + sum (map f (without c l))
sum_out f c [] n h = clash false h refl
sum_out f c (x ∷ l) n h = go (decided (eqb x c)) (nodup_head x l n) (sum_out f c l (nodup_tail x l n))
  where
    go : Decided (eqb x c) → has l x ≡ false → (has l c ≡ true → sum (map f l) ≡ f c + sum (map f (without c l)))
        → f x + sum (map f l) ≡ f c + sum (map f (without c (x ∷ l)))
    go (inl e) out ih = let w : x ≡ c = eqb-true x c e in rw (e, without_gone c l (rw w at out), w)
    go (inr e) out ih = rw e (omega (arith, ih (rw (ne_eqb c x (λ w. eqb-false x c e (sym w))) at h)))

-- two lists that have the same numbers
pub sum_same : (f : ℕ → ℕ) (k l : List ℕ) → nodup k ≡ true → nodup l ≡ true → ((c : ℕ) → has k c ≡ has l c) → sum (map f k) ≡ sum (map f l)
sum_same f [] [] a b h = refl
sum_same f [] (y ∷ l) a b h = clash false (h y ∙ has_head y l) refl
sum_same f (x ∷ k) l a b h =
    ap (λ (n : ℕ). f x + n) (sum_same f k (without x l) (nodup_tail x k a) (nodup_keep (λ y. not (eqb y x)) l b) others)
    ∙ sym (sum_out f x l b (sym (h x) ∙ has_head x k))
  where
    others : (c : ℕ) → has k c ≡ has (without x l) c
    others c = go (decided (eqb c x)) ∙ sym (has_keep (λ y. not (eqb y x)) l c)
      where
        go : Decided (eqb c x) → has k c ≡ (not (eqb c x) && has l c)
        go (inl e) = let w : c ≡ x = eqb-true c x e in rw (e, w) (nodup_head x k a)
        go (inr e) = let t : has k c ≡ has l c = rw e at (h c) in rw e t

-- ---- numbers that pass a test

pub sum_kept : (t : ℕ → Bool) (k : ℕ → ℕ) (n : ℕ) → sum (map k (keep t (range 0 n))) ≡ total n (λ j. cond (t j) (k j) 0)
sum_kept t k zero = refl
sum_kept t k (suc n) =
    let last : range 0 (suc n) ≡ range 0 n ++ (n ∷ []) = rw zero-add at (range_last 0 n) in
    ap (λ (l : List ℕ). sum (map k (keep t l))) last
    ∙ ap (λ (l : List ℕ). sum (map k l)) (keep_append t (range 0 n) (n ∷ []))
    ∙ ap sum (map-append k (keep t (range 0 n)) (keep t (n ∷ [])))
    ∙ sum_append (map k (keep t (range 0 n))) (map k (keep t (n ∷ [])))
    ∙ omega (arith, sum_kept t k n, one (decided (t n)))
  where
    sum_append : (x y : List ℕ) → sum (x ++ y) ≡ sum x + sum y
    sum_append [] y = omega arith
    sum_append (v ∷ x) y = omega (arith, sum_append x y)

    one : Decided (t n) → sum (map k (keep t (n ∷ []))) ≡ cond (t n) (k n) 0
    one (inl e) = rw e (omega arith)
    one (inr e) = rw e
