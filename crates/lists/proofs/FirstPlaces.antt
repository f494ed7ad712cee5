-- The place of the first element that passes a test: it lies in the list exactly where some element passes, that element passes, and none before it
-- does. In two lists one after the other it lies in the front one where one passes there. By recursion on the list. Assumes nothing.
use mathlib.Core.Path.{◌≡◌, refl, ap, ◌∙◌}
use mathlib.Core.Logic.{inl, inr}
use mathlib.Core.Bool.{Bool, true, false, cond, ◌||◌}
use mathlib.Core.List.{List, [], ◌∷◌, ◌++◌}
use Prim.Native.Nat.{ℕ, zero, suc, ◌+◌, ◌≤◌, ◌<◌}
use native.Mathlib.Nat.{not-suc-le-zero, le_of_suc-le-suc}
use native.Mathlib.Omega.{arith}
use lib.Dec.{ltb, leb-suc-suc}
use lib.ListN.{length, get_or, drop}
use borrow.Author.Tests.{lt-ltb, ltb-true}
use Rattle.lists.specs.Lists.{any, has, first_place}
use Rattle.lists.proofs.Tests.{Decided, decided, clash, or_false_left, or_false_right}
use Rattle.lists.proofs.Members.{has_head, has_tail}

pub first_within_any : (f : ℕ → Bool) (l : List ℕ) → ltb (first_place f l) (length l) ≡ any f l
first_within_any f [] = refl
first_within_any f (x ∷ l) = go (f x) (first_within_any f l)
  where
    go : (t : Bool) → ltb (first_place f l) (length l) ≡ any f l → ltb (cond t 0 (suc (first_place f l))) (suc (length l)) ≡ (t || any f l)
    go true ih = lt-ltb 0 (suc (length l)) (omega arith)
    go false ih = leb-suc-suc (suc (first_place f l)) (length l) ∙ ih

pub first_within : (f : ℕ → Bool) (l : List ℕ) → any f l ≡ true → first_place f l < length l
first_within f l h = ltb-true (first_place f l) (length l) (first_within_any f l ∙ h)

pub first_passes : (f : ℕ → Bool) (l : List ℕ) (d : ℕ) → any f l ≡ true → f (get_or l (first_place f l) d) ≡ true
first_passes f [] d h = clash false h refl
first_passes f (x ∷ l) d h = go (decided (f x)) (first_passes f l d)
  where
    go : Decided (f x) → (any f l ≡ true → f (get_or l (first_place f l) d) ≡ true) → f (get_or (x ∷ l) (first_place f (x ∷ l)) d) ≡ true
    go (inl e) ih = rw (e, e)
    go (inr e) ih = rw e (ih (rw e at h))

pub first_before : (f : ℕ → Bool) (l : List ℕ) (d : ℕ) (c : ℕ) → c < first_place f l → f (get_or l c d) ≡ false
first_before f [] d c w = absurd (not-suc-le-zero w)
first_before f (x ∷ l) d c w = go (decided (f x)) (first_before f l d) c w
  where
    go : Decided (f x) → ((k : ℕ) → k < first_place f l → f (get_or l k d) ≡ false) → (k : ℕ) → k < first_place f (x ∷ l) → f (get_or (x ∷ l) k d) ≡ false
    go (inl e) below k w = absurd (not-suc-le-zero (rw e at w))
    go (inr e) below zero w = e
    go (inr e) below (suc k) w = below k (le_of_suc-le-suc (rw e at w))

-- ---- a search from the front

module _ {A : Type 0} (f : A → Bool) where
  pub first_place_within : (l : List A) → first_place f l ≤ length l
  first_place_within [] = omega arith
  first_place_within (x ∷ l) = go (f x) (first_place_within l)
    where
      go : (t : Bool) → first_place f l ≤ length l → cond t 0 (suc (first_place f l)) ≤ suc (length l)
      go true ih = omega arith
      go false ih = omega arith

  -- a search that is at place k, where x stands: it stops there, or goes on
  module _ (l r : List A) (k : ℕ) (x : A) (at : drop k l ≡ x ∷ r) where
    pub first_place_here : f x ≡ true → k + first_place f (drop k l) ≡ k
    first_place_here h = rw (at, h) (omega arith)

    pub first_place_next : f x ≡ false → k + first_place f (drop k l) ≡ k + 1 + first_place f r
    first_place_next h = rw (at, h) (omega arith)

  -- ---- two lists one after the other

  -- the first passes in the front one
  pub first_place_front : (l r : List A) → any f l ≡ true → first_place f (l ++ r) ≡ first_place f l
  first_place_front [] r h = clash false h refl
  first_place_front (x ∷ l) r h = go (decided (f x)) (first_place_front l r)
    where
      go : Decided (f x) → (any f l ≡ true → first_place f (l ++ r) ≡ first_place f l) → first_place f (x ∷ (l ++ r)) ≡ first_place f (x ∷ l)
      go (inl e) ih = rw e
      go (inr e) ih = rw e (ap suc (ih (rw e at h)))

  -- none passes there
  pub first_place_behind : (l r : List A) → any f l ≡ false → first_place f (l ++ r) ≡ length l + first_place f r
  first_place_behind [] r h = omega arith
  first_place_behind (x ∷ l) r h =
      rw (or_false_left (f x) (any f l) h) (omega (arith, first_place_behind l r (or_false_right (f x) (any f l) h)))

-- two tests that agree on the list
pub first_place_ext : (f g : ℕ → Bool) (l : List ℕ) → ((c : ℕ) → has l c ≡ true → f c ≡ g c) → first_place f l ≡ first_place g l
first_place_ext f g [] h = refl
first_place_ext f g (x ∷ l) h = rw (h x (has_head x l), first_place_ext f g l (λ c e. h c (has_tail x l c e)))
