-- Laws of `all`: at a place of the list, at a number of it, of two lists one after another, and from one test to another that it implies. Each goes down the list, and the
-- laws of "and" take the head's test and the tail's apart. Assumes nothing.
use mathlib.Core.Path.{◌≡◌, refl, ap, ◌∙◌}
use mathlib.Core.Logic.{◌⊎◌, inl, inr}
use mathlib.Core.Bool.{Bool, true, false, ◌&&◌, and-true, and_comm}
use mathlib.Core.List.{List, [], ◌∷◌, ◌++◌, reverse, reverse-cons}
use Prim.Native.Nat.{ℕ, zero, suc, ◌-◌, ◌<◌}
use native.Mathlib.Nat.{not-suc-le-zero, le_of_suc-le-suc}
use lib.Dec.{eqb}
use lib.ListN.{length, get_or, take, drop}
use Rattle.lists.specs.Lists.{keep, all, rotated, has}
use borrow.Author.Tests.{eqb-true}
use Rattle.lists.proofs.Tests.{Decided, decided, clash, and_left, and_right, or_cases}
use Rattle.lists.proofs.Members.{has_head, has_tail}

module _ {A : Type 0} where
  pub all_head : (f : A → Bool) (x : A) (l : List A) → all f (x ∷ l) ≡ true → f x ≡ true
  all_head f x l h = and_left (f x) (all f l) h

  pub all_tail : (f : A → Bool) (x : A) (l : List A) → all f (x ∷ l) ≡ true → all f l ≡ true
  all_tail f x l h = and_right (f x) (all f l) h

  pub all_at : (f : A → Bool) (l : List A) (i : ℕ) (d : A) → all f l ≡ true → i < length l → f (get_or l i d) ≡ true
  all_at f [] i d h k = absurd (not-suc-le-zero k)
  all_at f (x ∷ l) zero d h k = all_head f x l h
  all_at f (x ∷ l) (suc i) d h k = all_at f l i d (all_tail f x l h) (le_of_suc-le-suc k)

  pub all_implied : (f g : A → Bool) (l : List A) → ((x : A) → f x ≡ true → g x ≡ true) → all f l ≡ true → all g l ≡ true
  all_implied f g [] i h = refl
  all_implied f g (x ∷ l) i h = rw (i x (all_head f x l h)) (all_implied f g l i (all_tail f x l h))

  pub all_append : (f : A → Bool) (k l : List A) → all f (k ++ l) ≡ (all f k && all f l)
  all_append f [] l = refl
  all_append f (x ∷ k) l = go (f x) (all_append f k l)
    where
      go : (t : Bool) → all f (k ++ l) ≡ (all f k && all f l) → (t && all f (k ++ l)) ≡ (t && all f k && all f l)
      go true ih = ih
      go false ih = refl

  pub all_push : (f : A → Bool) (l : List A) (x : A) → all f l ≡ true → f x ≡ true → all f (l ++ (x ∷ [])) ≡ true
  all_push f l x h e = all_append f l (x ∷ []) ∙ rw (h, e)

-- ---- a list that is joined, kept in part, reversed, cut, or turned by one place

module _ {A : Type 0} (p : A → Bool) where
  pub all_joined : (k l : List A) → all p k ≡ true → all p l ≡ true → all p (k ++ l) ≡ true
  all_joined k l a b = all_append p k l ∙ rw (a, b)

  pub all_keep : (f : A → Bool) (l : List A) → all p l ≡ true → all p (keep f l) ≡ true
  all_keep f [] h = refl
  all_keep f (x ∷ l) h = go (decided (f x)) (all_keep f l (all_tail p x l h))
    where
      go : Decided (f x) → all p (keep f l) ≡ true → all p (keep f (x ∷ l)) ≡ true
      go (inl e) ih = rw (e, all_head p x l h) ih
      go (inr e) ih = rw e ih

  pub all_reverse : (l : List A) → all p (reverse l) ≡ all p l
  all_reverse [] = refl
  all_reverse (x ∷ l) =
      ap (all p) (reverse-cons x l) ∙ all_append p (reverse l) (x ∷ []) ∙ rw (all_reverse l, and-true (p x)) (and_comm (all p l) (p x))

  pub all_take : (n : ℕ) (l : List A) → all p l ≡ true → all p (take n l) ≡ true
  all_take zero l h = refl
  all_take (suc n) [] h = refl
  all_take (suc n) (x ∷ l) h = rw (all_head p x l h) (all_take n l (all_tail p x l h))

  pub all_drop : (n : ℕ) (l : List A) → all p l ≡ true → all p (drop n l) ≡ true
  all_drop zero l h = h
  all_drop (suc n) [] h = refl
  all_drop (suc n) (x ∷ l) h = all_drop n l (all_tail p x l h)

  pub all_rotated : (l : List A) → all p l ≡ true → all p (rotated l) ≡ true
  unfolding rotated
  all_rotated l h = all_joined (drop (length l - 1) l) (take (length l - 1) l) (all_drop (length l - 1) l h) (all_take (length l - 1) l h)

-- ---- lists of numbers

pub has_all : (f : ℕ → Bool) (l : List ℕ) → ((c : ℕ) → has l c ≡ true → f c ≡ true) → all f l ≡ true
has_all f [] h = refl
has_all f (x ∷ l) h = rw (h x (has_head x l)) (has_all f l (λ c e. h c (has_tail x l c e)))

pub all_has : (f : ℕ → Bool) (l : List ℕ) → all f l ≡ true → (c : ℕ) → has l c ≡ true → f c ≡ true
all_has f [] h c k = clash false k refl
all_has f (x ∷ l) h c k = go (or_cases (eqb c x) (has l c) k) (all_has f l (all_tail f x l h) c)
  where
    go : (eqb c x ≡ true) ⊎ (has l c ≡ true) → (has l c ≡ true → f c ≡ true) → f c ≡ true
    go (inl e) ih = rw (eqb-true c x e) (all_head f x l h)
    go (inr e) ih = ih e
