-- What is kept of a list: of two lists joined, of a list mapped, by two tests one after the other, of a range with one number more, as is counted of it, and under two tests
-- that agree on the list's numbers. Something is kept where some number passes, and nothing where none does. Assumes nothing.
use mathlib.Core.Path.{◌≡◌, refl, ap, ◌∙◌}
use mathlib.Core.Logic.{inl, inr}
use mathlib.Core.Bool.{Bool, true, false, not, ◌&&◌}
use mathlib.Core.List.{List, [], ◌∷◌, ◌++◌, map, append-nil}
use Prim.Native.Nat.{ℕ, ◌+◌}
use native.Mathlib.Numerals.{add-one}
use native.Mathlib.Omega.{arith}
use Rattle.lists.specs.Lists.{range, bit, keep, count, any, empty, has}
use Rattle.lists.proofs.Tests.{Decided, decided, clash}
use Rattle.lists.proofs.Members.{has_head, has_tail, range_last}
use Rattle.lists.proofs.Counts.{count_append}

module _ {A : Type 0} where
  pub keep_append : (f : A → Bool) (k l : List A) → keep f (k ++ l) ≡ keep f k ++ keep f l
  keep_append f [] l = refl
  keep_append f (x ∷ k) l = go (decided (f x)) (keep_append f k l)
    where
      go : Decided (f x) → keep f (k ++ l) ≡ keep f k ++ keep f l → keep f (x ∷ k ++ l) ≡ keep f (x ∷ k) ++ keep f l
      go (inl e) ih = rw (e, ih)
      go (inr e) ih = rw (e, ih)

  pub keep_all : (f : A → Bool) (l : List A) → ((x : A) → f x ≡ true) → keep f l ≡ l
  keep_all f [] h = refl
  keep_all f (x ∷ l) h = rw (h x, keep_all f l h)

  -- two tests, one after the other
  pub keep_both : (f g : A → Bool) (l : List A) → keep f (keep g l) ≡ keep (λ x. g x && f x) l
  keep_both f g [] = refl
  keep_both f g (x ∷ l) = go (decided (g x)) (decided (f x)) (keep_both f g l)
    where
      go : Decided (g x) → Decided (f x) → keep f (keep g l) ≡ keep (λ y. g y && f y) l → keep f (keep g (x ∷ l)) ≡ keep (λ y. g y && f y) (x ∷ l)
      go (inl a) (inl b) ih = rw (a, b, ih)
      go (inl a) (inr b) ih = rw (a, b, ih)
      go (inr a) b ih = rw (a, ih)

  -- what passes the stricter of two tests is kept by both
  pub keep_stricter : (f g : A → Bool) (l : List A) → ((x : A) → f x ≡ true → g x ≡ true) → keep f (keep g l) ≡ keep f l
  keep_stricter f g [] h = refl
  keep_stricter f g (x ∷ l) h = go (decided (g x)) (decided (f x)) (keep_stricter f g l h)
    where
      go : Decided (g x) → Decided (f x) → keep f (keep g l) ≡ keep f l → keep f (keep g (x ∷ l)) ≡ keep f (x ∷ l)
      go (inl a) (inl b) ih = rw (a, b, ih)
      go (inl a) (inr b) ih = rw (a, b, ih)
      go (inr a) (inl b) ih = clash (g x) (h x b) a
      go (inr a) (inr b) ih = rw (a, b, ih)

module _ {A B : Type 0} (g : A → B) where
  pub keep_map : (f : B → Bool) (l : List A) → keep f (map g l) ≡ map g (keep (λ x. f (g x)) l)
  keep_map f [] = refl
  keep_map f (x ∷ l) = go (decided (f (g x))) (keep_map f l)
    where
      go : Decided (f (g x)) → keep f (map g l) ≡ map g (keep (λ y. f (g y)) l) → keep f (map g (x ∷ l)) ≡ map g (keep (λ y. f (g y)) (x ∷ l))
      go (inl e) ih = rw (e, ih)
      go (inr e) ih = rw (e, ih)

-- ---- lists of numbers

-- some number passes, or nothing is kept
pub some_kept : (f : ℕ → Bool) (l : List ℕ) → not (empty (keep f l)) ≡ any f l
some_kept f [] = refl
some_kept f (x ∷ l) = go (decided (f x)) (some_kept f l)
  where
    go : Decided (f x) → not (empty (keep f l)) ≡ any f l → not (empty (keep f (x ∷ l))) ≡ any f (x ∷ l)
    go (inl e) ih = rw e
    go (inr e) ih = rw e ih

pub keep_none : (l : List ℕ) → keep (λ _. false) l ≡ []
keep_none [] = refl
keep_none (x ∷ l) = keep_none l

-- two tests that agree on a list's numbers
module _ (f g : ℕ → Bool) where
  pub keep_ext : (l : List ℕ) → ((c : ℕ) → has l c ≡ true → f c ≡ g c) → keep f l ≡ keep g l
  keep_ext [] h = refl
  keep_ext (x ∷ l) h = rw (h x (has_head x l), keep_ext l (λ c e. h c (has_tail x l c e)))

  pub any_ext : (l : List ℕ) → ((c : ℕ) → has l c ≡ true → f c ≡ g c) → any f l ≡ any g l
  any_ext [] h = refl
  any_ext (x ∷ l) h = rw (h x (has_head x l), any_ext l (λ c e. h c (has_tail x l c e)))

-- ---- a range with one number more

pub range_push : (n : ℕ) → range 0 (n + 1) ≡ range 0 n ++ (n ∷ [])
range_push n = let e : 0 + n ≡ n = omega arith in rw (add-one n) (rw e at (range_last 0 n))

module _ (f : ℕ → Bool) (n : ℕ) where
  push : keep f (range 0 (n + 1)) ≡ keep f (range 0 n) ++ keep f (n ∷ [])
  push = ap (keep f) (range_push n) ∙ keep_append f (range 0 n) (n ∷ [])

  pub keep_range_push : f n ≡ true → keep f (range 0 (n + 1)) ≡ keep f (range 0 n) ++ (n ∷ [])
  keep_range_push h = push ∙ rw h

  pub keep_range_pass : f n ≡ false → keep f (range 0 (n + 1)) ≡ keep f (range 0 n)
  keep_range_pass h = push ∙ rw h (append-nil (keep f (range 0 n)))

  -- a count goes on by the next number, by its test's answer
  pub count_range_push : (found : ℕ) (t : Bool) → found ≡ count f (range 0 n) → f n ≡ t → found + bit t ≡ count f (range 0 (n + 1))
  count_range_push found t so_far e = omega (arith, ap (count f) (range_push n), count_append f (range 0 n) (n ∷ []), ap bit e)
