-- Lists that a function gives for the elements of a list, one after another: each stands among them all, and where no number stands twice in them all, a
-- test that passes only at an element whose list has c passes somewhere exactly if it passes at the one that has c. And lists of at most one element each,
-- and what two lists share. Rests on the laws of counts and of lists that stand among others. Assumes nothing.
use mathlib.Core.Path.{◌≡◌, refl, sym, ap, ◌∙◌}
use mathlib.Core.Logic.{◌⊎◌, inl, inr}
use mathlib.Core.Bool.{Bool, true, false, not, cond, ◌&&◌, and-true}
use mathlib.Core.List.Memᴰ
use mathlib.Core.List.{List, [], ◌∷◌, ◌++◌, map, Memᴰ}
use Prim.Native.Nat.{ℕ, ◌≤◌}
use native.Mathlib.Omega.{arith}
use Rattle.lists.specs.Lists.{keep, count, any, has, nodup, joined}
use Rattle.lists.proofs.Tests.{same_test}
use Rattle.lists.proofs.Counts.{count_ext, count_append, count_shared}
use Rattle.lists.proofs.Among.{Among, among_nodup, joined_once}
use Rattle.lists.proofs.Occurrences.{any_in, in_any}

-- ---- the lists of some elements, one after another

module _ {A : Type 0} (g : A → List ℕ) where
  -- the list of one element stands among those of all
  pub one_among : (l : List A) (x : A) → Memᴰ x l → Among (g x) (joined (map g l))
  one_among [] x m f = absurd (Memᴰ.not-nil m)
  one_among (y ∷ l) x m f = go (Memᴰ.cases_cons m) (λ n. one_among l x n f)
    where
      go : (x ≡ y) ⊎ Memᴰ x l → (Memᴰ x l → count f (g x) ≤ count f (joined (map g l))) → count f (g x) ≤ count f (g y ++ joined (map g l))
      go (inl e) ih = rw e (omega (arith, count_append f (g y) (joined (map g l))))
      go (inr n) ih = omega (arith, count_append f (g y) (joined (map g l)), ih n)

  module _ (l : List A) (once : nodup (joined (map g l)) ≡ true) where
    -- so no number stands twice in it
    pub one_once : (x : A) → Memᴰ x l → nodup (g x) ≡ true
    one_once x m = among_nodup (g x) (joined (map g l)) (one_among l x m) once

    -- a test that passes only where the list has c
    pub any_one : (t : A → Bool) (c : ℕ) → ((y : A) → Memᴰ y l → t y ≡ true → has (g y) c ≡ true)
        → (x : A) → Memᴰ x l → has (g x) c ≡ true → any t l ≡ t x
    any_one t c only x m h = same_test (any t l) (t x) there (in_any t l m)
      where
        there : any t l ≡ true → t x ≡ true
        there w =
            let (y, n, k) = any_in t l w in
            rw (joined_once g l once x y m n c h (only y n k)) k

module _ {A B : Type 0} where
  -- what a function gives, unless it passes a test
  pub joined_unless : (t : B → Bool) (g : A → B) (l : List A) → joined (map (λ x. cond (t (g x)) [] (g x ∷ [])) l) ≡ keep (λ y. not (t y)) (map g l)
  joined_unless t g [] = refl
  joined_unless t g (x ∷ l) = go (t (g x)) (joined_unless t g l)
    where
      go : (v : Bool) → joined (map (λ y. cond (t (g y)) [] (g y ∷ [])) l) ≡ keep (λ y. not (t y)) (map g l)
          → cond v [] (g x ∷ []) ++ joined (map (λ y. cond (t (g y)) [] (g y ∷ [])) l) ≡ cond (not v) (g x ∷ keep (λ y. not (t y)) (map g l)) (keep (λ y. not (t y)) (map g l))
      go true ih = ih
      go false ih = ap (λ (k : List B). g x ∷ k) ih

-- ---- counts

-- of two lists without repetition, as many numbers of the one stand in the other as of the other in the one
pub count_mutual : (k l : List ℕ) → nodup k ≡ true → nodup l ≡ true → count (has l) k ≡ count (has k) l
count_mutual k l a b =
    count_ext (has l) (λ c. has l c && true) k (λ c _. sym (and-true (has l c)))
    ∙ count_shared (λ _. true) k l a b
    ∙ sym (count_ext (has k) (λ c. has k c && true) l (λ c _. sym (and-true (has k c))))
