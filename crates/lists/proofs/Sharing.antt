-- Which numbers two lists share: all of the first (`Within`), none (`Apart`), or some (`meets`), and how the three go together. Assumes nothing.
use mathlib.Core.Path.{◌≡◌, refl}
use mathlib.Core.Logic.{◌⊎◌, inl, inr}
use mathlib.Core.Bool.{true, false}
use mathlib.Core.List.{List, [], ◌∷◌}
use Prim.Native.Nat.{ℕ}
use lib.Dec.{eqb}
use borrow.Author.Tests.{eqb-true}
use Rattle.lists.specs.Lists.{all, has, meets}
use Rattle.lists.proofs.Tests.{Decided, decided, clash, or_cases}
use Rattle.lists.proofs.Counts.{any_at, any_of}
use Rattle.lists.proofs.Occurrences.{all_in}
use Rattle.lists.proofs.Unions.{all_of, has_mem, mem_has}

-- no number stands in both lists
abbrev pub Apart : List ℕ → List ℕ → Type 0
Apart k l = (c : ℕ) → has k c ≡ true → has l c ≡ false

-- every number of the first list stands in the second
abbrev pub Within : List ℕ → List ℕ → Type 0
Within k l = (c : ℕ) → has k c ≡ true → has l c ≡ true

pub all_within : (k l : List ℕ) → all (has l) k ≡ true → Within k l
all_within k l h c m = all_in (has l) k h (has_mem k c m)

pub within_all : (k l : List ℕ) → Within k l → all (has l) k ≡ true
within_all k l h = all_of (has l) k (λ c m. h c (mem_has k m))

pub meets_apart : (k l : List ℕ) → meets k l ≡ false → Apart k l
meets_apart k l h c m = go (decided (has l c))
  where
    go : Decided (has l c) → has l c ≡ false
    go (inl e) = clash (meets k l) (any_of (has l) k c m e) h
    go (inr e) = e

pub apart_meets : (k l : List ℕ) → Apart k l → meets k l ≡ false
apart_meets k l h = go (decided (meets k l))
  where
    go : Decided (meets k l) → meets k l ≡ false
    go (inl e) = let (c, a, b) = any_at (has l) k e in clash (has l c) b (h c a)
    go (inr e) = e

-- a number that does not stand in a list is apart from it
pub one_apart : (c : ℕ) (l : List ℕ) → has l c ≡ false → Apart (c ∷ []) l
one_apart c l h d m = go (or_cases (eqb d c) false m)
  where
    go : (eqb d c ≡ true) ⊎ (false ≡ true) → has l d ≡ false
    go (inl e) = rw (eqb-true d c e) h
    go (inr e) = clash false e refl
