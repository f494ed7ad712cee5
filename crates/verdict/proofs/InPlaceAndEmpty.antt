-- Two things about lists. A loop that puts g of each element in the element's place, from the first to the last: what is left to do from place i on (`from_on`)
-- makes of the present list what it made of the list at the start. And which lists are empty: those of length 0, the first 0 of any list, and any list with
-- the same numbers as an empty one. Assumes nothing.
use mathlib.Core.Path.{◌≡◌, refl, sym, ap, ◌∙◌}
use mathlib.Core.Bool.{false}
use mathlib.Core.List.{List, [], ◌∷◌, ◌++◌, map, append-nil}
use Prim.Native.Nat.{ℕ, zero, suc, ◌+◌, ◌≤◌, ◌<◌}
use native.Mathlib.Nat.{not-suc-le-zero, le_of_suc-le-suc}
use native.Mathlib.Numerals.{add-one}
use native.Mathlib.Omega.{arith}
use lib.Dec.{eqb}
use lib.ListN.{length, get_or, take, drop, set}
use lib.Seq.{set-get_or, take_all, length-take-le}
use borrow.Author.Tests.{ne_eqb}
use Rattle.lists.specs.Lists.{has, empty}
use Rattle.lists.proofs.Tests.{clash}
use Rattle.lists.proofs.Arrays.{drop_none}
use Rattle.lists.proofs.Members.{has_head}

-- ---- in place

-- g of each element from place i on
unfoldable pub from_on : (ℕ → ℕ) → ℕ → List ℕ → List ℕ
from_on g i l = take i l ++ map g (drop i l)

module _ (g : ℕ → ℕ) where
  from_next : (l : List ℕ) (i : ℕ) → i < length l → from_on g (suc i) (set l i (g (get_or l i 0))) ≡ from_on g i l
  unfolding from_on
  from_next [] i h = absurd (not-suc-le-zero h)
  from_next (x ∷ l) zero h = refl
  from_next (x ∷ l) (suc i) h = ap (λ (k : List ℕ). x ∷ k) (from_next l i (le_of_suc-le-suc h))

  -- nothing is done yet
  pub from_first : (l : List ℕ) → from_on g 0 l ≡ map g l
  unfolding from_on
  from_first l = refl

  module _ (l : List ℕ) (i : ℕ) (h : i < length l) where
    -- g of the element at place i is stored there
    pub from_stored : (v : ℕ) → v ≡ g (get_or l i 0) → from_on g (i + 1) (set l i v) ≡ from_on g i l
    from_stored v e = rw (e, add-one) (from_next l i h)

    -- it stays, since g makes nothing else of it
    pub from_kept : g (get_or l i 0) ≡ get_or l i 0 → from_on g (i + 1) l ≡ from_on g i l
    from_kept e = rw (set-get_or l i 0) at (from_stored (get_or l i 0) (sym e))

  -- all is done
  pub from_last : (l : List ℕ) (i : ℕ) → length l ≤ i → from_on g i l ≡ l
  unfolding from_on
  from_last l i h = rw (drop_none l i h, take_all i l h) (append-nil l)

-- ---- empty

-- a list is empty exactly where its length is 0
pub empty_length : (l : List ℕ) → empty l ≡ eqb (length l) 0
empty_length [] = refl
empty_length (x ∷ l) = sym (ne_eqb (length (x ∷ l)) 0 (omega arith))

-- and so are the first n of a list where n is 0
pub empty_taken : (l : List ℕ) (n : ℕ) → n ≤ length l → empty (take n l) ≡ eqb n 0
empty_taken l n few = empty_length (take n l) ∙ ap (λ (k : ℕ). eqb k 0) (length-take-le n l few)

-- two lists have the same numbers
abbrev pub SameNumbers : List ℕ → List ℕ → Type 0
SameNumbers k l = (c : ℕ) → has k c ≡ has l c

-- then the one is empty exactly where the other is
pub same_empty : (k l : List ℕ) → SameNumbers k l → empty k ≡ empty l
same_empty [] [] h = refl
same_empty [] (x ∷ l) h = clash false (h x ∙ has_head x l) refl
same_empty (x ∷ k) [] h = clash false (sym (h x) ∙ has_head x k) refl
same_empty (x ∷ k) (y ∷ l) h = refl
