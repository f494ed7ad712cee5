-- The turns of the loop that compares two columns slot by slot: what comes before the filler in the slots from k on is equal where the columns are. Slots that
-- differ decide, for only one of them can be the filler; and so does the filler, where both columns end. Rests on the laws of an array read. Assumes nothing.
use mathlib.Core.Path.{◌≡◌, sym, ◌∙◌}
use mathlib.Core.Logic.{◌≢◌, inl, inr}
use mathlib.Core.Bool.{true, false}
use mathlib.Core.List.{List, ◌∷◌}
use Prim.Native.Nat.{ℕ, ◌+◌, ◌-◌, ◌*◌, ◌≤◌, ◌<◌}
use native.Mathlib.Omega.{arith}
use lib.Dec.{eqb}
use borrow.Rule.Slice.PartMut.{mid_of}
use lib.ListN.{length, get_or, drop}
use borrow.Author.Tests.{eqb-true, eq-eqb, ne_eqb}
use Rattle.lists.specs.Lists.{same}
use Rattle.lists.proofs.Tests.{Decided, decided}
use Rattle.lists.proofs.Arrays.{drop_next, drop_none}
use Rattle.blocks.specs.BlockSets.{before, slot_cells}
use Rattle.blocks.proofs.Turns.{length_part}
use Rattle.groups.specs.Combining.{alike_by}

-- lists that differ in their first number differ before the filler
before_differs : (f x y : ℕ) (l r : List ℕ) → x ≢ y → same (before f (x ∷ l)) (before f (y ∷ r)) ≡ false
before_differs f x y l r h = go (decided (eqb x f)) (decided (eqb y f))
  where
    go : Decided (eqb x f) → Decided (eqb y f) → same (before f (x ∷ l)) (before f (y ∷ r)) ≡ false
    go (inl u) (inl v) = absurd (h (eqb-true x f u ∙ sym (eqb-true y f v)))
    go (inl u) (inr v) = rw (u, v)
    go (inr u) (inl v) = rw (u, v)
    go (inr u) (inr v) = rw (u, v, ne_eqb x y h)

-- up to the filler, two lists are equal from place k on where they are from the first
abbrev pub SameFrom : List ℕ → List ℕ → ℕ → Type 0
SameFrom left right k = same (before 65535 (drop k left)) (before 65535 (drop k right)) ≡ same (before 65535 left) (before 65535 right)

module _ (left right : List ℕ) (k : ℕ) (so_far : SameFrom left right k) where
  pub same_from_last : length left ≤ k → length right ≤ k → true ≡ same (before 65535 left) (before 65535 right)
  same_from_last h u = rw (drop_none left k h, drop_none right k u) at so_far

  -- the slots at place k
  module _ (x y : ℕ) (u : k < length left) (v : k < length right) (one : x ≡ get_or left k x) (two : y ≡ get_or right k y) where
    more : same (before 65535 (x ∷ drop (k + 1) left)) (before 65535 (y ∷ drop (k + 1) right)) ≡ same (before 65535 left) (before 65535 right)
    more = rw (drop_next left k x x u one, drop_next right k y y v two) at so_far

    pub same_from_differs : x ≢ y → false ≡ same (before 65535 left) (before 65535 right)
    same_from_differs h = sym (before_differs 65535 x y (drop (k + 1) left) (drop (k + 1) right) h) ∙ more

    module _ (equal : x ≡ y) where
      pub same_from_filler : x ≡ 65535 → true ≡ same (before 65535 left) (before 65535 right)
      same_from_filler h = rw (eq-eqb x 65535 h, eq-eqb y 65535 (sym equal ∙ h)) at more

      pub same_from_next : x ≢ 65535 → SameFrom left right (k + 1)
      same_from_next h = rw (ne_eqb x 65535 h, ne_eqb y 65535 (λ w. h (equal ∙ w)), eq-eqb x y equal) at more

-- ---- the columns of two cells, as the code lends them

abbrev pub lent : List ℕ → ℕ → List ℕ
lent columns c = mid_of (c * 8) (c * 8 + 8 - c * 8) columns

pub length_lent : (columns : List ℕ) (c : ℕ) → length columns ≡ 8192 → c < 1024 → length (lent columns c) ≡ 8
length_lent columns c whole h = length_part columns c whole h

pub lent_alike : (columns : List ℕ) (a b : ℕ) → same (before 65535 (lent columns a)) (before 65535 (lent columns b)) ≡ alike_by columns a b
unfolding slot_cells
lent_alike columns a b =
    let one : a * 8 + 8 - a * 8 ≡ 8 = omega arith in
    let two : b * 8 + 8 - b * 8 ≡ 8 = omega arith in
    rw (one, two)
