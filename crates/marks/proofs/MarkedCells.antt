-- Cells marked one after another in an array of bytes. What is marked, with the cells still to be marked, is what was marked with all of them. Rests on the laws
-- of a mark set. Assumes nothing.
use mathlib.Core.Path.{◌≡◌, refl, sym, ap, ◌∙◌}
use mathlib.Core.Bool.{Bool, true, false, ◌||◌, or-false}
use mathlib.Core.List.{List, [], ◌∷◌}
use Prim.Native.Nat.{ℕ, ◌<◌}
use lib.Dec.{eqb}
use lib.ListN.{length, set}
use Rattle.lists.specs.Lists.{keep, has}
use Rattle.blocks.specs.Places.{marked}
use Rattle.blocks.proofs.MarkLaws.{marked_set}
use Rattle.lists.proofs.StoredAndKept.{keep_next, keep_pass}

-- ---- the cells of a list that pass a test

-- marked, or a cell of the list that passes
abbrev pub marked_with : (ℕ → Bool) → List ℕ → List ℕ → ℕ → Bool
marked_with f marks l d = marked marks d || has (keep f l) d

module _ (f : ℕ → Bool) (marks : List ℕ) {r l : List ℕ} (c : ℕ) (more : l ≡ c ∷ r) where
  -- the next cell passes, and is marked
  pub with_marked : c < length marks → f c ≡ true → (d : ℕ) → marked_with f (set marks c 1) r d ≡ marked_with f marks l d
  with_marked u t d =
      ap (λ (b : Bool). b || has (keep f r) d) (marked_set marks c d u)
      ∙ order (eqb d c) (marked marks d) (has (keep f r) d)
      ∙ ap (λ (k : List ℕ). marked marks d || has k d) (sym (keep_next f c more t))
    where
      order : (a b e : Bool) → ((a || b) || e) ≡ (b || (a || e))
      order true true e = refl
      order true false e = refl
      order false true e = refl
      order false false e = refl

  -- it does not
  pub with_passed : f c ≡ false → (d : ℕ) → marked_with f marks r d ≡ marked_with f marks l d
  with_passed t d =
      ap (λ (k : List ℕ). marked marks d || has k d) (sym (keep_pass f c more t))

pub with_end : (f : ℕ → Bool) (marks : List ℕ) {l : List ℕ} → l ≡ [] → (d : ℕ) → marked_with f marks l d ≡ marked marks d
with_end f marks e d = ap (λ (k : List ℕ). marked marks d || has (keep f k) d) e ∙ or-false (marked marks d)
