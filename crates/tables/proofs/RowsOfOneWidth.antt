-- Rows of one width, stored one after another at the front of a table: each is read back from its place, and behind the last stands what stood there. And
-- rows of which none is counted twice differ at different places. Rests on the laws of joined lists and of what is read back. Assumes nothing.
use mathlib.Core.Path.{◌≡◌, refl, sym, ap, ◌∙◌}
use mathlib.Core.Bool.{true, false}
use mathlib.Core.List.{List, [], ◌∷◌, map, map-id}
use Prim.Native.Nat.{ℕ, zero, suc, ◌+◌, ◌*◌, ◌≤◌, ◌<◌}
use native.Mathlib.Nat.{suc-mul, mul-le-mul_right}
use native.Mathlib.Omega.{arith}
use lib.Dec.{eqb}
use lib.ListN.{length, get_or, drop}
use lib.Seq.{sets, sets-eq}
use Rattle.lists.specs.Lists.{count, all, same, joined}
use Rattle.lists.proofs.Tests.{clash}
use Rattle.lists.proofs.Unions.{mem_at}
use Rattle.lists.proofs.CountsAlike.{counts_grow}
use Rattle.lists.proofs.Joined.{slice_append, length_joined, equal_slice}
use Rattle.lists.proofs.PartedLists.{same_self}
use Rattle.lists.proofs.ReadBack.{front_kept}
use Rattle.tables.specs.Tables.{row_at}

module _ (rows : List (List ℕ)) (g : ℕ) (wide : all (λ (row : List ℕ). eqb (length row) g) rows ≡ true) where
  each : joined (map (λ (row : List ℕ). row) rows) ≡ joined rows
  each = ap joined (map-id rows)

  pub rows_length : length (joined rows) ≡ length rows * g
  rows_length = ap length (sym each) ∙ length_joined (λ (row : List ℕ). row) g rows wide

  module _ (t : List ℕ) (room : length rows * g ≤ length t) where
    pub row_back : (i : ℕ) → i < length rows → row_at g (sets t 0 (joined rows)) i ≡ get_or rows i []
    row_back i h =
        let within : suc i * g ≤ length rows * g = mul-le-mul_right g h in
        ap (λ (l : List ℕ). row_at g l i) (sets-eq (joined rows) t 0 (omega (arith, rows_length)))
        ∙ slice_append (joined rows) (drop (0 + length (joined rows)) t) (i * g) g (omega (arith, rows_length, suc-mul i g))
        ∙ ap (λ (l : List ℕ). row_at g l i) (sym each)
        ∙ equal_slice (λ (row : List ℕ). row) g rows i [] wide h

    pub behind_kept : (i : ℕ) → length rows * g ≤ i → get_or (sets t 0 (joined rows)) i 0 ≡ get_or t i 0
    behind_kept i h = front_kept t (joined rows) (omega (arith, rows_length)) i 0 (omega (arith, rows_length))

-- ---- rows of which none is counted twice

-- the first doesn't stand among the others
first_alone : (row : List ℕ) (rows : List (List ℕ)) → count (same row) (row ∷ rows) ≤ 1 → (j : ℕ) → j < length rows → row ≡ get_or rows j [] → ⊥
first_alone row rows few j h e =
    omega (
      arith,
      rw (same_self row) at few,
      counts_grow (λ _. false) (same row) (λ x w. clash false w refl) rows (mem_at rows j [] h) refl (rw (← e) (same_self row)),
    )

pub places_differ : (rows : List (List ℕ)) → ((row : List ℕ) → count (same row) rows ≤ 1)
    → (i j : ℕ) → i < length rows → j < length rows → get_or rows i [] ≡ get_or rows j [] → i ≡ j
places_differ [] few i j a b e = absurd (omega arith)
places_differ (row ∷ rows) few zero zero a b e = refl
places_differ (row ∷ rows) few zero (suc j) a b e = absurd (first_alone row rows (few row) j (omega arith) e)
places_differ (row ∷ rows) few (suc i) zero a b e = absurd (first_alone row rows (few row) i (omega arith) (sym e))
places_differ (row ∷ rows) few (suc i) (suc j) a b e = ap suc (places_differ rows (λ x. omega (arith, few x)) i j (omega arith) (omega arith) e)
