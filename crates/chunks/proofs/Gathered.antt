-- A part gathered by its marks from the last place to the first: its cells; the places of its equations, where each before which the loop stands is kept or
-- passed; and the cells of one equation. Rests on the laws of ranges from their end. Assumes nothing.
use mathlib.Core.Path.{◌≡◌, refl, ap, ◌∙◌}
use mathlib.Core.Bool.{true, false}
use mathlib.Core.List.{List, [], ◌∷◌, ◌++◌, reverse}
use Prim.Native.Nat.{ℕ, ◌-◌, ◌≤◌, ◌<◌}
use lib.ListN.{length, drop, replicate, length-reverse}
use lib.Seq.{drop_at}
use Rattle.lists.specs.Lists.{range, keep, any}
use Rattle.lists.proofs.Members.{range_none}
use Rattle.lists.proofs.Backwards.{range_back, back_kept, back_passed}
use Rattle.grid.specs.Window.{listed}
use Rattle.grid.specs.declared.window.UpToEight.{UpToEight}
use Rattle.blocks.specs.BlockSets.{slot_cells}
use Rattle.blocks.specs.Places.{marked, cells_from}
use Rattle.chunks.specs.Splitting.{marked_cells, marked_places}

-- ---- cells, from the last

pub marked_from : (marks cells items : List ℕ) (first end : ℕ) → items ≡ cells_from cells first end → reverse (keep (marked marks) items) ≡ marked_cells marks cells first end
unfolding marked_cells
marked_from marks cells items first end e = ap (λ (l : List ℕ). reverse (keep (marked marks) l)) e

-- ---- equations, from the last

module _ (marks slots : List ℕ) (first e : ℕ) where
  pub place_kept : first < e → any (marked marks) (slot_cells slots (e - 1)) ≡ true → marked_places marks slots first e ≡ (e - 1) ∷ marked_places marks slots first (e - 1)
  unfolding marked_places
  place_kept h m =
      ap (λ (l : List ℕ). reverse (keep (λ (x : ℕ). any (marked marks) (slot_cells slots x)) l)) (range_back first e h)
      ∙ back_kept (λ (x : ℕ). any (marked marks) (slot_cells slots x)) (range first (e - 1 - first)) (e - 1) m

  pub place_passed : first < e → any (marked marks) (slot_cells slots (e - 1)) ≡ false → marked_places marks slots first e ≡ marked_places marks slots first (e - 1)
  unfolding marked_places
  place_passed h m =
      ap (λ (l : List ℕ). reverse (keep (λ (x : ℕ). any (marked marks) (slot_cells slots x)) l)) (range_back first e h)
      ∙ back_passed (λ (x : ℕ). any (marked marks) (slot_cells slots x)) (range first (e - 1 - first)) (e - 1) m

  pub place_none : e ≤ first → marked_places marks slots first e ≡ []
  unfolding marked_places
  place_none h = ap (λ (l : List ℕ). reverse (keep (λ (x : ℕ). any (marked marks) (slot_cells slots x)) l)) (range_none first e h)

-- ---- a list turned round

pub turned_listed : (list : UpToEight) (l back : List ℕ) → list ≡ listed l → back ≡ reverse l → record { cells = back ++ drop list.len list.cells; len = list.len } ≡ listed (reverse l)
turned_listed list l back is e = rw (is, e, drop_at l (replicate (8 - length l) 0) (length l) refl, length-reverse l)
