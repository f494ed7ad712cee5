-- The tree of the search, step by step, as the code takes them: no group left, and the values of the first unset group from 0 on. Every row has a value for each
-- unset group. Assumes nothing.
use mathlib.Core.Path.{◌≡◌, ap, ◌∙◌}
use mathlib.Core.Bool.{Bool, true, false, cond}
use mathlib.Core.List.Memᴰ
use mathlib.Core.List.{List, [], ◌∷◌, map}
use Prim.Native.Nat.{ℕ, suc, ◌+◌, ◌-◌}
use native.Mathlib.Omega.{arith}
use lib.Dec.{eqb}
use lib.ListN.{length, get_or}
use Rattle.lists.specs.Lists.{range, all}
use Rattle.blocks.specs.BlockSets.{slot_cells}
use Rattle.lists.proofs.PassingElements.{Each, each_mapped, each_joined}
use Rattle.search.specs.Trees.{lowered, possible, branches, tree}
use Rattle.search.specs.Searching.{unset, tree_at, tree_from}
use Rattle.search.proofs.OrderedGroups.{Group, unset_none, unset_more}

-- ---- any sizes and columns

module _ (size : ℕ → ℕ) (column : ℕ → List ℕ) where
  module _ (sub : List ℕ → List ℕ → List (List ℕ)) (g : ℕ) (needs rooms : List ℕ) where
    -- what follows for one value
    abbrev pub branch : ℕ → List (List ℕ)
    branch x = cond (possible (size g) (column g) needs rooms x)
        (map (λ (row : List ℕ). x ∷ row) (sub (lowered x (column g) needs) (lowered (size g) (column g) rooms))) []

  -- rows of one length, and a value before each
  branches_wide : (sub : List ℕ → List ℕ → List (List ℕ)) (w : ℕ) → ((n r : List ℕ) → Each (λ row. length row ≡ w) (sub n r))
      → (g v k : ℕ) (needs rooms : List ℕ) → Each (λ row. length row ≡ suc w) (branches size column sub g v k needs rooms)
  branches_wide sub w h g v k needs rooms =
      each_joined (λ row. length row ≡ suc w) (branch sub g needs rooms) (range v k) (λ x m. go x (possible (size g) (column g) needs rooms x))
    where
      go : (x : ℕ) (t : Bool)
          → Each (λ row. length row ≡ suc w) (cond t (map (λ (row : List ℕ). x ∷ row) (sub (lowered x (column g) needs) (lowered (size g) (column g) rooms))) [])
      go x true =
          each_mapped (λ row. length row ≡ suc w) (λ (row : List ℕ). x ∷ row) (sub (lowered x (column g) needs) (lowered (size g) (column g) rooms))
          (λ row m. ap suc (h (lowered x (column g) needs) (lowered (size g) (column g) rooms) row m))
      go x false = λ row m. absurd (Memᴰ.not-nil m)

  tree_wide : (gs needs rooms : List ℕ) → Each (λ row. length row ≡ length gs) (tree size column gs needs rooms)
  tree_wide [] needs rooms = go (all (λ n. eqb n 0) needs)
    where
      go : (t : Bool) → Each (λ (row : List ℕ). length row ≡ 0) (cond t ([] ∷ []) [])
      go true = λ row m. ap (λ (l : List ℕ). length l) (Memᴰ.eq_of_singleton m)
      go false = λ row m. absurd (Memᴰ.not-nil m)
  tree_wide (g ∷ gs) needs rooms = branches_wide (tree size column gs) (length gs) (tree_wide gs) g 0 (suc (size g)) needs rooms

-- ---- no group is left

pub tree_leaf : (order : List ℕ) (groups : ℕ) (sizes columns : List ℕ) (at : ℕ) (needs rooms : List ℕ) → at ≡ groups → (t : Bool) → all (λ n. eqb n 0) needs ≡ t
    → tree_at order groups sizes columns at needs rooms ≡ cond t ([] ∷ []) []
unfolding tree_at
tree_leaf order groups sizes columns at needs rooms e t met =
    ap (λ (gs : List ℕ). tree (λ (g : ℕ). get_or sizes g 0) (slot_cells columns) gs needs rooms) (unset_none order groups at e)
    ∙ ap (λ (b : Bool). cond b ([] ∷ []) []) met

-- each solution has a value for each unset group
pub tree_at_wide : (order : List ℕ) (groups : ℕ) (sizes columns : List ℕ) (at : ℕ) (needs rooms : List ℕ) → Each (λ row. length row ≡ length (unset order groups at)) (tree_at order groups sizes columns at needs rooms)
unfolding tree_at
tree_at_wide order groups sizes columns at needs rooms = tree_wide (λ (g : ℕ). get_or sizes g 0) (slot_cells columns) (unset order groups at) needs rooms

-- ---- the values of a group

module _ {order : List ℕ} {groups equations : ℕ} {sizes columns : List ℕ} {at g : ℕ} (h : Group order groups equations sizes columns at g) (needs rooms : List ℕ) where
  pub tree_values : (to : ℕ) → to ≡ get_or sizes g 0 → tree_at order groups sizes columns at needs rooms ≡ tree_from order groups sizes columns at 0 (suc to - 0) needs rooms
  unfolding tree_at tree_from
  tree_values to e =
      let all_values : suc (get_or sizes g 0) ≡ suc to - 0 = omega arith in
      ap (λ (gs : List ℕ). tree (λ (x : ℕ). get_or sizes x 0) (slot_cells columns) gs needs rooms) (unset_more h)
      ∙ ap (λ (x : ℕ). branches (λ (y : ℕ). get_or sizes y 0) (slot_cells columns) (tree (λ (y : ℕ). get_or sizes y 0) (slot_cells columns) (unset order groups (at + 1))) x 0 (suc (get_or sizes g 0)) needs rooms) h.is
      ∙ ap (λ (n : ℕ). branches (λ (y : ℕ). get_or sizes y 0) (slot_cells columns) (tree (λ (y : ℕ). get_or sizes y 0) (slot_cells columns) (unset order groups (at + 1))) (get_or order at 0) 0 n needs rooms) all_values
