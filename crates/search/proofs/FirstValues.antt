-- The rows of a group's first values, as a loop over the values from one on has them: of none, of one value more, which the group's equations can take or not,
-- and of all, before those of the values that follow. Rests on the laws of ranges and of joined lists. Assumes nothing.
use mathlib.Core.Path.{◌≡◌, sym, ap, ◌∙◌}
use mathlib.Core.Bool.{Bool, true, false, cond}
use mathlib.Core.List.{List, [], ◌∷◌, ◌++◌, map, map-append, append-nil}
use Prim.Native.Nat.{ℕ, suc, ◌+◌, ◌-◌, ◌≤◌}
use native.Mathlib.Omega.{arith}
use lib.ListN.{get_or}
use Rattle.lists.specs.Lists.{range, joined}
use Rattle.lists.proofs.Members.{range_last}
use Rattle.lists.proofs.PlacesAndRanges.{range_append}
use Rattle.lists.proofs.Joined.{joined_push, joined_append}
use Rattle.blocks.specs.BlockSets.{slot_cells}
use Rattle.search.specs.Trees.{lowered, possible, tree}
use Rattle.search.specs.Searching.{unset, tree_at, tree_from}
use Rattle.search.proofs.OrderedGroups.{Group}
use Rattle.search.proofs.Branches.{branch}

module _ {order : List ℕ} {groups equations : ℕ} {sizes columns : List ℕ} {at g : ℕ} (here : Group order groups equations sizes columns at g) (needs rooms : List ℕ) where
  abbrev one : ℕ → List (List ℕ)
  one = branch (λ (x : ℕ). get_or sizes x 0) (slot_cells columns) (tree (λ (x : ℕ). get_or sizes x 0) (slot_cells columns) (unset order groups (at + 1))) (get_or order at 0) needs rooms

  module _ (low : ℕ) where
    pub values_none : tree_from order groups sizes columns at low (low - low) needs rooms ≡ []
    unfolding tree_from
    values_none = let none : low - low ≡ 0 = omega arith in ap (λ (k : ℕ). joined (map one (range low k))) none

    rest : (k n : ℕ) → tree_from order groups sizes columns at low (k + n) needs rooms
        ≡ tree_from order groups sizes columns at low k needs rooms ++ tree_from order groups sizes columns at (low + k) n needs rooms
    unfolding tree_from
    rest k n =
        ap (λ (l : List ℕ). joined (map one l)) (range_append low k n) ∙ ap joined (map-append one (range low k) (range (low + k) n))
        ∙ joined_append (map one (range low k)) (map one (range (low + k) n))

    -- the values before v, and those from v on
    pub values_rest : (v high : ℕ) → low ≤ v → v ≤ high → tree_from order groups sizes columns at low (high - low) needs rooms
        ≡ tree_from order groups sizes columns at low (v - low) needs rooms ++ tree_from order groups sizes columns at v (high - v) needs rooms
    values_rest v high l h =
        let both : high - low ≡ (v - low) + (high - v) = omega arith in
        let place : low + (v - low) ≡ v = omega arith in
        let parts = rest (v - low) (high - v) in
        rw both (rw place at parts)

    module _ (v : ℕ) (from : low ≤ v) (es : List ℕ) (column : es ≡ slot_cells columns g) where
      last : (k : ℕ) → low + k ≡ v → (t : Bool) → possible (get_or sizes g 0) es needs rooms v ≡ t
          → tree_from order groups sizes columns at low (suc k) needs rooms
          ≡ tree_from order groups sizes columns at low k needs rooms
          ++ cond t (map (λ (row : List ℕ). v ∷ row) (tree_at order groups sizes columns (at + 1) (lowered v es needs) (lowered (get_or sizes g 0) es rooms))) []
      unfolding tree_at tree_from
      last k place t e =
          let group : get_or order at 0 ≡ g = sym here.is in
          ap (λ (l : List ℕ). joined (map one l)) (range_last low k ∙ rw place) ∙ joined_push one (range low k) v
          ∙ ap (λ (l : List (List ℕ)). joined (map one (range low k)) ++ l) (rw (group, ← column, e))

      more : (t : Bool) → possible (get_or sizes g 0) es needs rooms v ≡ t
          → tree_from order groups sizes columns at low (v + 1 - low) needs rooms
          ≡ tree_from order groups sizes columns at low (v - low) needs rooms
          ++ cond t (map (λ (row : List ℕ). v ∷ row) (tree_at order groups sizes columns (at + 1) (lowered v es needs) (lowered (get_or sizes g 0) es rooms))) []
      more t e = let one_more : v + 1 - low ≡ suc (v - low) = omega arith in rw one_more (last (v - low) (omega arith) t e)

      pub values_impossible : possible (get_or sizes g 0) es needs rooms v ≡ false
          → tree_from order groups sizes columns at low (v + 1 - low) needs rooms ≡ tree_from order groups sizes columns at low (v - low) needs rooms
      values_impossible e = more false e ∙ append-nil (tree_from order groups sizes columns at low (v - low) needs rooms)

      pub values_possible : possible (get_or sizes g 0) es needs rooms v ≡ true
          → tree_from order groups sizes columns at low (v + 1 - low) needs rooms
          ≡ tree_from order groups sizes columns at low (v - low) needs rooms
          ++ map (λ (row : List ℕ). v ∷ row) (tree_at order groups sizes columns (at + 1) (lowered v es needs) (lowered (get_or sizes g 0) es rooms))
      values_possible e = more true e
