-- The rows of a tree in which the first group is held at some values: each begins with one of them, and a row that begins with one of others is among theirs. So the
-- rows of the whole tree that begin with the values held are those of the tree held at them. Rests on the steps of the tree. Assumes nothing.
use mathlib.Core.Path.{◌≡◌, refl, sym, ap}
use mathlib.Core.Bool.{Bool, true, false, cond}
use mathlib.Core.List.{List, [], ◌∷◌, map, Memᴰ}
use Prim.Native.Nat.{ℕ, suc, ◌+◌, ◌-◌, ◌≤◌, ◌<◌}
use native.Mathlib.Omega.{arith}
use lib.ListN.{get_or}
use Rattle.lists.specs.Lists.{range}
use Rattle.lists.proofs.Members.{range_in, in_range}
use Rattle.lists.proofs.Unions.{joined_mem, mem_joined, mem_has, has_mem}
use Rattle.blocks.specs.BlockSets.{slot_cells}
use Rattle.search.specs.Trees.{lowered, possible, branches, tree}
use Rattle.search.specs.Searching.{unset, tree_at, tree_from}
use Rattle.search.proofs.OrderedGroups.{Group}
use Rattle.search.proofs.Branches.{tree_values}

-- a row begins with one of k values from v up, and is among the rows of any values that have its first
pub record Held (rows : ℕ → ℕ → List (List ℕ)) (row : List ℕ) (v k : ℕ) : Type 0 where
  pub low : v ≤ get_or row 0 0
  pub high : get_or row 0 0 < v + k
  pub among : (v' k' : ℕ) → v' ≤ get_or row 0 0 → get_or row 0 0 < v' + k' → Memᴰ row (rows v' k')

module _ (size : ℕ → ℕ) (column : ℕ → List ℕ) (sub : List ℕ → List ℕ → List (List ℕ)) (g : ℕ) (needs rooms : List ℕ) where
  abbrev branch : ℕ → List (List ℕ)
  branch x = cond (possible (size g) (column g) needs rooms x)
      (map (λ (row : List ℕ). x ∷ row) (sub (lowered x (column g) needs) (lowered (size g) (column g) rooms))) []

  -- a row of a value's branch begins with the value
  first_value : (x : ℕ) (row : List ℕ) → Memᴰ row (branch x) → get_or row 0 0 ≡ x
  first_value x row m = go (possible (size g) (column g) needs rooms x) (sub (lowered x (column g) needs) (lowered (size g) (column g) rooms)) m
    where
      go : (t : Bool) (rows : List (List ℕ)) → Memᴰ row (cond t (map (λ (r : List ℕ). x ∷ r) rows) []) → get_or row 0 0 ≡ x
      go true rows n = let (r, k, e) = mathlib.Core.List.Memᴰ.of_map (λ (r : List ℕ). x ∷ r) rows n in ap (λ (l : List ℕ). get_or l 0 0) (sym e)
      go false rows n = absurd (mathlib.Core.List.Memᴰ.not-nil n)

  held_branches : (v k : ℕ) (row : List ℕ) → Memᴰ row (branches size column sub g v k needs rooms) → Held (λ v' k'. branches size column sub g v' k' needs rooms) row v k
  held_branches v k row m =
      let (l, n, h) = joined_mem (map branch (range v k)) m in
      let (x, i, e) = mathlib.Core.List.Memᴰ.of_map branch (range v k) n in
      let here : Memᴰ row (branch x) = rw e h in
      let first : get_or row 0 0 ≡ x = first_value x row here in
      let inside = range_in v k x (mem_has (range v k) i) in
      record {
        low = omega (arith, inside, first);
        high = omega (arith, inside, first);
        among = λ v' k' a b.
            mem_joined here (mathlib.Core.List.Memᴰ.map branch (has_mem (range v' k') x (in_range v' k' x (omega (arith, a, first)) (omega (arith, b, first)))));
      }

-- ---- the group at a place of the order

module _ {order : List ℕ} {groups equations : ℕ} {sizes columns : List ℕ} {at g : ℕ} (h : Group order groups equations sizes columns at g) (needs rooms : List ℕ) where
  held_from : (v k : ℕ) (row : List ℕ) → Memᴰ row (tree_from order groups sizes columns at v k needs rooms)
      → Held (λ v' k'. tree_from order groups sizes columns at v' k' needs rooms) row v k
  unfolding tree_from
  held_from v k row m = held_branches (λ (x : ℕ). get_or sizes x 0) (slot_cells columns) (tree (λ (x : ℕ). get_or sizes x 0) (slot_cells columns) (unset order groups (at + 1))) (get_or order at 0) needs rooms v k row m

  whole : tree_at order groups sizes columns at needs rooms ≡ tree_from order groups sizes columns at 0 (suc (get_or sizes g 0)) needs rooms
  whole = let all_values : suc (get_or sizes g 0) - 0 ≡ suc (get_or sizes g 0) = omega arith in rw (← all_values) (tree_values h needs rooms (get_or sizes g 0) refl)

  -- a row of the tree held at some values of the group is one of the whole tree, and begins with one of them
  pub from_in_tree : (v k : ℕ) → v + k ≤ suc (get_or sizes g 0) → (row : List ℕ) → Memᴰ row (tree_from order groups sizes columns at v k needs rooms)
      → Memᴰ row (tree_at order groups sizes columns at needs rooms) × (v ≤ get_or row 0 0) × (get_or row 0 0 < v + k)
  from_in_tree v k within row m =
      let held = held_from v k row m in
      (rw whole (held.among 0 (suc (get_or sizes g 0)) (omega arith) (omega (arith, held.high))), held.low, held.high)

  -- and a row of the whole tree that begins with one of the values is one of those
  pub tree_in_from : (v k : ℕ) (row : List ℕ) → Memᴰ row (tree_at order groups sizes columns at needs rooms) → v ≤ get_or row 0 0 → get_or row 0 0 < v + k
      → Memᴰ row (tree_from order groups sizes columns at v k needs rooms)
  tree_in_from v k row m low high = (held_from 0 (suc (get_or sizes g 0)) row (rw whole at m)).among v k low high
