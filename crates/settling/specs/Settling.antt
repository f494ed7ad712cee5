-- Cited by no public contract. What the functions that settle groups are told and tell: which values the equations of a group leave it, and that with some
-- groups settled the search over the others gives all that the search over all groups gives. Assumes nothing.
use Rattle.std.specs.Prelude.{◌≡◌, true, List, ◌++◌, map, ℕ, ◌≤◌, ◌<◌, ltb, get_or}
use Rattle.lists.specs.Lists.{all, nodup}
use Rattle.blocks.specs.BlockSets.{slot_cells}
use Rattle.groups.specs.declared.Grouped.{Grouped}
use Rattle.search.specs.Trees.{possible, tree}

-- the equations of a list leave a group of so many cells the values from the least to the most, and no others
pub record Leaves (size : ℕ) (es needs rooms : List ℕ) (least most : ℕ) : Type 0 where
  pub within : most ≤ size
  pub only : (v : ℕ) → v ≤ size → possible size es needs rooms v ≡ true → (least ≤ v) × (v ≤ most)
  pub each : (v : ℕ) → least ≤ v → v ≤ most → possible size es needs rooms v ≡ true

-- a group has at most eight cells, and its column has places of equations, none twice
pub record Column (sizes columns : List ℕ) (g : ℕ) : Type 0 where
  pub small : get_or sizes g 0 ≤ 8
  pub below : all (λ e. ltb e 1024) (slot_cells columns g) ≡ true
  pub once : nodup (slot_cells columns g) ≡ true

-- so many groups, each of that kind
pub record Columns (grouped : Grouped) : Type 0 where
  pub few : grouped.groups ≤ 1024
  pub at : (g : ℕ) → g < grouped.groups → Column grouped.sizes grouped.columns g

-- some groups are settled, each at its value: whatever groups follow them, the rows of the tree from the start are the rows of the others from the state as
-- it is, each behind the settled values; and no equation needs more than at the start
pub record Settles (sizes columns start_needs start_rooms settled values needs rooms : List ℕ) : Type 0 where
  pub rows : (others : List ℕ) → tree (λ (g : ℕ). get_or sizes g 0) (slot_cells columns) (settled ++ others) start_needs start_rooms
      ≡ map (λ (row : List ℕ). map (λ (g : ℕ). get_or values g 0) settled ++ row) (tree (λ (g : ℕ). get_or sizes g 0) (slot_cells columns) others needs rooms)
  pub less : (e : ℕ) → get_or needs e 0 ≤ get_or start_needs e 0
