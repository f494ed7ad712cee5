-- Cited by no public contract. What the functions of the search are told: the groups of an order, their sizes and columns, and the state of the equations, in
-- arrays. Assumes nothing.
use Rattle.std.specs.Prelude.{◌≡◌, true, false, List, [], ◌∷◌, ℕ, suc, ◌+◌, ◌-◌, ◌≤◌, ◌<◌, ltb, length, get_or, set, take, drop}
use Rattle.lists.specs.Lists.{all, has, nodup}
use Rattle.blocks.specs.BlockSets.{slot_cells}
use Rattle.groups.specs.declared.Grouped.{Grouped}
use Rattle.search.specs.Trees.{branches, tree}
use Rattle.search.specs.declared.Unmet.{Unmet}

-- the first groups of the order are the groups, none twice; a group has at most eight cells, and its column has places of equations, none twice
pub record Ordered (order : List ℕ) (groups equations : ℕ) (sizes columns : List ℕ) : Type 0 where
  pub whole_order : length order ≡ 1024
  pub whole_columns : length columns ≡ 8192
  pub few : groups ≤ 1024
  pub few_equations : equations ≤ 1024
  pub below : all (λ g. ltb g groups) (take groups order) ≡ true
  pub once : nodup (take groups order) ≡ true
  pub small : (g : ℕ) → g < groups → get_or sizes g 0 ≤ 8
  pub column_below : (g : ℕ) → g < groups → all (λ e. ltb e equations) (slot_cells columns g) ≡ true
  pub column_once : (g : ℕ) → g < groups → nodup (slot_cells columns g) ≡ true

-- what each equation needs and how many cells its unset groups have: at most eight, and nothing past the equations
pub record State (equations : ℕ) (needs rooms : List ℕ) : Type 0 where
  pub whole_needs : length needs ≡ 1024
  pub whole_rooms : length rooms ≡ 1024
  pub needs_small : (e : ℕ) → get_or needs e 0 ≤ 8
  pub rooms_small : (e : ℕ) → get_or rooms e 0 ≤ 8
  pub past : (e : ℕ) → equations ≤ e → get_or needs e 0 ≡ 0

-- the numbers at some places, each raised
abbrev pub raised : ℕ → List ℕ → List ℕ → List ℕ
raised v [] l = l
raised v (e ∷ es) l = raised v es (set l e (get_or l e 0 + v))

-- the groups still unset
abbrev pub unset : List ℕ → ℕ → ℕ → List ℕ
unset order groups at = drop at (take groups order)

-- the solutions for the groups still unset
unfoldable pub tree_at : List ℕ → ℕ → List ℕ → List ℕ → ℕ → List ℕ → List ℕ → List (List ℕ)
tree_at order groups sizes columns at needs rooms = tree (λ (g : ℕ). get_or sizes g 0) (slot_cells columns) (unset order groups at) needs rooms

-- those in which the first of them has one of k values from v up
unfoldable pub tree_from : List ℕ → ℕ → List ℕ → List ℕ → ℕ → ℕ → ℕ → List ℕ → List ℕ → List (List ℕ)
tree_from order groups sizes columns at v k needs rooms =
    branches (λ (g : ℕ). get_or sizes g 0) (slot_cells columns) (tree (λ (g : ℕ). get_or sizes g 0) (slot_cells columns) (unset order groups (at + 1)))
    (get_or order at 0) v k needs rooms

-- the values by group, with those of some groups set
abbrev pub placed : List ℕ → List ℕ → List ℕ → List ℕ
placed values [] row = values
placed values (g ∷ gs) [] = values
placed values (g ∷ gs) (v ∷ row) = placed (set values g v) gs row

-- the values of no other group are changed
pub record Kept (gs before after : List ℕ) : Type 0 where
  pub whole : length after ≡ length before
  pub others : (g : ℕ) → has gs g ≡ false → get_or after g 0 ≡ get_or before g 0

-- ---- the same of the structs that the functions are given

-- an order of the groups of a block
abbrev pub OrderOf : Grouped → List ℕ → Type 0
OrderOf g order = Ordered order g.groups g.equations g.sizes g.columns

-- what its equations need, and how many cells their unset groups have
abbrev pub StateOf : Grouped → Unmet → Type 0
StateOf g u = State g.equations u.needs u.rooms

-- the groups unset from a place of the order on
abbrev pub unset_of : Grouped → List ℕ → ℕ → List ℕ
unset_of g order at = unset order g.groups at

-- the solutions for them
abbrev pub tree_of : Grouped → List ℕ → ℕ → Unmet → List (List ℕ)
tree_of g order at u = tree_at order g.groups g.sizes g.columns at u.needs u.rooms

-- those in which the first of them has from `low` to `high` mines
abbrev pub tree_of_values : Grouped → List ℕ → ℕ → ℕ → ℕ → Unmet → List (List ℕ)
tree_of_values g order at low high u = tree_from order g.groups g.sizes g.columns at low (suc high - low) u.needs u.rooms
