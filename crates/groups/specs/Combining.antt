-- Cited by no public contract. What the functions of combine tell each other: the columns of cells in an array of slots, and the groups of some cells in three
-- arrays. Assumes nothing.
use Rattle.std.specs.Prelude.{◌≡◌, Bool, cond, List, [], ◌∷◌, ◌++◌, map, ℕ, ◌+◌, ◌<◌, length}
use Rattle.lists.specs.Lists.{range, keep, has, same, first_place, pad}
use Rattle.blocks.specs.BlockSets.{slot_cells}
use Rattle.groups.specs.Groups.{add_firsts}

-- ---- columns

-- each cell of the board has in its eight slots the column that f gives it
pub record ColumnsAre (columns : List ℕ) (f : ℕ → List ℕ) : Type 0 where
  pub whole : length columns ≡ 8192
  pub at : (c : ℕ) → c < 1024 → slot_cells columns c ≡ f c

-- a cell's column in the first k of the equations that begin at a place
abbrev pub column_in : List ℕ → ℕ → ℕ → ℕ → List ℕ
column_in slots first k c = keep (λ (i : ℕ). has (slot_cells slots (first + i)) c) (range 0 k)

-- a cell's column with one equation more, given the cells of that equation and its place
abbrev pub column_with : List ℕ → List ℕ → ℕ → ℕ → List ℕ
column_with columns cells place c = cond (has cells c) (slot_cells columns c ++ (place ∷ [])) (slot_cells columns c)

-- two cells have equal columns
abbrev pub alike_by : List ℕ → ℕ → ℕ → Bool
alike_by columns c d = same (slot_cells columns c) (slot_cells columns d)

-- ---- groups

-- the groups of some cells: how many there are; by group its first cell and how many cells it has; by cell of the board its group
pub record GroupsAre (like : ℕ → ℕ → Bool) (cells : List ℕ) (groups : ℕ) (firsts sizes group_of : List ℕ) : Type 0 where
  pub counted : groups ≡ length (add_firsts like [] cells)
  pub first_cells : firsts ≡ pad 1024 0 (add_firsts like [] cells)
  pub cells_each : sizes ≡ pad 1024 0 (map (λ (c : ℕ). length (keep (like c) cells)) (add_firsts like [] cells))
  pub of_cell : group_of ≡ map (λ (c : ℕ). cond (has cells c) (first_place (like c) (add_firsts like [] cells)) 0) (range 0 1024)
