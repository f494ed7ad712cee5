-- Boards (SPECIFICATION 2.2, 2.5): a cell is 0 to 8, or 255 for a mine; a safe cell isn't 255. Assumes nothing.
use Rattle.std.specs.Prelude.{◌≡◌, ◌≢◌, Bool, List, map, ℕ, ◌≤◌, ◌<◌, eqb, length}
use Rattle.lists.specs.Lists.{count}
use Rattle.grid.specs.Cells.{cell_of, shows}
use Rattle.fitting.specs.Layouts.{mine_at}

-- the layout that the board itself has
abbrev pub own : List ℕ → List Bool
own b = map (λ (v : ℕ). eqb v 255) b

-- how many cells of the board are mines
abbrev pub mine_total : List ℕ → ℕ
mine_total b = count (λ (v : ℕ). eqb v 255) b

-- an accepted board: each safe cell holds 0 to 8, the number of its neighbouring mines
pub record Accepted (near : ℕ → List ℕ) (b : List ℕ) : Type 0 where
  pub small : (c : ℕ) → c < length b → cell_of b c ≢ 255 → cell_of b c ≤ 8
  pub true_number : (c : ℕ) → c < length b → cell_of b c ≢ 255 → count (mine_at (own b)) (near c) ≡ cell_of b c

-- the position shows every safe cell of the board open
abbrev pub AllOpen : List ℕ → List ℕ → Type 0
AllOpen b p = (c : ℕ) → c < length b → cell_of b c ≢ 255 → shows p c ≤ 8
