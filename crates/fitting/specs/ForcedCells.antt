-- The rule that finds each closed cell, on or off the frontier, that is the same in every layout that fits and passes a test, mines included. With the test for a
-- mine total it is the fourth rule of a pass (SPECIFICATION 9.7). Each list is in reading order. Assumes nothing.
use Rattle.std.specs.Prelude.{Bool, not, ◌&&◌, ◌||◌, List, ℕ, length}
use Rattle.lists.specs.Lists.{range, keep}
use Rattle.fitting.specs.Layouts.{mine_at, fits, every_layout, free_in_every}
use Rattle.fitting.specs.Equations.{is_closed}
use Rattle.fitting.specs.Passes.{GradedCells}

-- every layout that fits the position and passes the test `also` has a mine at the cell
unfoldable pub mined_in_every : (ℕ → List ℕ) → (List Bool → Bool) → List ℕ → ℕ → Bool
mined_in_every near also p c = every_layout (length p) (λ m. not (fits near p m && also m) || mine_at m c)

-- the rule, with the grade that it gives
unfoldable pub forced_cells : (ℕ → List ℕ) → (List Bool → Bool) → ℕ → List ℕ → GradedCells
forced_cells near also grade p = record {
  safe = keep (λ c. is_closed p c && free_in_every near also p c) (range 0 (length p));
  mines = keep (λ c. is_closed p c && mined_in_every near also p c) (range 0 (length p));
  grade = grade;
}
