-- Cited by no public contract. What the code's floods leave: the position with the zeros before a cell flooded, and the safe cells that are closed in a position.
-- Assumes nothing.
use Rattle.std.specs.Prelude.{Bool, not, ◌&&◌, List, ℕ, eqb, length}
use Rattle.lists.specs.Lists.{range, keep, count}
use Rattle.grid.specs.Cells.{cell_of, shows}
use Rattle.fitting.specs.Passes.{open_cells}
use Rattle.bbbv.specs.Openings.{is_zero, all_closed}

-- every cell closed, and then the zeros among the first c cells opened with what they open
unfoldable pub flooded : (ℕ → List ℕ) → List ℕ → ℕ → List ℕ
flooded near b c = open_cells near b (all_closed b) (keep (is_zero b) (range 0 c))

-- a safe cell that is closed in the position p
abbrev pub is_closed_safe : List ℕ → List ℕ → ℕ → Bool
is_closed_safe b p c = not (eqb (cell_of b c) 255) && eqb (shows p c) 10

unfoldable pub closed_safe : List ℕ → List ℕ → ℕ
closed_safe b p = count (is_closed_safe b p) (range 0 (length b))
