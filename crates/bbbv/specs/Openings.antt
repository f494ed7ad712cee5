-- 3BV (SPECIFICATION 16): the number of openings plus the number of safe cells above 0 that touch no 0. An opening is a connected group of zeros: a flood from one
-- of them opens them all. It is counted at its first zero in reading order. `near` gives the neighbours of a cell, b is the board. Assumes nothing.
use Rattle.std.specs.Prelude.{Bool, not, ◌&&◌, List, [], ◌∷◌, ℕ, ◌+◌, leb, ltb, eqb, length, replicate}
use Rattle.lists.specs.Lists.{range, count, any}
use Rattle.grid.specs.Cells.{cell_of, shows}
use Rattle.fitting.specs.Passes.{open_cells}

abbrev pub is_zero : List ℕ → ℕ → Bool
is_zero b c = eqb (cell_of b c) 0

-- the position in which every cell is closed
abbrev pub all_closed : List ℕ → List ℕ
all_closed b = replicate (length b) 10

-- where every cell is closed, a flood from the cell d opens the cell c
unfoldable pub opens : (ℕ → List ℕ) → List ℕ → ℕ → ℕ → Bool
opens near b d c = leb (shows (open_cells near b (all_closed b) (d ∷ [])) c) 8

-- the first zero of its opening: it is opened by no zero before it
unfoldable pub is_first : (ℕ → List ℕ) → List ℕ → ℕ → Bool
is_first near b c = is_zero b c && not (any (λ d. is_zero b d && opens near b d c) (range 0 c))

unfoldable pub openings : (ℕ → List ℕ) → List ℕ → ℕ
openings near b = count (is_first near b) (range 0 (length b))

-- a safe cell above 0 that touches no 0
abbrev pub is_lone : (ℕ → List ℕ) → List ℕ → ℕ → Bool
is_lone near b c = (ltb 0 (cell_of b c) && not (eqb (cell_of b c) 255)) && not (any (is_zero b) (near c))

unfoldable pub lone_cells : (ℕ → List ℕ) → List ℕ → ℕ
lone_cells near b = count (is_lone near b) (range 0 (length b))

unfoldable pub bbbv : (ℕ → List ℕ) → List ℕ → ℕ
bbbv near b = openings near b + lone_cells near b
