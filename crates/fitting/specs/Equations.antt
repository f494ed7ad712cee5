-- The equations that a position gives (SPECIFICATION 7.1): the closed neighbours of an open cell hold its number less its
-- neighbouring known mines. The remainder may be negative, so an equation keeps both numbers and no difference is formed. Assumes nothing.
use Rattle.std.specs.Prelude.{◌≡◌, Bool, ◌&&◌, List, ℕ, ◌+◌, eqb}
use Rattle.lists.specs.Lists.{bit, count, keep, has, without}
use Rattle.grid.specs.Cells.{shows}

-- the mines among the cells and the known ones add up to the number; the remainder is the number less the known ones
pub record Equation : Type 0 where
  pub cells : List ℕ
  pub known : ℕ
  pub number : ℕ

-- mines placed as f says solve the equation
abbrev pub Holds : (ℕ → Bool) → Equation → Type 0
Holds f e = count f e.cells + e.known ≡ e.number

abbrev pub is_closed : List ℕ → ℕ → Bool
is_closed p c = eqb (shows p c) 10

abbrev pub is_known_mine : List ℕ → ℕ → Bool
is_known_mine p c = eqb (shows p c) 11

-- the equation of the open cell d
abbrev pub equation_at : (ℕ → List ℕ) → List ℕ → ℕ → Equation
equation_at near p d = record { cells = keep (is_closed p) (near d); known = count (is_known_mine p) (near d); number = shows p d }

-- the equation once the cell c is found to be a mine (v true) or free
unfoldable pub take_out : ℕ → Bool → Equation → Equation
take_out c v e = record { cells = without c e.cells; known = e.known + bit (has e.cells c && v); number = e.number }
