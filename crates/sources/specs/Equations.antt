-- The equations of a position alone, without blocks: one for each source, in reading order, over the closed cells beside it; and the arrays that hold
-- a list of equations. `near` gives the neighbours of a cell, p is the position. Assumes nothing.
use Rattle.std.specs.Prelude.{◌≡◌, List, map, ℕ, ◌+◌, ◌-◌, length}
use Rattle.lists.specs.Lists.{count, joined, pad}
use Rattle.grid.specs.Cells.{shows}
use Rattle.fitting.specs.Equations.{is_known_mine}
use Rattle.blocks.specs.Blocks.{BlockEquation}
use Rattle.blocks.specs.BlockSets.{slots_of}
use Rattle.sources.specs.Sources.{closed_beside, sources}

-- the known mines around a cell
abbrev pub known_beside : (ℕ → List ℕ) → List ℕ → ℕ → ℕ
known_beside near p d = count (is_known_mine p) (near d)

-- the remainder of an open cell's equation plus 8: its number less its neighbouring known mines
abbrev pub rest_at : (ℕ → List ℕ) → List ℕ → ℕ → ℕ
rest_at near p d = (shows p d + 8) - known_beside near p d

-- the equation itself, over the closed cells beside the cell
abbrev pub plain_equation : (ℕ → List ℕ) → List ℕ → ℕ → BlockEquation
plain_equation near p d = record { cells = closed_beside near p d; rest = rest_at near p d }

-- those of all sources
abbrev pub plain_equations : (ℕ → List ℕ) → List ℕ → List BlockEquation
plain_equations near p = map (plain_equation near p) (sources near p)

-- equations one after another in two arrays, eight slots and a remainder for each
pub record EquationsHeld (es : List BlockEquation) (slots rests : List ℕ) (len : ℕ) : Type 0 where
  pub in_slots : slots ≡ pad 8192 65535 (joined (map slots_of es))
  pub in_rests : rests ≡ pad 1024 0 (map (λ (e : BlockEquation). e.rest) es)
  pub many : len ≡ length es
