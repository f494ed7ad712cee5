-- The sources of a position: the open cells with a closed neighbour, each of which gives an equation. `near` gives the neighbours of a cell, p is the
-- position. Assumes nothing.
use Rattle.std.specs.Prelude.{Bool, not, ◌&&◌, List, ℕ, leb, length}
use Rattle.lists.specs.Lists.{range, keep, empty, meets}
use Rattle.grid.specs.Cells.{shows}
use Rattle.fitting.specs.Equations.{is_closed}

-- the closed neighbours of a cell, in the window's order
abbrev pub closed_beside : (ℕ → List ℕ) → List ℕ → ℕ → List ℕ
closed_beside near p c = keep (is_closed p) (near c)

-- a source: an open cell with a closed neighbour, which gives an equation
abbrev pub is_source : (ℕ → List ℕ) → List ℕ → ℕ → Bool
is_source near p c = leb (shows p c) 8 && not (empty (closed_beside near p c))

-- the sources in reading order
unfoldable pub sources : (ℕ → List ℕ) → List ℕ → List ℕ
sources near p = keep (is_source near p) (range 0 (length p))

-- two sources share a closed cell
abbrev pub shares : (ℕ → List ℕ) → List ℕ → ℕ → ℕ → Bool
shares near p c d = meets (closed_beside near p c) (closed_beside near p d)
