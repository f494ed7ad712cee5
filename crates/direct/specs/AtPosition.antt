-- What the direct rule finds, in words of the position: no block and no order (SPECIFICATION 8.2, 8.3). `near` gives the neighbours of a cell, p is
-- the position. Assumes nothing.
use Rattle.std.specs.Prelude.{Bool, ◌&&◌, List, ℕ, ◌+◌, ltb, eqb, length}
use Rattle.lists.specs.Lists.{count, any, has}
use Rattle.grid.specs.Cells.{shows}
use Rattle.sources.specs.Sources.{closed_beside, sources}
use Rattle.sources.specs.Equations.{known_beside}

-- the mines beside a cell: the known ones, and the closed cells that are mines by a test
abbrev pub mines_with : (ℕ → List ℕ) → List ℕ → (ℕ → Bool) → ℕ → ℕ
mines_with near p mine d = count mine (closed_beside near p d) + known_beside near p d

-- an open cell shows as many as it has closed cells and known mines around it
abbrev pub full_at : (ℕ → List ℕ) → List ℕ → ℕ → Bool
full_at near p d = eqb (shows p d) (length (closed_beside near p d) + known_beside near p d)

-- the closed cell c has such an open cell beside it: the direct rule finds a mine
abbrev pub is_mine_at : (ℕ → List ℕ) → List ℕ → ℕ → Bool
is_mine_at near p c = any (λ d. full_at near p d && has (closed_beside near p d) c) (sources near p)

-- an open cell with a closed neighbour shows fewer than the mines beside it, the known ones and those that the direct rule finds
abbrev pub is_contradictory_at : (ℕ → List ℕ) → List ℕ → Bool
is_contradictory_at near p = any (λ d. ltb (shows p d) (mines_with near p (is_mine_at near p) d)) (sources near p)
