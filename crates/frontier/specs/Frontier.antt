-- The frontier of a position, in the order of refresh_matrixs. `near` gives the neighbours of a cell, p is the position. Assumes nothing.
use Rattle.std.specs.Prelude.{not, ◌&&◌, List, [], map, ℕ, leb, eqb, length}
use Rattle.lists.specs.Lists.{range, keep, count, any, has, joined, add_new}
use Rattle.grid.specs.Cells.{shows}
use Rattle.fitting.specs.Equations.{is_closed}
use Rattle.blocks.specs.Blocks.{BlockEquation, Block}
use Rattle.sources.specs.Sources.{closed_beside, sources, shares}
use Rattle.sources.specs.Equations.{rest_at}
use Rattle.growth.specs.Growth.{block_sources}

-- the equation of a source over the cells of its block: its remainder is its number less its neighbouring known mines
abbrev pub equation_of : (ℕ → List ℕ) → List ℕ → List ℕ → ℕ → BlockEquation
equation_of near p cells c = record { cells = keep (has (closed_beside near p c)) cells; rest = rest_at near p c }

-- the closed cells that some sources touch, as they are first met
abbrev pub cells_met : (ℕ → List ℕ) → List ℕ → List ℕ → List ℕ
cells_met near p cs = add_new [] (joined (map (closed_beside near p) cs))

-- the block of its sources
unfoldable pub block_of : (ℕ → List ℕ) → List ℕ → List ℕ → Block
block_of near p cs = record { cells = cells_met near p cs; equations = map (equation_of near p (cells_met near p cs)) cs }

-- refresh_matrixs: the blocks of a position
unfoldable pub frontier : (ℕ → List ℕ) → List ℕ → List Block
frontier near p = map (block_of near p) (block_sources (shares near p) (length p) (sources near p))

-- inside_cell: how many closed cells have no neighbour below 10
unfoldable pub inside_cells : (ℕ → List ℕ) → List ℕ → ℕ
inside_cells near p = count (λ c. is_closed p c && not (any (λ d. leb (shows p d) 8) (near c))) (range 0 (length p))

-- is_minenum: how many cells are known mines
unfoldable pub known_mines : List ℕ → ℕ
known_mines p = count (λ (v : ℕ). eqb v 11) p
