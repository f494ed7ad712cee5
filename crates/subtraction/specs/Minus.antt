-- solve_minus on blocks (SPECIFICATION 8.4, 8.5): of two equations that share a cell, where the one has as many own cells as it has mines more,
-- these are mines and the other's own cells are safe. All pairs are read before a cell is taken out; the lists of a block are in its cell order. A block
-- that this empties is dropped, a direct pass follows, and blocks are split a second time. Assumes nothing.
use Rattle.std.specs.Prelude.{Bool, not, cond, ◌&&◌, ◌||◌, List, map, ◌++◌, ℕ, ◌+◌, eqb, length}
use Rattle.lists.specs.Lists.{keep, any, empty, has, meets}
use Rattle.blocks.specs.Blocks.{BlockEquation, Block}
use Rattle.blocks.specs.BlockSets.{all_equations}
use Rattle.chunks.specs.Chunks.{chunk_matrixes}
use Rattle.direct.specs.Found.{Found, contradicted, found, less_mines, less_safe}
use Rattle.direct.specs.Direct.{from_last, direct}

-- the cells of the first equation that the second lacks
abbrev pub own_cells : BlockEquation → BlockEquation → List ℕ
own_cells e f = keep (λ c. not (has f.cells c)) e.cells

-- the two share a cell, and the first has as many own cells as it has mines more
abbrev pub exceeds : BlockEquation → BlockEquation → Bool
exceeds e f = meets e.cells f.cells && eqb e.rest (f.rest + length (own_cells e f))

-- some pair of equations, of which the first exceeds the second, passes a test
abbrev pub some_pair : (BlockEquation → BlockEquation → Bool) → List BlockEquation → Bool
some_pair t es = any (λ (e : BlockEquation). any (λ (f : BlockEquation). exceeds e f && t e f) es) es

-- the mines of a block: own cells of one that exceeds another
unfoldable pub minus_mines : Block → List ℕ
minus_mines b = keep (λ c. some_pair (λ e f. has (own_cells e f) c) b.equations) b.cells

-- its safe cells: own cells of one that another exceeds
unfoldable pub minus_safe : Block → List ℕ
minus_safe b = keep (λ c. some_pair (λ e f. has (own_cells f e) c) b.equations) b.cells

-- the block without them; a cell in both lists lowers a remainder once
unfoldable pub minus_left : Block → Block
minus_left b = record {
  cells = keep (λ c. not (has (minus_mines b) c || has (minus_safe b) c)) b.cells;
  equations = map (λ (e : BlockEquation). less_safe (minus_safe b) (less_mines (minus_mines b) e)) b.equations;
}

-- what is left of the equations of all blocks, block after block
abbrev pub left_of : List Block → List BlockEquation
left_of bs = all_equations (map minus_left bs)

-- the blocks that still have a cell
abbrev pub minus_blocks : List Block → List Block
minus_blocks bs = keep (λ (b : Block). not (empty b.cells)) (map minus_left bs)

-- solve_minus: its own lists, then those of the direct pass, and the blocks that this leaves, split once more
unfoldable pub subtraction : List Block → Found
subtraction bs =
    cond (direct (minus_blocks bs)).contradiction contradicted
    (found (from_last minus_safe bs ++ (direct (minus_blocks bs)).safe) (from_last minus_mines bs ++ (direct (minus_blocks bs)).mines)
    (chunk_matrixes (direct (minus_blocks bs)).left))
