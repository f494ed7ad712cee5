-- solve_direct on blocks (SPECIFICATION 8.2, 8.3): first the cells of the equations whose remainder is the number of their cells are mines, then
-- those of the equations whose remainder is 0 are safe. What an equation gives does not depend on those before it, so each sweep is said without a
-- state; the order is that of the sweeps: equations, and the cells of each, from the last to the first, a cell where it is first met. Assumes nothing.
use Rattle.std.specs.Prelude.{Bool, not, cond, ◌||◌, List, [], map, reverse, ℕ, ◌+◌, ltb, eqb, length}
use Rattle.lists.specs.Lists.{keep, any, has, joined, add_new}
use Rattle.blocks.specs.Blocks.{BlockEquation, Block}
use Rattle.chunks.specs.Chunks.{chunk_matrixes}
use Rattle.direct.specs.Found.{Found, contradicted, found, less_mines, less_safe}

-- as many mines are left as cells
abbrev pub full : BlockEquation → Bool
full e = eqb e.rest (length e.cells + 8)

-- no mine is left
abbrev pub clear : BlockEquation → Bool
clear e = eqb e.rest 8

-- the cells of the equations that pass a test, from the last to the first, each once
abbrev pub cells_of : (BlockEquation → Bool) → List BlockEquation → List ℕ
cells_of f es = add_new [] (reverse (joined (map (λ (e : BlockEquation). e.cells) (keep f es))))

-- the mines of a block's equations
unfoldable pub sure_mines : List BlockEquation → List ℕ
sure_mines es = cells_of full es

-- the equations after the first sweep
abbrev pub after_mines : List BlockEquation → List BlockEquation
after_mines es = map (less_mines (sure_mines es)) (keep (λ (e : BlockEquation). not (full e)) es)

-- the safe cells of a block's equations
unfoldable pub sure_safe : List BlockEquation → List ℕ
sure_safe es = cells_of clear (after_mines es)

-- the equations after the second sweep
abbrev pub after_safe : List BlockEquation → List BlockEquation
after_safe es = map (less_safe (sure_safe es)) (keep (λ (e : BlockEquation). not (clear e)) (after_mines es))

-- a block after both sweeps
unfoldable pub direct_left : Block → Block
direct_left b = record {
  cells = keep (λ c. not (has (sure_mines b.equations) c || has (sure_safe b.equations) c)) b.cells;
  equations = after_safe b.equations;
}

-- some equation has a negative remainder
abbrev pub negative : List Block → Bool
negative bs = any (λ (b : Block). any (λ (e : BlockEquation). ltb e.rest 8) b.equations) bs

-- the lists of the blocks from the last to the first
abbrev pub from_last : (Block → List ℕ) → List Block → List ℕ
from_last f bs = joined (map f (reverse bs))

-- solve_direct: refusal 6 where an equation left over is negative; else the lists, and the blocks left, split anew
unfoldable pub direct : List Block → Found
direct bs =
    cond (negative (map direct_left bs)) contradicted
    (found (from_last (λ b. sure_safe b.equations) bs) (from_last (λ b. sure_mines b.equations) bs) (chunk_matrixes (map direct_left bs)))
