-- Blocks split anew, in the order of chunk_matrix and chunk_matrixes. Assumes nothing.
use Rattle.std.specs.Prelude.{not, cond, List, [], ◌∷◌, ◌++◌, map, reverse, ℕ, zero, suc, length}
use Rattle.lists.specs.Lists.{keep, empty, has, joined, meets, add_new}
use Rattle.blocks.specs.Blocks.{BlockEquation, Block}

-- one look at each equation in turn: one that has a cell of the list adds its cells
abbrev pub widened : List BlockEquation → List ℕ → List ℕ
widened [] cells = cells
widened (e ∷ es) cells = widened es (cond (meets e.cells cells) (add_new cells e.cells) cells)

-- k such looks; as many as there are equations connect all that can be
abbrev pub connected : List BlockEquation → ℕ → List ℕ → List ℕ
connected es zero cells = cells
connected es (suc k) cells = connected es k (widened es cells)

-- the part of a block that has these cells: cells and equations, and the cells of an equation, from the last to the first
abbrev pub part : Block → List ℕ → Block
part b cells = record {
  cells = reverse (keep (has cells) b.cells);
  equations = map (λ (e : BlockEquation). record { cells = reverse e.cells; rest = e.rest }) (reverse (keep (λ (e : BlockEquation). meets e.cells cells) b.equations));
}

-- the parts by their first cell; a cell that no equation has makes none
abbrev pub parts : Block → ℕ → List ℕ → List Block
parts b zero l = []
parts b (suc k) [] = []
parts b (suc k) (c ∷ l) =
    let cells = connected b.equations (length b.equations) (c ∷ []) in
    cond (empty (part b cells).equations) [] (part b cells ∷ []) ++ parts b k (keep (λ d. not (has cells d)) l)

-- an equation without cells as a block of its own
abbrev pub alone : BlockEquation → Block
alone e = record { cells = []; equations = e ∷ [] }

-- chunk_matrix: the parts, then each equation without cells; nothing of a block that has no cell
unfoldable pub chunk_matrix : Block → List Block
chunk_matrix b = cond (empty b.cells) [] (parts b (length b.cells) b.cells ++ map alone (keep (λ (e : BlockEquation). empty e.cells) b.equations))

-- chunk_matrixes: the blocks from the last to the first
unfoldable pub chunk_matrixes : List Block → List Block
chunk_matrixes bs = joined (map chunk_matrix (reverse bs))
