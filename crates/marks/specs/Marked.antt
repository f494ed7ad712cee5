-- Cited by no public contract. What the functions of the two rules are told and tell. Cells found are marked in arrays of bytes; what is left of a block, and
-- the lists, are read by these marks; and a list is held in an array with a count, each of its cells marked. Assumes nothing.
use Rattle.std.specs.Prelude.{◌≡◌, Bool, true, not, cond, ◌&&◌, ◌||◌, List, [], ◌∷◌, map, reverse, ℕ, ◌-◌, ◌≤◌, ◌<◌, eqb, ltb, length, get_or, take}
use Rattle.lists.specs.Lists.{range, keep, count, all, empty, has, nodup, joined, pad}
use Rattle.blocks.specs.Blocks.{BlockEquation, Block}
use Rattle.blocks.specs.BlockSets.{all_cells, begin_at}
use Rattle.blocks.specs.Places.{marked, Marks, Cells, cells_from}

-- ---- blocks as the frontier gives them and the rules keep them

-- no cell stands in two blocks or twice in an equation, and the cells of an equation are its block's
pub record Ready (bs : List Block) : Type 0 where
  pub once : nodup (all_cells bs) ≡ true
  pub equations_once : all (λ (b : Block). all (λ (e : BlockEquation). nodup e.cells) b.equations) bs ≡ true
  pub inside : all (λ (b : Block). all (λ (e : BlockEquation). all (has b.cells) e.cells) b.equations) bs ≡ true

-- ---- lists by their marks

-- the cells between two places that have this mark
unfoldable pub cells_with : List ℕ → ℕ → List ℕ → ℕ → ℕ → List ℕ
cells_with marks mark cells first end = keep (λ c. eqb (get_or marks c 0) mark) (cells_from cells first end)

-- the marked cells of the first blocks, from the last block to the first
unfoldable pub all_with : List ℕ → List ℕ → List ℕ → ℕ → List ℕ
all_with marks cells ends blocks = joined (map (λ (b : ℕ). cells_with marks 1 cells (begin_at ends b) (get_or ends b 0)) (reverse (range 0 blocks)))

-- the cells of the first blocks, by their ends
pub record Parts (cells ends : List ℕ) (blocks : ℕ) : Type 0 where
  pub few : blocks ≤ 1024
  pub in_cells : (b : ℕ) → b < blocks → Cells cells (get_or ends b 0)

-- a list in an array with a count: its n cells are marked and no others, none stands twice, and what follows is 0
pub record Listed (marks out : List ℕ) (n : ℕ) : Type 0 where
  pub whole : length marks ≡ 1024
  pub few : n ≤ 1024
  pub filled : out ≡ pad 1024 0 (take n out)
  pub shown : Marks marks (take n out)
  pub once : nodup (take n out) ≡ true
  pub below : all (λ c. ltb c 1024) (take n out) ≡ true

-- ---- what is left by the marks: mines are marked, and so are known cells

-- an equation without known cells
abbrev pub left_equation : List ℕ → List ℕ → BlockEquation → BlockEquation
left_equation mines known e = record { cells = keep (λ c. eqb (get_or known c 0) 0) e.cells; rest = e.rest - count (marked mines) e.cells }

-- does an equation stay? After subtraction each does, after the direct rule's sweeps one with a mine left or too many known
abbrev pub stays : Bool → BlockEquation → Bool
stays subtracted e = subtracted || not (eqb e.rest 8)

-- the equations that stay
unfoldable pub left_equations : Bool → List ℕ → List ℕ → List BlockEquation → List BlockEquation
left_equations subtracted mines known es = keep (stays subtracted) (map (left_equation mines known) es)

-- a block without known cells, as a list: after subtraction none where it has no cell left
unfoldable pub left_block : Bool → List ℕ → List ℕ → Block → List Block
left_block subtracted mines known b =
    let cells = keep (λ c. eqb (get_or known c 0) 0) b.cells in
    cond (subtracted && empty cells) [] (record { cells = cells; equations = left_equations subtracted mines known b.equations } ∷ [])

-- what is left of all blocks
unfoldable pub left_blocks : Bool → List ℕ → List ℕ → List Block → List Block
left_blocks subtracted mines known bs = joined (map (left_block subtracted mines known) bs)
