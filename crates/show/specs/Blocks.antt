-- Cited by no public contract. Block sets as text: `blocks 1 [1,5 | 0=1 | -1=1,5]` is a block with the cells 1 and 5 and two equations, each with its
-- remainder and its cells; `-` is an empty list. Assumes nothing.
use Rattle.std.specs.Prelude.{◌≡◌, cond, List, [], ◌∷◌, ◌++◌, map, ℕ, ◌-◌, ◌≤◌, ◌<◌, ltb, length, get_or}
use Rattle.lists.specs.Lists.{joined}
use Rattle.text.specs.Text.{decimal}
use Rattle.blocks.specs.Blocks.{BlockEquation, Block}
use Rattle.blocks.specs.BlockSets.{begin_at}
use Rattle.blocks.specs.declared.BlockSet.{BlockSet}
use Rattle.show.specs.Cells.{marked_text}

-- ---- the text

-- the numbers of a list with commas between them; `-` for none
unfoldable pub numbers_text : List ℕ → List ℕ
numbers_text [] = 45 ∷ []
numbers_text (x ∷ l) = decimal x ++ joined (map (marked_text 44) l)

-- the remainder that `rest` stands for, which is 8 less
unfoldable pub remainder_text : ℕ → List ℕ
remainder_text rest = cond (ltb rest 8) (45 ∷ decimal (8 - rest)) (decimal (rest - 8))

-- ` | 1=2,5`
unfoldable pub equation_text : BlockEquation → List ℕ
equation_text e = (32 ∷ 124 ∷ 32 ∷ remainder_text e.rest) ++ (61 ∷ numbers_text e.cells)

-- ` [2,5 | 1=2,5]`
unfoldable pub block_text : Block → List ℕ
block_text b = ((32 ∷ 91 ∷ numbers_text b.cells) ++ joined (map equation_text b.equations)) ++ (93 ∷ [])

-- `blocks 1 [2,5 | 1=2,5]`
unfoldable pub blocks_text : List Block → List ℕ
blocks_text bs = (98 ∷ 108 ∷ 111 ∷ 99 ∷ 107 ∷ 115 ∷ 32 ∷ decimal (length bs)) ++ joined (map block_text bs)

-- ---- in a block set

-- the block at place k ends inside the arrays
pub record Inside (s : BlockSet) (k : ℕ) : Type 0 where
  pub few : k < 1024
  pub slots_long : length s.slots ≡ 8192
  pub cells_begin : begin_at s.cell_ends k ≤ get_or s.cell_ends k 0
  pub cells_end : get_or s.cell_ends k 0 ≤ 1024
  pub equations_begin : begin_at s.equation_ends k ≤ get_or s.equation_ends k 0
  pub equations_end : get_or s.equation_ends k 0 ≤ 1024
