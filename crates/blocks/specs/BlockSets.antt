-- The block set as the code holds it: one struct of flat arrays (SPECIFICATION 14.5). Cells stand block after
-- block, equations too, each with eight slots for its cells; ends tell where a block's cells and equations stop. Slots past the ends are 0, or 65535 where
-- a cell could stand in an equation, so the whole struct is a function of its blocks. Assumes nothing.
use Rattle.std.specs.Prelude.{◌≡◌, Bool, true, cond, ◌&&◌, List, [], ◌∷◌, map, ℕ, zero, suc, ◌+◌, ◌-◌, ◌*◌, ◌≤◌, leb, ltb, eqb, length, get_or, take, drop}
use Rattle.lists.specs.Lists.{range, all, joined, pad}
use Rattle.blocks.specs.Blocks.{BlockEquation, Block}
use Rattle.blocks.specs.declared.BlockSet.{BlockSet}

-- ---- from blocks to the struct

-- all cells, block after block
abbrev pub all_cells : List Block → List ℕ
all_cells bs = joined (map (λ (b : Block). b.cells) bs)

-- all equations, block after block
abbrev pub all_equations : List Block → List BlockEquation
all_equations bs = joined (map (λ (b : Block). b.equations) bs)

-- where each of some parts ends, the first beginning at n
abbrev pub ends_from : ℕ → List ℕ → List ℕ
ends_from n [] = []
ends_from n (k ∷ ks) = (n + k) ∷ ends_from (n + k) ks

-- an equation's cells in eight slots; 65535 is no cell
abbrev pub slots_of : BlockEquation → List ℕ
slots_of e = pad 8 65535 e.cells

unfoldable pub block_set : List Block → BlockSet
block_set bs = record {
  cells = pad 1024 0 (all_cells bs);
  cell_ends = pad 1024 0 (ends_from 0 (map (λ (b : Block). length b.cells) bs));
  slots = pad 8192 65535 (joined (map slots_of (all_equations bs)));
  rests = pad 1024 0 (map (λ (e : BlockEquation). e.rest) (all_equations bs));
  equation_ends = pad 1024 0 (ends_from 0 (map (λ (b : Block). length b.equations) bs));
  blocks = length bs;
}

-- ---- from the struct to blocks

-- the numbers before the first x
abbrev pub before : ℕ → List ℕ → List ℕ
before x [] = []
before x (y ∷ l) = cond (eqb y x) [] (y ∷ before x l)

-- the cells in the eight slots at place e
unfoldable pub slot_cells : List ℕ → ℕ → List ℕ
slot_cells slots e = before 65535 (take 8 (drop (e * 8) slots))

-- where part k begins: at the end of the part before it
abbrev pub begin_at : List ℕ → ℕ → ℕ
begin_at ends zero = 0
begin_at ends (suc k) = get_or ends k 0

-- from where part k begins up to its end
abbrev pub part_at : List ℕ → ℕ → List ℕ
part_at ends k = range (begin_at ends k) (get_or ends k 0 - begin_at ends k)

abbrev pub equation_at : BlockSet → ℕ → BlockEquation
equation_at s e = record { cells = slot_cells s.slots e; rest = get_or s.rests e 0 }

abbrev pub block_at : BlockSet → ℕ → Block
block_at s k = record {
  cells = map (λ (i : ℕ). get_or s.cells i 0) (part_at s.cell_ends k);
  equations = map (equation_at s) (part_at s.equation_ends k);
}

-- the blocks that a block set holds
unfoldable pub blocks_of : BlockSet → List Block
blocks_of s = map (block_at s) (range 0 s.blocks)

-- ---- what fits into the struct

-- an equation has at most eight cells, each a number that isn't 65535, and a remainder that fits a byte
abbrev pub small_equation : BlockEquation → Bool
small_equation e = leb (length e.cells) 8 && (all (λ c. ltb c 1024) e.cells && ltb e.rest 256)

pub record Small (bs : List Block) : Type 0 where
  pub few_cells : length (all_cells bs) ≤ 1024
  pub few_equations : length (all_equations bs) ≤ 1024
  pub few_blocks : length bs ≤ 1024
  pub on_board : all (λ c. ltb c 1024) (all_cells bs) ≡ true
  pub small : all small_equation (all_equations bs) ≡ true

-- a block set that holds blocks that fit into it, and nothing else
pub record Whole (s : BlockSet) : Type 0 where
  pub is : s ≡ block_set (blocks_of s)
  pub fits : Small (blocks_of s)
