-- Cited by no public contract. What functions over the arrays of a block set are told. Cells are marked in an array of bytes, 1 for a cell of a list and 0 for
-- any other; a block's cells and equations stand between two places of the arrays; and blocks are put behind those that a set holds. Assumes nothing.
use Rattle.std.specs.Prelude.{◌≡◌, Bool, true, List, ◌++◌, map, ℕ, ◌+◌, ◌-◌, ◌≤◌, ◌<◌, eqb, ltb, length, get_or, set, take}
use Rattle.lists.specs.Lists.{range, bit, all, has}
use Rattle.grid.specs.declared.window.UpToEight.{UpToEight}
use Rattle.blocks.specs.Blocks.{BlockEquation, Block}
use Rattle.blocks.specs.BlockSets.{slot_cells, begin_at, blocks_of, Small, Whole}
use Rattle.blocks.specs.declared.BlockSet.{BlockSet}
use Rattle.blocks.specs.declared.Bounds.{Bounds}

-- ---- marks

abbrev pub marked : List ℕ → ℕ → Bool
marked marks c = eqb (get_or marks c 0) 1

-- the marked cells are those of a list
pub record Marks (marks cells : List ℕ) : Type 0 where
  pub at : (c : ℕ) → get_or marks c 0 ≡ bit (has cells c)

-- ---- a block in the arrays

-- the cells that a list of at most eight holds
abbrev pub cells_in : UpToEight → List ℕ
cells_in l = take l.len l.cells

-- such a list, each of its cells a place of the marks
pub record OnBoard (list : UpToEight) : Type 0 where
  pub few : list.len ≤ 8
  pub below : all (λ c. ltb c 1024) (cells_in list) ≡ true

-- the same of the slots at each place before the end
pub record Slots (slots : List ℕ) (end : ℕ) : Type 0 where
  pub whole : length slots ≡ 8192
  pub few : end ≤ 1024
  pub below : (e : ℕ) → e < end → all (λ c. ltb c 1024) (slot_cells slots e) ≡ true

-- and of the cells
pub record Cells (cells : List ℕ) (end : ℕ) : Type 0 where
  pub whole : length cells ≡ 1024
  pub few : end ≤ 1024
  pub below : (i : ℕ) → i < end → get_or cells i 0 < 1024

-- the arrays up to where a block ends in them
pub record Arrays (cells slots rests : List ℕ) (bounds : Bounds) : Type 0 where
  pub in_cells : Cells cells bounds.end_cell
  pub in_slots : Slots slots bounds.end_equation
  pub whole : length rests ≡ 1024

-- where block b begins and ends, by the ends of all blocks
abbrev pub bounds_at : List ℕ → List ℕ → ℕ → Bounds
bounds_at cell_ends equation_ends b = record {
  first_cell = begin_at cell_ends b;
  end_cell = get_or cell_ends b 0;
  first_equation = begin_at equation_ends b;
  end_equation = get_or equation_ends b 0;
}

-- the same by the ends of a set
abbrev pub bounds_of : BlockSet → ℕ → Bounds
bounds_of set b = bounds_at set.cell_ends set.equation_ends b

unfoldable pub cells_from : List ℕ → ℕ → ℕ → List ℕ
cells_from cells first end = map (λ (i : ℕ). get_or cells i 0) (range first (end - first))

unfoldable pub equations_from : List ℕ → List ℕ → ℕ → ℕ → List BlockEquation
equations_from slots rests first end = map (λ (e : ℕ). record { cells = slot_cells slots e; rest = get_or rests e 0 }) (range first (end - first))

unfoldable pub block_from : List ℕ → List ℕ → List ℕ → Bounds → Block
block_from cells slots rests bounds = record {
  cells = cells_from cells bounds.first_cell bounds.end_cell;
  equations = equations_from slots rests bounds.first_equation bounds.end_equation;
}

-- the same of a set's arrays: a block stands in them; its equations; and the block
abbrev pub Stands : BlockSet → Bounds → Type 0
Stands set bounds = Arrays set.cells set.slots set.rests bounds

abbrev pub equations_between : BlockSet → Bounds → List BlockEquation
equations_between set bounds = equations_from set.slots set.rests bounds.first_equation bounds.end_equation

abbrev pub block_between : BlockSet → Bounds → Block
block_between set bounds = block_from set.cells set.slots set.rests bounds

-- ---- blocks behind those of a set

-- a set with the ends of one block more, whose cells and equations are in their arrays
abbrev pub block_ended : BlockSet → ℕ → ℕ → BlockSet
block_ended out end_cell end_equation = record {
  cells = out.cells;
  cell_ends = set out.cell_ends out.blocks end_cell;
  slots = out.slots;
  rests = out.rests;
  equation_ends = set out.equation_ends out.blocks end_equation;
  blocks = out.blocks + 1;
}

-- the set holds its blocks and nothing else, and there is room for more behind them
pub record Room (out : BlockSet) (more : List Block) : Type 0 where
  pub held : Whole out
  pub fits : Small (blocks_of out ++ more)
