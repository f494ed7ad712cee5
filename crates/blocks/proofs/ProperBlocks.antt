-- Blocks as they should be (`Proper`), whoever made them; the cells and equations of a list of blocks, which are those of its blocks; and what solves a
-- block. A block's equations are taken each with its place, so that the laws of `fitting` on families of equations serve. Assumes nothing.
use mathlib.Core.Path.{◌≡◌}
use mathlib.Core.Bool.{Bool, true}
use mathlib.Core.List.Memᴰ
use mathlib.Core.List.{List, map, Memᴰ}
use Prim.Native.Nat.{ℕ}
use Rattle.lists.specs.Lists.{has, nodup}
use Rattle.lists.proofs.Unions.{mem_has, has_mem, mem_joined, joined_mem}
use Rattle.fitting.specs.Equations.{Equation}
use Rattle.fitting.proofs.Equations.{Solution}
use Rattle.blocks.specs.Blocks.{BlockEquation, Block, says}
use Rattle.blocks.specs.BlockSets.{all_cells, all_equations}

-- ---- a list of blocks

-- an equation of a block is one of all blocks
pub block_equation_lem : (bs : List Block) (b : Block) (e : BlockEquation)
    → Memᴰ b bs → Memᴰ e b.equations → Memᴰ e (all_equations bs)
block_equation_lem bs b e m n = mem_joined n (Memᴰ.map (λ (x : Block). x.equations) m)

-- back: an equation of all blocks is one of some block
pub equation_block : (bs : List Block) (e : BlockEquation) → Memᴰ e (all_equations bs)
    → (b : Block) × Memᴰ b bs × Memᴰ e b.equations
equation_block bs e m =
    let (es, n, k) = joined_mem (map (λ (b : Block). b.equations) bs) m in
    let (b, o, w) = Memᴰ.of_map (λ (x : Block). x.equations) bs n in
    (b, o, rw w k)

-- a cell of a block is one of all blocks
pub block_cell : (bs : List Block) (b : Block) (c : ℕ) → Memᴰ b bs → has b.cells c ≡ true → has (all_cells bs) c ≡ true
block_cell bs b c m h = mem_has (all_cells bs) (mem_joined (has_mem b.cells c h) (Memᴰ.map (λ (x : Block). x.cells) m))

-- and back
pub cell_block : (bs : List Block) (c : ℕ) → has (all_cells bs) c ≡ true → (b : Block) × Memᴰ b bs × (has b.cells c ≡ true)
cell_block bs c h =
    let (l, n, k) = joined_mem (map (λ (b : Block). b.cells) bs) (has_mem (all_cells bs) c h) in
    let (b, o, w) = Memᴰ.of_map (λ (x : Block). x.cells) bs n in
    (b, o, rw w (mem_has l k))

-- ---- one block

-- a block as it should be: none of its cells stands twice, in the block or in an equation, and its cells are those of its equations
pub record Proper (b : Block) : Type 0 where
  pub once : nodup b.cells ≡ true
  pub equations_once : (e : BlockEquation) → Memᴰ e b.equations → nodup e.cells ≡ true
  pub within : (e : BlockEquation) → Memᴰ e b.equations → (c : ℕ) → has e.cells c ≡ true → has b.cells c ≡ true
  pub covered : (c : ℕ) → has b.cells c ≡ true → (e : BlockEquation) × Memᴰ e b.equations × (has e.cells c ≡ true)

-- the equations of a block, each with its place, as a family
abbrev pub EquationIn : Block → Type 0
EquationIn b = (e : BlockEquation) × Memᴰ e b.equations

-- what each says
abbrev pub says_in : (b : Block) → EquationIn b → Equation
says_in b i = says i.0

-- mines placed as f says solve every equation of a block
abbrev pub Solves : (ℕ → Bool) → Block → Type 0
Solves f b = Solution (says_in b) f
