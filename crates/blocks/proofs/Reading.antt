-- The struct of some small blocks reads as those blocks, so that two lists of small blocks with the same struct are equal. Every array is read at a place
-- by its own law: cells and equations between two ends, an equation by its slots and its remainder. Assumes nothing.
use mathlib.Core.Path.{◌≡◌, sym, ap, ◌∙◌}
use mathlib.Core.Bool.{true}
use mathlib.Core.List.{List, [], map}
use Prim.Native.Nat.{ℕ, ◌<◌}
use native.Mathlib.Omega.{arith}
use lib.ListN.{length, get_or, take, get_or-map}
use Rattle.lists.specs.Lists.{all, joined, pad}
use Rattle.lists.proofs.Arrays.{pad_read}
use Rattle.lists.proofs.Joined.{read_all, map_range, part_within}
use Rattle.blocks.specs.Blocks.{BlockEquation, Block}
use Rattle.blocks.specs.BlockSets.{all_cells, all_equations, block_set, equation_at, block_at, blocks_of, small_equation, Small}
use Rattle.blocks.proofs.Slots.{slot_cells_lem}
use Rattle.blocks.proofs.Ends.{ends_of, part_padded, part_places, part_read}

-- what a list of equations or of blocks reads past its end
abbrev pub no_equation : BlockEquation
no_equation = record { cells = []; rest = 0 }

abbrev pub no_block : Block
no_block = record { cells = []; equations = [] }

pub rest_read : (es : List BlockEquation) (e : ℕ) → get_or (pad 1024 0 (map (λ (x : BlockEquation). x.rest) es)) e 0 ≡ (get_or es e no_equation).rest
rest_read es e =
    pad_read 1024 0 (map (λ (x : BlockEquation). x.rest) es) e ∙ get_or-map (λ (x : BlockEquation). x.rest) es e no_equation

module _ (bs : List Block) (small : all small_equation (all_equations bs) ≡ true) where
  pub equation_read : (e : ℕ) → e < length (all_equations bs) → equation_at (block_set bs) e ≡ get_or (all_equations bs) e no_equation
  unfolding block_set
  equation_read e h =
      rw (slot_cells_lem (all_equations bs) small e no_equation h, rest_read (all_equations bs) e)

  module _ (k : ℕ) (h : k < length bs) where
    pub cells_read : (block_at (block_set bs) k).cells ≡ (get_or bs k no_block).cells
    unfolding block_set
    cells_read =
        ap (map (λ (i : ℕ). get_or (pad 1024 0 (all_cells bs)) i 0)) (part_padded 1024 (ends_of (λ (b : Block). b.cells) bs) k)
        ∙ simp pad_read (part_read (λ (b : Block). b.cells) bs k no_block h 0)

    pub equations_read : (block_at (block_set bs) k).equations ≡ (get_or bs k no_block).equations
    unfolding block_set
    equations_read =
        let f : Block → List BlockEquation = λ b. b.equations in
        ap (map (equation_at (block_set bs))) (part_padded 1024 (ends_of f bs) k ∙ part_places f bs k no_block h)
        ∙ map_range (equation_at (block_set bs)) (λ (e : ℕ). get_or (all_equations bs) e no_equation) (length (joined (map f (take k bs)))) (length (f (get_or bs k no_block)))
        (λ e l u. equation_read e (omega (arith, part_within f bs k no_block h)))
        ∙ ap (map (λ (e : ℕ). get_or (all_equations bs) e no_equation)) (sym (part_places f bs k no_block h))
        ∙ part_read f bs k no_block h no_equation

  pub block_read : (k : ℕ) → k < length bs → block_at (block_set bs) k ≡ get_or bs k no_block
  block_read k h = rw (cells_read k h, equations_read k h)

-- reading gives back the blocks
pub blocks_of_set : (bs : List Block) → Small bs → blocks_of (block_set bs) ≡ bs
unfolding blocks_of block_set
blocks_of_set bs s =
    map_range (block_at (block_set bs)) (λ (k : ℕ). get_or bs k no_block) 0 (length bs) (λ k l u. block_read bs s.small k (omega arith))
    ∙ read_all bs no_block

pub set_of_blocks_injective : (bs cs : List Block) → block_set bs ≡ block_set cs → Small bs → Small cs → bs ≡ cs
set_of_blocks_injective bs cs e s t = sym (blocks_of_set bs s) ∙ ap blocks_of e ∙ blocks_of_set cs t
