-- What subtraction leaves fits into a block set where its blocks do: it stands among their cells, and blocks without a cell are dropped. Rests on the laws of
-- blocks made smaller and of what a rule leaves, of the crate direct. Assumes nothing.
use mathlib.Core.Bool.{Bool, not, ◌||◌}
use mathlib.Core.List.{List, map}
use native.Mathlib.Omega.{arith}
use lib.ListN.{length-map}
use Rattle.lists.specs.Lists.{empty, has}
use Rattle.lists.proofs.PassingElements.{each_mapped}
use Rattle.lists.proofs.Among.{Among, keep_among}
use Rattle.blocks.specs.Blocks.{BlockEquation, Block}
use Rattle.blocks.specs.BlockSets.{all_cells, Small}
use Rattle.direct.specs.Found.{less_mines, less_safe}
use Rattle.direct.specs.Direct.{direct}
use Rattle.direct.proofs.SmallerBlocks.{SmallEquation, less_mines_small, less_safe_small, Smaller, made_among, made_fits, some_among, some_fits}
use Rattle.direct.proofs.LeftFits.{split_fits, direct_left_fits}
use Rattle.subtraction.specs.Minus.{minus_mines, minus_safe, minus_left, minus_blocks, subtraction}
use Rattle.subtraction.proofs.MinusLaws.{subtraction_blocks_left}

-- what is left of a block is smaller
minus_smaller : (b : Block) → Smaller (minus_left b) b
unfolding minus_left
minus_smaller b = record {
  cells = keep_among (λ c. not (has (minus_mines b) c || has (minus_safe b) c)) b.cells;
  equations = omega (arith, length-map b.equations (λ (e : BlockEquation). less_safe (minus_safe b) (less_mines (minus_mines b) e)));
  small = λ h.
      each_mapped SmallEquation (λ (e : BlockEquation). less_safe (minus_safe b) (less_mines (minus_mines b) e)) b.equations
      (λ e m. less_safe_small (minus_safe b) (less_mines (minus_mines b) e) (less_mines_small (minus_mines b) e (h e m)));
}

-- a block that still has a cell
abbrev pub has_cell : Block → Bool
has_cell b = not (empty b.cells)

pub left_among : (bs : List Block) → Among (all_cells (map minus_left bs)) (all_cells bs)
left_among = made_among minus_left minus_smaller

pub minus_among : (bs : List Block) → Among (all_cells (minus_blocks bs)) (all_cells bs)
minus_among bs f = omega (arith, some_among has_cell (map minus_left bs) f, left_among bs f)

pub minus_fits : (bs : List Block) → Small bs → Small (minus_blocks bs)
minus_fits bs s = some_fits has_cell (map minus_left bs) (made_fits minus_left minus_smaller bs s)

-- and what the rule leaves, after the direct pass
pub subtraction_left_fits : (bs : List Block) → Small bs → Small (subtraction bs).left
subtraction_left_fits bs s =
    rw (subtraction_blocks_left bs)
    (split_fits (subtraction bs).contradiction (direct (minus_blocks bs)).left (direct_left_fits (minus_blocks bs) (minus_fits bs s)))
