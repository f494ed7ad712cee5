-- Where a block of a set stands in its arrays: a block's bounds are the ends of the set, what stands between them is the block, and it fits because the
-- set's blocks do. Rests on the laws of reading a set. Assumes nothing.
use mathlib.Core.Path.{◌≡◌, ap, ◌∙◌}
use mathlib.Core.Bool.{true, ◌&&◌}
use mathlib.Core.List.{List, map}
use Prim.Native.Nat.{ℕ, ◌+◌, ◌≤◌, ◌<◌}
use native.Mathlib.Omega.{arith}
use lib.Dec.{leb, ltb}
use lib.ListN.{length, get_or, take}
use borrow.Author.Tests.{ltb-true}
use Rattle.lists.specs.Lists.{all, joined}
use Rattle.lists.proofs.Tests.{and_left, and_right}
use Rattle.lists.proofs.All.{all_at}
use Rattle.lists.proofs.Arrays.{pad_read}
use Rattle.lists.proofs.Joined.{part_within}
use Rattle.blocks.specs.Blocks.{Block}
use Rattle.blocks.specs.BlockSets.{all_cells, all_equations, block_set, slot_cells, begin_at, block_at, blocks_of, small_equation, Small, Whole}
use Rattle.blocks.specs.Places.{Arrays, bounds_at, cells_from, equations_from, block_from}
use Rattle.blocks.specs.declared.BlockSet.{BlockSet}
use Rattle.blocks.proofs.Slots.{slot_cells_lem}
use Rattle.blocks.proofs.Ends.{ends_of, begin_padded, begin_of, end_of}
use Rattle.blocks.proofs.Reading.{no_equation, no_block, block_read}
use Rattle.blocks.proofs.Behind.{cells_long, slots_long, rests_long}

module _ (s : BlockSet) (bs : List Block) (is : s ≡ block_set bs) (fits : Small bs) (k : ℕ) (h : k < length bs) where
  set_block : block_from s.cells s.slots s.rests (bounds_at s.cell_ends s.equation_ends k) ≡ get_or bs k no_block
  unfolding block_from cells_from equations_from
  set_block = ap (λ (x : BlockSet). block_at x k) is ∙ block_read bs fits.small k h

  cell_end : get_or s.cell_ends k 0 ≡ length (joined (map (λ (b : Block). b.cells) (take k bs))) + length (get_or bs k no_block).cells
  unfolding block_set
  cell_end = rw is (pad_read 1024 0 (ends_of (λ (b : Block). b.cells) bs) k ∙ end_of (λ (b : Block). b.cells) bs k no_block h)

  cell_begin : begin_at s.cell_ends k ≡ length (joined (map (λ (b : Block). b.cells) (take k bs)))
  unfolding block_set
  cell_begin = rw is (begin_padded 1024 (ends_of (λ (b : Block). b.cells) bs) k ∙ begin_of (λ (b : Block). b.cells) bs k h)

  equation_end : get_or s.equation_ends k 0 ≡ length (joined (map (λ (b : Block). b.equations) (take k bs))) + length (get_or bs k no_block).equations
  unfolding block_set
  equation_end = rw is (pad_read 1024 0 (ends_of (λ (b : Block). b.equations) bs) k ∙ end_of (λ (b : Block). b.equations) bs k no_block h)

  cell_below : (i : ℕ) → i < length (all_cells bs) → get_or s.cells i 0 < 1024
  unfolding block_set
  cell_below i u =
      rw (is, pad_read 1024 0 (all_cells bs) i) (ltb-true (get_or (all_cells bs) i 0) 1024 (all_at (λ c. ltb c 1024) (all_cells bs) i 0 fits.on_board u))

  slot_below : (e : ℕ) → e < length (all_equations bs) → all (λ c. ltb c 1024) (slot_cells s.slots e) ≡ true
  unfolding block_set
  slot_below e u =
      let x = get_or (all_equations bs) e no_equation in
      rw (is, slot_cells_lem (all_equations bs) fits.small e no_equation u)
      (and_left (all (λ c. ltb c 1024) x.cells) (ltb x.rest 256)
      (and_right (leb (length x.cells) 8) (all (λ c. ltb c 1024) x.cells && ltb x.rest 256) (all_at small_equation (all_equations bs) e no_equation fits.small u)))

module _ (s : BlockSet) (w : Whole s) (k : ℕ) (h : k < length (blocks_of s)) where
  abbrev bs : List Block
  bs = blocks_of s

  pub block_in : block_from s.cells s.slots s.rests (bounds_at s.cell_ends s.equation_ends k) ≡ get_or bs k no_block
  block_in = set_block s bs w.is w.fits k h

  pub order_in : begin_at s.cell_ends k ≤ get_or s.cell_ends k 0
  order_in = omega (arith, cell_begin s bs w.is w.fits k h, cell_end s bs w.is w.fits k h)

  pub arrays_in : Arrays s.cells s.slots s.rests (bounds_at s.cell_ends s.equation_ends k)
  arrays_in =
      let cells : get_or s.cell_ends k 0 ≤ length (all_cells bs) =
      omega (arith, cell_end s bs w.is w.fits k h, part_within (λ (b : Block). b.cells) bs k no_block h) in
      let equations : get_or s.equation_ends k 0 ≤ length (all_equations bs) =
      omega (arith, equation_end s bs w.is w.fits k h, part_within (λ (b : Block). b.equations) bs k no_block h) in
      record {
        in_cells = record {
          whole = cells_long s w;
          few = omega (arith, w.fits.few_cells);
          below = λ i u. cell_below s bs w.is w.fits k h i (omega arith);
        };
        in_slots = record {
          whole = slots_long s w;
          few = omega (arith, w.fits.few_equations);
          below = λ e u. slot_below s bs w.is w.fits k h e (omega arith);
        };
        whole = rests_long s w;
      }
