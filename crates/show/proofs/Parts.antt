-- The parts of a block set as the code reads them for its text. A block set that is whole has no end past its arrays, and its blocks are those at their places. Rests on the
-- laws of joined lists. Assumes nothing.
use Prim.Native.Nat.{ℕ, ◌≤◌, ◌<◌}
use mathlib.Core.Path.{◌≡◌, sym, subst}
use mathlib.Core.List.{List, [], ◌∷◌, ◌++◌, map}
use native.Mathlib.Omega.{arith}
use lib.ListN.{length, get_or, length-map}
use Rattle.lists.specs.Lists.{range, joined, pad}
use Rattle.lists.proofs.Rearranged.{length_range}
use Rattle.lists.proofs.Arrays.{length_pad, pad_read}
use Rattle.lists.proofs.Joined.{joined_map_map, part_within}
use Rattle.blocks.specs.Blocks.{Block}
use Rattle.blocks.specs.BlockSets.{begin_at, slots_of, all_cells, all_equations, block_set, block_at, blocks_of, Small, Whole}
use Rattle.blocks.specs.declared.BlockSet.{BlockSet}
use Rattle.blocks.proofs.Slots.{length_all_slots}
use Rattle.blocks.proofs.Ends.{ends_of, begin_of, end_of, begin_padded}
use Rattle.text.specs.Text.{decimal}
use Rattle.show.specs.Blocks.{block_text, blocks_text, Inside}

-- ---- where a block ends

-- a part begins before its end, and ends inside the joined list
module _ {A B : Type 0} (f : B → List A) (bs : List B) (k : ℕ) (d : B) (h : k < length bs) where
  part_begins : begin_at (pad 1024 0 (ends_of f bs)) k ≤ get_or (pad 1024 0 (ends_of f bs)) k 0
  part_begins = omega (arith, begin_padded 1024 (ends_of f bs) k, pad_read 1024 0 (ends_of f bs) k, begin_of f bs k h, end_of f bs k d h)

  part_ends : get_or (pad 1024 0 (ends_of f bs)) k 0 ≤ length (joined (map f bs))
  part_ends = omega (arith, pad_read 1024 0 (ends_of f bs) k, end_of f bs k d h, part_within f bs k d h)

no_block : Block
no_block = record { cells = []; equations = [] }

small_inside : (bs : List Block) → Small bs → (k : ℕ) → k < (block_set bs).blocks → Inside (block_set bs) k
unfolding block_set
small_inside bs s k h = record {
  few = omega (arith, s.few_blocks);
  slots_long = length_pad 8192 65535 (joined (map slots_of (all_equations bs))) (omega (arith, s.few_equations, length_all_slots (all_equations bs) s.small));
  cells_begin = part_begins (λ (b : Block). b.cells) bs k no_block h;
  cells_end = omega (arith, s.few_cells, length_pad 1024 0 (all_cells bs) s.few_cells, part_ends (λ (b : Block). b.cells) bs k no_block h);
  equations_begin = part_begins (λ (b : Block). b.equations) bs k no_block h;
  equations_end = omega (arith, s.few_equations, part_ends (λ (b : Block). b.equations) bs k no_block h);
}

-- each block of a whole set ends inside the arrays
pub whole_inside : (s : BlockSet) → Whole s → (k : ℕ) → k < s.blocks → Inside s k
whole_inside s w = subst (λ (t : BlockSet). (k : ℕ) → k < t.blocks → Inside t k) (sym w.is) (small_inside (blocks_of s) w.fits)

-- ---- all blocks by their places

pub blocks_by_places : (s : BlockSet)
    → blocks_text (blocks_of s) ≡ (98 ∷ 108 ∷ 111 ∷ 99 ∷ 107 ∷ 115 ∷ 32 ∷ decimal s.blocks) ++ joined (map (λ (k : ℕ). block_text (block_at s k)) (range 0 s.blocks))
unfolding blocks_text blocks_of
blocks_by_places s = rw (length-map (range 0 s.blocks) (block_at s), length_range 0 s.blocks, joined_map_map block_text (block_at s) (range 0 s.blocks))
