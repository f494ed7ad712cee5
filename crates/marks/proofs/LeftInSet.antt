-- What is left of the blocks of a set, put one after another from the first. What goes behind the set so far is what is left of the next block. Rests on the laws
-- of blocks put one after another and on `left_small`. Assumes nothing.
use mathlib.Core.Path.{◌≡◌, sym, ap, ◌∙◌}
use mathlib.Core.Bool.{Bool}
use mathlib.Core.List.{List, [], ◌++◌}
use Prim.Native.Nat.{ℕ, ◌+◌, ◌≤◌, ◌<◌}
use lib.ListN.{length, get_or, drop}
use Rattle.lists.proofs.Arrays.{drop_more, drop_none}
use Rattle.blocks.specs.Blocks.{Block}
use Rattle.blocks.specs.BlockSets.{block_set, blocks_of, Small, Whole}
use Rattle.blocks.specs.Places.{Room, bounds_at, block_from}
use Rattle.blocks.specs.declared.BlockSet.{BlockSet}
use Rattle.blocks.proofs.Reading.{no_block, blocks_of_set}
use Rattle.blocks.proofs.Behind.{small_first, set_whole, Growing, growing_room, growing_next, growing_end}
use Rattle.blocks.proofs.Standing.{block_in}
use Rattle.marks.specs.Marked.{left_block, left_blocks}
use Rattle.marks.proofs.WhatIsLeft.{left_nil, left_cons, left_small}

module _ (subtracted : Bool) (mines known : List ℕ) (s : BlockSet) (w : Whole s) where
  -- what is left of all blocks
  abbrev everything : List Block
  everything = left_blocks subtracted mines known (blocks_of s)

  left_fits : Small everything
  left_fits = left_small subtracted mines known (blocks_of s) w.fits

  pub left_start : (out : BlockSet) → out ≡ block_set [] → Growing everything out (left_blocks subtracted mines known (drop 0 (blocks_of s)))
  left_start out is =
      let none = small_first [] everything left_fits in
      record { held = set_whole [] out is none; left = ap (λ (l : List Block). l ++ everything) (ap blocks_of is ∙ blocks_of_set [] none) }

  module _ (out : BlockSet) (b : ℕ) (g : Growing everything out (left_blocks subtracted mines known (drop b (blocks_of s)))) where
    module _ (inside : b < length (blocks_of s)) where
      -- the next block, in the arrays
      abbrev next_block : Block
      next_block = block_from s.cells s.slots s.rests (bounds_at s.cell_ends s.equation_ends b)

      next : left_blocks subtracted mines known (drop b (blocks_of s)) ≡ left_block subtracted mines known next_block ++ left_blocks subtracted mines known (drop (b + 1) (blocks_of s))
      next =
          ap (left_blocks subtracted mines known) (drop_more (blocks_of s) b no_block inside)
          ∙ left_cons subtracted mines known (get_or (blocks_of s) b no_block) (drop (b + 1) (blocks_of s))
          ∙ ap (λ (q : Block). left_block subtracted mines known q ++ left_blocks subtracted mines known (drop (b + 1) (blocks_of s))) (sym (block_in s w b inside))

      pub left_room_in : Room out (left_block subtracted mines known next_block)
      left_room_in = growing_room g left_fits _ _ next

      pub left_next : (after : BlockSet) → after ≡ block_set (blocks_of out ++ left_block subtracted mines known next_block)
          → Growing everything after (left_blocks subtracted mines known (drop (b + 1) (blocks_of s)))
      left_next after is = growing_next g left_fits _ _ next after is

    pub left_end : length (blocks_of s) ≤ b → (out ≡ block_set everything) × Whole out
    left_end h =
        let is = growing_end g (ap (left_blocks subtracted mines known) (drop_none (blocks_of s) b h) ∙ left_nil subtracted mines known) in
        (is, set_whole everything out is left_fits)
