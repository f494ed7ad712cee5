-- The block that is asked for, by its number: a set that holds its blocks and nothing else counts them, and where the number is below the count the arrays
-- hold that block between its bounds. Rests on Standing of the crate blocks. Assumes nothing.
use mathlib.Core.Path.{◌≡◌, ap}
use mathlib.Core.List.{List, Memᴰ}
use Prim.Native.Nat.{ℕ, ◌≤◌, ◌<◌}
use native.Mathlib.Omega.{arith}
use lib.ListN.{length, get_or}
use borrow.Author.Tests.{lt-ltb, le-ltb}
use Rattle.lists.proofs.Unions.{mem_at}
use Rattle.refusals.specs.declared.Refusal.TheVariants as refusal
use Rattle.blocks.specs.Blocks.{Block}
use Rattle.blocks.specs.BlockSets.{blocks_of, Whole}
use Rattle.blocks.specs.Places.{Stands, bounds_of, block_between}
use Rattle.blocks.specs.declared.Bounds.{Bounds}
use Rattle.blocks.specs.declared.BlockSet.{BlockSet}
use Rattle.blocks.proofs.Reading.{no_block}
use Rattle.blocks.proofs.Behind.{blocks_held}
use Rattle.blocks.proofs.Standing.{block_in, arrays_in}
use Rattle.groups.specs.Grouping.{Combinable}
use Rattle.tables.specs.Tables.{table_seen, table_of, block_asked}
use Rattle.std.specs.Prelude.{Err}

module _ {s : BlockSet} (w : Whole s) (n : ℕ) where
  -- the number isn't below the count
  pub block_past : (t : List ℕ) → s.blocks ≤ n → table_seen (Err refusal.Block) t ≡ block_asked (blocks_of s) n t
  unfolding block_asked
  block_past t h = rw (le-ltb n (length (blocks_of s)) (omega (arith, blocks_held s w)))

  -- it is
  module _ (below : n < s.blocks) where
    inside : n < length (blocks_of s)
    inside = omega (arith, blocks_held s w)

    pub block_below : n < 1024
    block_below = omega (arith, inside, w.fits.few_blocks)

    module _ {bounds : Bounds} (at : bounds ≡ bounds_of s n) where
      asked_is : block_between s bounds ≡ get_or (blocks_of s) n no_block
      asked_is = rw at (block_in s w n inside)

      pub asked_arrays : Stands s bounds
      asked_arrays = rw at (arrays_in s w n inside)

      pub asked_combinable : ((b : Block) → Memᴰ b (blocks_of s) → Combinable b) → Combinable (block_between s bounds)
      asked_combinable combinable = rw asked_is (combinable (get_or (blocks_of s) n no_block) (mem_at (blocks_of s) n no_block inside))

      -- so what is seen of its table is what is asked for
      pub asked_seen : (t : List ℕ) → table_of (block_between s bounds) t ≡ block_asked (blocks_of s) n t
      unfolding block_asked
      asked_seen t = rw (lt-ltb n (length (blocks_of s)) inside) (ap (λ (b : Block). table_of b t) asked_is)
