-- The frontier of a position is what the rules ask for: no cell stands in two blocks or twice in an equation, and the cells of an equation are its block's.
-- So is the block set that is read from it. Rests on the laws of the frontier. Assumes nothing.
use mathlib.Core.Path.{◌≡◌}
use mathlib.Core.Bool.{Bool}
use mathlib.Core.List.{List}
use Prim.Native.Nat.{ℕ}
use Rattle.lists.specs.Lists.{all, has, nodup}
use Rattle.lists.proofs.All.{has_all}
use Rattle.lists.proofs.Unions.{all_of}
use Rattle.grid.specs.Window.{neighbours, Board}
use Rattle.blocks.specs.Blocks.{BlockEquation, Block}
use Rattle.blocks.specs.BlockSets.{block_set, blocks_of}
use Rattle.blocks.specs.declared.BlockSet.{BlockSet}
use Rattle.frontier.specs.Frontier.{frontier}
use Rattle.frontier.proofs.BlockLaws.{frontier_proper}
use Rattle.frontier.proofs.Coverage.{frontier_once}
use Rattle.frontier.proofs.ReadFrontier.{read_frontier}
use Rattle.marks.specs.Marked.{Ready}

-- ---- the frontier of any position

pub frontier_ready : (near : ℕ → List ℕ) (p : List ℕ) → Ready (frontier near p)
frontier_ready near p = record {
  once = frontier_once near p;
  equations_once = all_of (λ (b : Block). all (λ (e : BlockEquation). nodup e.cells) b.equations) (frontier near p)
      (λ b m. all_of (λ (e : BlockEquation). nodup e.cells) b.equations (frontier_proper near p b m).equations_once);
  inside = all_of (λ (b : Block). all (λ (e : BlockEquation). all (has b.cells) e.cells) b.equations) (frontier near p)
      (λ b m. all_of (λ (e : BlockEquation). all (has b.cells) e.cells) b.equations (λ e k. has_all (has b.cells) e.cells ((frontier_proper near p b m).within e k)));
}

-- ---- the block set of a position

module _ (edgeless : Bool) (rows columns : ℕ) (p : List ℕ) (board : Board p rows columns) where
  module _ (set : BlockSet) (is : set ≡ block_set (frontier (neighbours edgeless rows columns) p)) where
    -- it reads as the frontier, so it is fit for the rules
    pub read_ready : Ready (blocks_of set)
    read_ready = rw (read_frontier edgeless rows columns p board set is) (frontier_ready (neighbours edgeless rows columns) p)
