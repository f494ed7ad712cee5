-- The frontier of a position fits into a block set, and the set reads as it. Rests on Coverage and on the laws of the neighbours. Assumes nothing.
use mathlib.Core.Path.{◌≡◌, ap, ◌∙◌}
use mathlib.Core.Bool.{Bool}
use mathlib.Core.List.{List}
use Prim.Native.Nat.{ℕ}
use native.Mathlib.Omega.{arith}
use Rattle.grid.specs.Window.{neighbours, Board}
use Rattle.grid.proofs.Places.{few_cells}
use Rattle.grid.proofs.Neighbours.{neighbours_nodup, neighbours_few}
use Rattle.blocks.specs.BlockSets.{block_set, blocks_of, Small, Whole}
use Rattle.blocks.specs.declared.BlockSet.{BlockSet}
use Rattle.blocks.proofs.Reading.{blocks_of_set}
use Rattle.blocks.proofs.Behind.{set_whole}
use Rattle.frontier.specs.Frontier.{frontier}
use Rattle.frontier.proofs.Coverage.{frontier_small}

module _ (edgeless : Bool) (rows columns : ℕ) (p : List ℕ) (board : Board p rows columns) where
  -- the frontier fits
  pub frontier_fits : Small (frontier (neighbours edgeless rows columns) p)
  frontier_fits =
      frontier_small (neighbours edgeless rows columns) p (neighbours_nodup edgeless rows columns) (λ c _. neighbours_few edgeless rows columns c)
      (omega (arith, board.whole, few_cells board.sized))

  module _ (set : BlockSet) (is : set ≡ block_set (frontier (neighbours edgeless rows columns) p)) where
    -- its block set holds it and nothing else
    pub read_whole : Whole set
    read_whole = set_whole (frontier (neighbours edgeless rows columns) p) set is frontier_fits

    -- and reads as it
    pub read_frontier : blocks_of set ≡ frontier (neighbours edgeless rows columns) p
    read_frontier = ap blocks_of is ∙ blocks_of_set (frontier (neighbours edgeless rows columns) p) frontier_fits
