-- What the two sweeps find in the plain equations of a position is what the direct rule finds in its blocks, where that meets no contradiction: the same
-- cells, in another order. Rests on OrderFree and FromPosition. `near` lists no neighbour of a cell twice. Assumes nothing.
use mathlib.Core.Path.{◌≡◌, sym, ◌∙◌}
use mathlib.Core.Bool.{true, false}
use mathlib.Core.List.{List}
use Prim.Native.Nat.{ℕ}
use Rattle.lists.specs.Lists.{has, nodup}
use Rattle.blocks.specs.BlockSets.{all_equations}
use Rattle.sources.specs.Equations.{plain_equations}
use Rattle.frontier.specs.Frontier.{frontier}
use Rattle.frontier.proofs.BlockLaws.{frontier_proper}
use Rattle.frontier.proofs.Coverage.{frontier_once}
use Rattle.direct.specs.Direct.{sure_mines, sure_safe, direct}
use Rattle.direct.proofs.OrderFree.{sure_mines_has, sure_safe_has, is_contradictory, direct_contradiction_free, direct_mines_free, direct_safe_free, same_mine, same_safe}
use Rattle.direct.proofs.FromPosition.{frontier_same_equations}

module _ (near : ℕ → List ℕ) (p : List ℕ) (once : (c : ℕ) → nodup (near c) ≡ true) (none : (direct (frontier near p)).contradiction ≡ false) where
  consistent : is_contradictory (all_equations (frontier near p)) ≡ false
  consistent = sym (direct_contradiction_free (frontier near p) (frontier_proper near p) (frontier_once near p)) ∙ none

  -- the mines
  pub swept_mines : (c : ℕ) → has (sure_mines (plain_equations near p)) c ≡ has (direct (frontier near p)).mines c
  swept_mines c =
      sure_mines_has (plain_equations near p) c
      ∙ sym (same_mine (all_equations (frontier near p)) (plain_equations near p) (frontier_same_equations near p once) c)
      ∙ sym (direct_mines_free (frontier near p) (frontier_proper near p) (frontier_once near p) c ∙ rw consistent)

  -- the safe cells
  pub swept_safe : (c : ℕ) → has (sure_safe (plain_equations near p)) c ≡ has (direct (frontier near p)).safe c
  swept_safe c =
      sure_safe_has (plain_equations near p) c
      ∙ sym (same_safe (all_equations (frontier near p)) (plain_equations near p) (frontier_same_equations near p once) c)
      ∙ sym (direct_safe_free (frontier near p) (frontier_proper near p) (frontier_once near p) c ∙ rw consistent)
