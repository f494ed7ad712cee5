-- Where enumeration refuses, in words of the position: exactly where no mines on the closed cells give each open cell with a closed neighbour its number. The
-- idea: such mines solve every block; and where every block has a row, mines that have these counts solve it, and those of all blocks join. `near`
-- lists at most eight neighbours of a cell, none twice. Rests on EnumerationLaws and on JoinedBlocks of the crate frontier. Assumes nothing.
use mathlib.Core.Path.{◌≡◌, sym, ◌∙◌}
use mathlib.Core.Logic.{inl, inr, ◌↔◌}
use mathlib.Core.Bool.{Bool, true, false}
use mathlib.Core.List.{List, Memᴰ}
use Prim.Native.Nat.{ℕ, ◌≤◌}
use lib.ListN.{length}
use Rattle.lists.specs.Lists.{empty, nodup}
use Rattle.lists.proofs.Tests.{Decided, decided, clash}
use Rattle.lists.proofs.Occurrences.{any_in, in_any}
use Rattle.blocks.specs.Blocks.{Block}
use Rattle.frontier.specs.Frontier.{frontier}
use Rattle.frontier.proofs.BlockLaws.{frontier_proper}
use Rattle.frontier.proofs.Fitting.{SolvesSources}
use Rattle.frontier.proofs.JoinedBlocks.{sources_solve_blocks, blocks_joined}
use Rattle.search.specs.Solutions.{solutions}
use Rattle.enumeration.specs.Enumeration.{unsolvable, enumerated}
use Rattle.enumeration.proofs.EnumerationLaws.{no_row_no_solution, row_solved}

-- it tells a contradiction where some block has no solution
pub enumeration_contradiction : (bs : List Block) → (enumerated bs).contradiction ≡ unsolvable bs
unfolding enumerated
enumeration_contradiction bs = go (decided (unsolvable bs))
  where
    go : Decided (unsolvable bs) → (enumerated bs).contradiction ≡ unsolvable bs
    go (inl e) = rw e
    go (inr e) = rw e

module _ (near : ℕ → List ℕ) (p : List ℕ) (once : (c : ℕ) → nodup (near c) ≡ true) (few : (c : ℕ) → length (near c) ≤ 8) where
  -- a block without a solution leaves no mines that give each open cell its number
  unsolvable_none : unsolvable (frontier near p) ≡ true → (f : ℕ → Bool) → SolvesSources near p f → ⊥
  unsolvable_none h f s =
      let (b, k, e) = any_in (λ (x : Block). empty (solutions x)) (frontier near p) h in
      no_row_no_solution b (frontier_proper near p b k) e f (sources_solve_blocks near p once few f s b k)

  -- where every block has a solution, there are such mines
  pub solvable_some : unsolvable (frontier near p) ≡ false → (f : ℕ → Bool) × SolvesSources near p f
  solvable_some h = blocks_joined near p once few (λ b k. row_solved b (frontier_proper near p b k) (some b k (decided (empty (solutions b)))))
    where
      some : (b : Block) → Memᴰ b (frontier near p) → Decided (empty (solutions b)) → empty (solutions b) ≡ false
      some b k (inl e) = clash (unsolvable (frontier near p)) (in_any (λ (x : Block). empty (solutions x)) (frontier near p) k e) h
      some b k (inr e) = e

  -- so it refuses exactly where there are none
  pub enumeration_contradiction_at : ((enumerated (frontier near p)).contradiction ≡ true) ↔ ((f : ℕ → Bool) → SolvesSources near p f → ⊥)
  enumeration_contradiction_at = (
    λ h. unsolvable_none (sym (enumeration_contradiction (frontier near p)) ∙ h),
    λ none. enumeration_contradiction (frontier near p) ∙ go none (decided (unsolvable (frontier near p))),
  )
    where
      go : ((f : ℕ → Bool) → SolvesSources near p f → ⊥) → Decided (unsolvable (frontier near p)) → unsolvable (frontier near p) ≡ true
      go none (inl e) = e
      go none (inr e) = let (f, s) = solvable_some e in absurd (none f s)
