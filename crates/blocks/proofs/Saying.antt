-- What an equation of a block says of mines placed as f says, by its remainder plus 8: as many mines as cells, none, or fewer than none. The mines and 8
-- are `rest`, so the number of mines is known, and the laws of counts tell which cells they are. Assumes nothing.
use mathlib.Core.Path.{◌≡◌}
use mathlib.Core.Bool.{Bool, true, false}
use Prim.Native.Nat.{ℕ, ◌+◌, ◌<◌}
use native.Mathlib.Omega.{arith}
use lib.ListN.{length}
use Rattle.lists.specs.Lists.{has}
use Rattle.lists.proofs.Counts.{count_full, count_none}
use Rattle.fitting.specs.Equations.{Holds}
use Rattle.blocks.specs.Blocks.{BlockEquation, says}

module _ (f : ℕ → Bool) (e : BlockEquation) (h : Holds f (says e)) where
  pub says_all_mines : e.rest ≡ length e.cells + 8 → (c : ℕ) → has e.cells c ≡ true → f c ≡ true
  says_all_mines r = count_full f e.cells (omega arith)

  pub says_all_free : e.rest ≡ 8 → (c : ℕ) → has e.cells c ≡ true → f c ≡ false
  says_all_free r = count_none f e.cells (omega arith)

  pub says_impossible : e.rest < 8 → ⊥
  says_impossible r = omega arith
