-- Test 5 at one cell: which cells pass it, and what a cell that passes tells. Assumes nothing.
use mathlib.Core.Path.{◌≡◌}
use mathlib.Core.Logic.{◌⊎◌, inl, inr, ◌≢◌}
use mathlib.Core.Bool.{Bool, true, ◌||◌}
use mathlib.Core.List.{List}
use Prim.Native.Nat.{ℕ}
use lib.Dec.{eqb}
use borrow.Author.Tests.{eqb-true}
use Rattle.lists.proofs.Tests.{or_cases}
use Rattle.grid.specs.Cells.{cell_of}
use Rattle.refusals.specs.Tests.{mines_beside}

-- a cell is a mine, or its number is its count of neighbouring mines
abbrev pub number_ok : (ℕ → List ℕ) → List ℕ → ℕ → Bool
number_ok near b c = eqb (cell_of b c) 255 || eqb (mines_beside near b c) (cell_of b c)

module _ (near : ℕ → List ℕ) (b : List ℕ) (c : ℕ) where
  pub number_counts : number_ok near b c ≡ true → cell_of b c ≢ 255 → mines_beside near b c ≡ cell_of b c
  number_counts ok safe = go (or_cases (eqb (cell_of b c) 255) (eqb (mines_beside near b c) (cell_of b c)) ok)
    where
      go : (eqb (cell_of b c) 255 ≡ true) ⊎ (eqb (mines_beside near b c) (cell_of b c) ≡ true) → mines_beside near b c ≡ cell_of b c
      go (inl e) = absurd (safe (eqb-true (cell_of b c) 255 e))
      go (inr e) = eqb-true (mines_beside near b c) (cell_of b c) e
