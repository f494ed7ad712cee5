-- Cited by no public contract. What the code of every kind of call shares: the tests 1, 2 and 3 of one slice, and which cells its one test of a cell takes,
-- the numbers 0 to 8 and those from a lowest to a highest. Assumes nothing.
use Rattle.std.specs.Prelude.{Bool, ◌&&◌, ◌||◌, List, [], ◌∷◌, ℕ, leb, length}
use Rattle.refusals.specs.declared.Refusal.TheVariants.{Size, Length, Cell}
use Rattle.refusals.specs.Refusals.{Test, test}
use Rattle.refusals.specs.Tests.{size_ok, length_ok}

-- 0 to 8, or from low to high
abbrev pub cell_in : ℕ → ℕ → ℕ → Bool
cell_in low high v = leb v 8 || (leb low v && leb v high)

-- tests 1, 2 and 3 of a slice b, the third by its answer
abbrev pub cell_tests : ℕ → ℕ → ℕ → List ℕ → Bool → List Test
cell_tests least rows columns b cells_ok =
    test (size_ok least rows columns) Size ∷ test (length_ok rows columns (length b)) Length ∷ test cells_ok Cell ∷ []
