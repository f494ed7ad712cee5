-- Cited by no public contract. What the functions that keep what is known of cells tell, in arrays of a byte for each cell of the board. Assumes nothing.
use Rattle.std.specs.Prelude.{◌≡◌, cond, ◌&&◌, List, ℕ, ◌+◌, ◌-◌, leb, ltb, eqb, length, get_or}
use Rattle.lists.specs.Lists.{has}

-- the first numbers of a list stand in an array from place `at` on, and all else is as it was
pub record Copied (numbers : List ℕ) (many at : ℕ) (before after : List ℕ) : Type 0 where
  pub whole : length after ≡ length before
  pub at_place : (i : ℕ) → get_or after i 0 ≡ cond (leb at i && ltb i (at + many)) (get_or numbers (i - at) 0) (get_or before i 0)

-- the cells of a list are told, and all others as they were
pub record Told (cells : List ℕ) (value : ℕ → ℕ) (before after : List ℕ) : Type 0 where
  pub whole : length after ≡ length before
  pub at_cell : (c : ℕ) → get_or after c 0 ≡ cond (has cells c) (value c) (get_or before c 0)

-- what was 2 has a value
pub record Filled (value : ℕ) (before after : List ℕ) : Type 0 where
  pub whole : length after ≡ length before
  pub at_cell : (c : ℕ) → get_or after c 0 ≡ cond (eqb (get_or before c 0) 2) value (get_or before c 0)
