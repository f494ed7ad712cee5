-- The openings in the words of SPECIFICATION 16.2, without a flood and without an order: the connected groups of zeros. How many there are is told by any list that
-- has one zero of each. Assumes nothing.
use Rattle.std.specs.Prelude.{◌≡◌, true, List, ℕ, ◌+◌, ◌<◌, length}
use Rattle.lists.specs.Lists.{has, nodup}
use Rattle.grid.specs.Cells.{cell_of}
use Rattle.bbbv.specs.Openings.{lone_cells}

-- a 0 of the board
pub record Zero (b : List ℕ) (c : ℕ) : Type 0 where
  pub on_board : c < length b
  pub zero : cell_of b c ≡ 0

-- two cells joined by zeros: a path of zeros leads from the one to the other, each beside the one before it
pub data JoinedByZeros (near : ℕ → List ℕ) (b : List ℕ) : ℕ → ℕ → Type 0 where
  itself : {c : ℕ} → Zero b c → JoinedByZeros near b c c
  onward : {c d e : ℕ} → JoinedByZeros near b c d → has (near d) e ≡ true → Zero b e → JoinedByZeros near b c e

-- one zero of each connected group: every zero is joined with one of the list, and no two of the list are joined
pub record OneOfEach (near : ℕ → List ℕ) (b l : List ℕ) : Type 0 where
  pub once : nodup l ≡ true
  pub zeros : (f : ℕ) → has l f ≡ true → Zero b f
  pub some : (c : ℕ) → Zero b c → (f : ℕ) × (has l f ≡ true) × JoinedByZeros near b f c
  pub apart : (f g : ℕ) → has l f ≡ true → has l g ≡ true → JoinedByZeros near b f g → f ≡ g

-- n is the 3BV of the board: there is a list with one zero of each connected group, and the length of any such list and the number of lone cells make n
pub record IsBbbv (near : ℕ → List ℕ) (b : List ℕ) (n : ℕ) : Type 0 where
  pub listed : (l : List ℕ) × OneOfEach near b l
  pub counted : (l : List ℕ) → OneOfEach near b l → n ≡ length l + lone_cells near b
