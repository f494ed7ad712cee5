-- Cited by no public contract. The cells that a flood opens, said without an order: the closed cells of the list, and from each 0 among them its closed
-- neighbours, and so on. Assumes nothing.
use Rattle.std.specs.Prelude.{◌≡◌, true, List, ℕ}
use Rattle.lists.specs.Lists.{has}
use Rattle.grid.specs.Cells.{cell_of, shows}

-- reached from the list cs in the position p: a closed cell of the list, or a closed neighbour of a reached cell that is a 0 on the board b
pub data Reached (near : ℕ → List ℕ) (b p cs : List ℕ) : ℕ → Type 0 where
  in_list : {c : ℕ} → has cs c ≡ true → shows p c ≡ 10 → Reached near b p cs c
  beside_zero : {c d : ℕ} → Reached near b p cs c → cell_of b c ≡ 0 → has (near c) d ≡ true → shows p d ≡ 10 → Reached near b p cs d
