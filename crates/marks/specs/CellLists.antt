-- Cited by no public contract. The struct of a list of cells, and the list that it holds. Assumes nothing.
use Rattle.std.specs.Prelude.{◌≡◌, true, List, ◌++◌, ℕ, ◌≤◌, ltb, length, take}
use Rattle.lists.specs.Lists.{all, pad}
use Rattle.marks.specs.declared.listing.CellList.{CellList}

-- the struct that holds a list
abbrev pub cell_list : List ℕ → CellList
cell_list l = record { cells = pad 1024 0 l; count = length l }

-- the list that a struct holds
abbrev pub list_in : CellList → List ℕ
list_in r = take r.count r.cells

-- the third holds the list of the first, and behind it that of the second
abbrev pub Appended : CellList → CellList → CellList → Type 0
Appended a b r = (k l : List ℕ) → a ≡ cell_list k → b ≡ cell_list l → r ≡ cell_list (k ++ l)

-- the cells of the list are below n
pub record Below (n : ℕ) (r : CellList) : Type 0 where
  pub long : length r.cells ≡ 1024
  pub few : r.count ≤ 1024
  pub below : all (λ c. ltb c n) (list_in r) ≡ true
