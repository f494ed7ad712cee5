-- The struct of a list of cells: it holds the list, also behind another, and what the functions that store and write it ask is so of a list that fits. Assumes
-- nothing.
use mathlib.Core.Path.{◌≡◌}
use mathlib.Core.Bool.{true}
use mathlib.Core.List.{List}
use Prim.Native.Nat.{ℕ, ◌+◌, ◌≤◌}
use lib.Dec.{ltb}
use lib.ListN.{length, length-append}
use lib.Seq.{sets}
use Rattle.lists.specs.Lists.{all}
use Rattle.lists.proofs.Arrays.{length_pad, pad_take}
use Rattle.lists.proofs.Joined.{pad_sets}
use Rattle.marks.specs.CellLists.{cell_list, list_in, Appended, Below}
use Rattle.marks.specs.declared.listing.CellList.{CellList}

-- the list is read back
pub list_held : (r : CellList) (l : List ℕ) → r ≡ cell_list l → list_in r ≡ l
list_held r l is = rw is (pad_take 1024 0 l)

-- what is asked of it
pub cell_list_below : (n : ℕ) (r : CellList) (l : List ℕ) → r ≡ cell_list l → length l ≤ 1024 → all (λ c. ltb c n) l ≡ true → Below n r
cell_list_below n r l is few below = rw is (record { long = length_pad 1024 0 l few; few = few; below = rw (pad_take 1024 0 l) below })

-- a list stored behind another
pub list_appended : (a b : CellList) → a.count + b.count ≤ 1024 → (cells : List ℕ) → cells ≡ sets a.cells a.count (list_in b)
    → Appended a b (record { cells = cells; count = a.count + b.count })
list_appended a b room cells stored k l first second =
    let fits : length k + length l ≤ 1024 = rw (first, second) at room in
    rw (stored, first, second, pad_take 1024 0 l, pad_sets 1024 0 k l fits, length-append k l)
