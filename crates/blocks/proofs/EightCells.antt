-- Lists of at most eight cells as the code holds them: what its form of a list, `listed`, holds, how many, and that nothing stands past the count. Rests on
-- the laws of an array with a count. Assumes nothing.
use Prim.Native.Nat.{ℕ, ◌≤◌}
use mathlib.Core.Path.{◌≡◌, ap, ◌∙◌}
use mathlib.Core.List.{List, []}
use lib.ListN.{length, drop}
use Rattle.lists.proofs.Arrays.{pad_take}
use Rattle.lists.proofs.Counted.{counted_none}
use Rattle.grid.specs.Window.{listed}
use Rattle.grid.specs.declared.window.UpToEight.{UpToEight}
use Rattle.blocks.specs.Places.{cells_in}

pub cells_listed : (l : List ℕ) {list : UpToEight} → list ≡ listed l → cells_in list ≡ l
cells_listed l is = ap cells_in is ∙ pad_take 8 0 l

pub listed_counted : (list : UpToEight) → list ≡ listed (cells_in list) → list.len ≡ length (cells_in list)
listed_counted list is = ap (λ (l : UpToEight). l.len) is

pub list_none : (list : UpToEight) (i : ℕ) → list.len ≤ i → drop i (cells_in list) ≡ []
list_none list i = counted_none list.cells list.len i
