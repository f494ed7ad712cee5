-- Sources in a list, read one after another: the list has the next source, which is on the board, and open where all sources are. Rests on the laws of
-- tests that a whole list passes. Assumes nothing.
use Prim.Native.Nat.{ℕ, ◌+◌, ◌≤◌, ◌<◌}
use mathlib.Core.Path.{◌≡◌}
use mathlib.Core.Bool.{true, ◌&&◌}
use mathlib.Core.List.{List, ◌∷◌}
use lib.Dec.{leb, ltb}
use lib.ListN.{length, get_or, drop}
use borrow.Author.Tests.{ltb-true, leb-true}
use Rattle.lists.specs.Lists.{all}
use Rattle.lists.proofs.Tests.{and_left, and_right}
use Rattle.lists.proofs.All.{all_at}
use Rattle.lists.proofs.Arrays.{drop_more}
use Rattle.grid.specs.Cells.{shows}

module _ (found : List ℕ) (h : ℕ) (before : h < length found) where
  pub found_more : drop h found ≡ get_or found h 0 ∷ drop (h + 1) found
  found_more = drop_more found h 0 before

  pub found_on_board : all (λ d. ltb d 1024) found ≡ true → get_or found h 0 < 1024
  found_on_board on = ltb-true (get_or found h 0) 1024 (all_at (λ d. ltb d 1024) found h 0 on before)

  pub found_open : (size : ℕ) (p : List ℕ) → all (λ d. ltb d size && leb (shows p d) 8) found ≡ true
      → (get_or found h 0 < size) × (shows p (get_or found h 0) ≤ 8)
  found_open size p open_cells_lem =
      let c = get_or found h 0 in
      let both = all_at (λ d. ltb d size && leb (shows p d) 8) found h 0 open_cells_lem before in
      (ltb-true c size (and_left (ltb c size) (leb (shows p c) 8) both), leb-true (shows p c) 8 (and_right (ltb c size) (leb (shows p c) 8) both))
