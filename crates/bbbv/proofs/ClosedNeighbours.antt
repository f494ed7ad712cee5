-- Laws of a flood that opens of a 0's neighbours those alone that are closed. It comes as far as the flood that opens each of them (`so_far_zero`), and what is said of
-- a list of the closed ones as the code holds lists (`beside_cells`, `beside_few`, `beside_on`). Rests on the laws of the flood. Assumes nothing.
use mathlib.Core.Path.{◌≡◌, ◌∙◌}
use mathlib.Core.Bool.{Bool, true}
use mathlib.Core.List.{List, ◌++◌}
use Prim.Native.Nat.{ℕ, ◌+◌, ◌-◌, ◌*◌, ◌/◌, ◌%◌, ◌≤◌, ◌<◌}
use native.Mathlib.Omega.{arith}
use native.Mathlib.Nat.{div-add-mod'}
use lib.Dec.{eqb, ltb}
use lib.ListN.{length, take, get_or}
use borrow.Author.Tests.{eq-eqb, lt-ltb}
use Rattle.lists.specs.Lists.{keep, has, all}
use Rattle.lists.proofs.Members.{has_append, has_keep}
use Rattle.lists.proofs.Elements.{get_d_any}
use Rattle.lists.proofs.All.{has_all, all_keep}
use Rattle.lists.proofs.Arrays.{pad_take}
use Rattle.lists.proofs.Collected.{keep_few}
use Rattle.grid.specs.declared.window.UpToEight.{UpToEight}
use Rattle.grid.specs.Cells.{cell_of, shows}
use Rattle.grid.specs.Window.{neighbours, listed, Board}
use Rattle.grid.proofs.Neighbours.{neighbours_on, neighbours_few}
use Rattle.fitting.proofs.Layouts.{on_board}
use Rattle.flood.proofs.SoFar.{SoFar, so_far_alike}
use Rattle.flood.proofs.Waiting.{waiting}
use Rattle.flood.proofs.Waiting as flood

module _ (near : ℕ → List ℕ) (b p cs : List ℕ) where
  -- c is the last on the stack, and is taken
  module _ (q array : List ℕ) (n c : ℕ) (fits : n ≤ length array) (some : 0 < n) (at : c ≡ get_or array (n - 1) 0)
      (f : SoFar near b p cs q (waiting near b (take n array))) where
    abbrev rest : List ℕ
    rest = waiting near b (take (n - 1) array)

    -- the closed cells are the same
    closed_kept : (d : ℕ) → shows q d ≡ 10 → has (near c ++ rest) d ≡ has (keep (λ e. eqb (cell_of q e) 10) (near c) ++ rest) d
    closed_kept d e =
        let same : cell_of q d ≡ 10 = get_d_any q d 0 255 (on_board q d (omega arith)) ∙ e in
        rw (
          has_append (near c) rest d,
          has_append (keep (λ e. eqb (cell_of q e) 10) (near c)) rest d,
          has_keep (λ e. eqb (cell_of q e) 10) (near c) d,
          eq-eqb (cell_of q d) 10 same,
        )

    -- if it is a 0, its closed neighbours are to be opened next
    pub so_far_zero : cell_of b c ≡ 0 → SoFar near b p cs q (keep (λ d. eqb (cell_of q d) 10) (near c) ++ waiting near b (take (n - 1) array))
    so_far_zero z =
        so_far_alike near b p cs q (near c ++ rest) (keep (λ d. eqb (cell_of q d) 10) (near c) ++ rest) closed_kept
        (flood.so_far_zero near b p cs q array n c fits some at f z)

module _ (edgeless : Bool) (rows columns : ℕ) (b : List ℕ) (board : Board b rows columns) where
  -- the closed neighbours of c, as the code holds them
  module _ (c : ℕ) (l : c < length b) (q : List ℕ) (list : UpToEight)
      (is : list ≡ listed (keep (λ d. eqb (cell_of q d) 10) (neighbours edgeless rows columns (c / columns * columns + c % columns)))) where
    abbrev beside : List ℕ
    beside = keep (λ d. eqb (cell_of q d) 10) (neighbours edgeless rows columns c)

    same : list ≡ listed beside
    same = rw (div-add-mod' c columns) at is

    pub beside_cells : take list.len list.cells ≡ keep (λ d. eqb (cell_of q d) 10) (neighbours edgeless rows columns c)
    beside_cells = rw same (pad_take 8 0 beside)

    pub beside_few : list.len ≤ 8
    beside_few = rw same (keep_few (λ d. eqb (cell_of q d) 10) (neighbours edgeless rows columns c) (neighbours_few edgeless rows columns c))

    pub beside_on : all (λ d. ltb d (length b)) (take list.len list.cells) ≡ true
    beside_on =
        rw (beside_cells, board.whole)
        (all_keep (λ d. ltb d (rows * columns)) (λ d. eqb (cell_of q d) 10) (neighbours edgeless rows columns c)
        (has_all (λ d. ltb d (rows * columns)) (neighbours edgeless rows columns c) (λ d h. lt-ltb d (rows * columns) (neighbours_on edgeless rows columns c d h))))
