-- The flood on a board with rows and columns: the code starts with room for every cell, each cell has at most eight neighbours, and the neighbours of a
-- cell, as the code holds them, are on the board. Assumes nothing.
use mathlib.Core.Path.{◌≡◌, refl, sym, ◌∙◌}
use mathlib.Core.Bool.{Bool, true}
use mathlib.Core.List.{List}
use Prim.Native.Nat.{ℕ, ◌+◌, ◌*◌, ◌/◌, ◌%◌, ◌≤◌, ◌<◌}
use native.Mathlib.Omega.{arith}
use native.Mathlib.Nat.{div-add-mod', mul-le-mul_left, mul-le-mul_right}
use lib.Dec.{ltb, eqb}
use lib.ListN.{length, take, replicate, length-replicate}
use borrow.Author.Tests.{lt-ltb}
use Rattle.lists.specs.Lists.{all}
use Rattle.lists.proofs.All.{has_all}
use Rattle.lists.proofs.Arrays.{pad_take}
use Rattle.lists.proofs.Counts.{count_le}
use Rattle.grid.specs.declared.window.UpToEight.{UpToEight}
use Rattle.grid.specs.Window.{neighbours, listed, Board}
use Rattle.grid.proofs.Neighbours.{neighbours_on, neighbours_few}
use Rattle.fitting.specs.Boards.{Accepted}
use Rattle.flood.specs.Stack.{Room}
use Rattle.flood.proofs.SoFar.{not_ten}

module _ (edgeless : Bool) (rows columns : ℕ) (b : List ℕ) (board : Board b rows columns) where
  -- nothing is on the stack yet
  pub room_first : Accepted (neighbours edgeless rows columns) b → (p : List ℕ) → Board p rows columns → Room b p (replicate 1024 0) 0
  room_first ok p position = record {
    numbers = not_ten (neighbours edgeless rows columns) b ok;
    whole = position.whole ∙ sym board.whole;
    long = length-replicate {A = ℕ} 1024 0;
    room = omega (
      arith,
      count_le (λ v. eqb v 10) p,
      position.whole,
      mul-le-mul_right columns board.sized.few_rows,
      mul-le-mul_left 32 board.sized.few_columns,
    );
    on_board = refl;
  }

  -- the neighbours of c, as the code holds them
  module _ (c : ℕ) (l : c < length b) (list : UpToEight) (is : list ≡ listed (neighbours edgeless rows columns (c / columns * columns + c % columns))) where
    same : list ≡ listed (neighbours edgeless rows columns c)
    same = rw (div-add-mod' c columns) at is

    pub beside_cells : take list.len list.cells ≡ neighbours edgeless rows columns c
    beside_cells = rw same (pad_take 8 0 (neighbours edgeless rows columns c))

    pub beside_few : list.len ≤ 8
    beside_few = rw same (neighbours_few edgeless rows columns c)

    pub beside_on : all (λ d. ltb d (length b)) (take list.len list.cells) ≡ true
    beside_on =
        rw (beside_cells, board.whole)
        (has_all (λ d. ltb d (rows * columns)) (neighbours edgeless rows columns c) (λ d h. lt-ltb d (rows * columns) (neighbours_on edgeless rows columns c d h)))
