-- What stands at a place of the laid board: a law for each way through the tests of `stands`. And the board that is laid out in 32 rows of 32 has, counted
-- from the frame, what the framed board has: a place outside the rows is off the board too. Assumes nothing.
use mathlib.Core.Path.{◌≡◌, sym, ap, ◌∙◌, fun_ext}
use mathlib.Core.Bool.{Bool, false, cond, ◌&&◌, ◌||◌}
use mathlib.Core.List.{List}
use Prim.Native.Nat.{ℕ, ◌+◌, ◌-◌, ◌≤◌, ◌<◌}
use native.Mathlib.Omega.{arith}
use native.Mathlib.Decide.{dec_le}
use lib.Dec.{leb}
use borrow.Author.Tests.{le-leb, lt-leb}
use Rattle.grid.specs.Window.{Sized}
use Rattle.patterns.specs.Shapes.{among_mines, framed, found_in_corner, found_anywhere, pattern_found}
use Rattle.patterns.specs.Walk.{cell_at, Laid, laid_at}
use Rattle.patterns.proofs.FramedBoard.{inside, within, above, below, before, after, among_mines_off}

-- ---- the places of the laid board

module _ (rows columns : ℕ) (g : List (List ℕ)) (row column : ℕ) where
  pub beyond_rows : rows + 1 < row → 1 ≡ laid_at rows columns g row column
  unfolding laid_at
  beyond_rows h = rw (lt-leb row (rows + 1) h)

  module _ (few_rows : row ≤ rows + 1) where
    pub beyond_columns : columns + 1 < column → 1 ≡ laid_at rows columns g row column
    unfolding laid_at
    beyond_columns h = rw (le-leb row (rows + 1) few_rows, lt-leb column (columns + 1) h)

    module _ (few_columns : column ≤ columns + 1) where
      outside : inside 32 32 row column ≡ false → 255 ≡ laid_at rows columns g row column
      unfolding laid_at
      outside h = rw (le-leb row (rows + 1) few_rows, le-leb column (columns + 1) few_columns, h)

      pub at_top : row ≡ 0 → 255 ≡ laid_at rows columns g row column
      at_top h = outside (above 32 32 row column h)

      pub past_rows : 32 < row → 255 ≡ laid_at rows columns g row column
      past_rows h = outside (below 32 32 row column h)

      pub at_left : column ≡ 0 → 255 ≡ laid_at rows columns g row column
      at_left h = outside (before 32 32 row column h)

      pub past_columns : 32 < column → 255 ≡ laid_at rows columns g row column
      past_columns h = outside (after 32 32 row column h)

      pub in_rows : 1 ≤ row → row ≤ 32 → 1 ≤ column → column ≤ 32 → cell_at g (row - 1) (column - 1) ≡ laid_at rows columns g row column
      unfolding laid_at
      in_rows a b c d = rw (le-leb row (rows + 1) few_rows, le-leb column (columns + 1) few_columns, within 32 32 row column a b c d)

-- ---- the laid board is the framed board

module _ (rows columns : ℕ) (sized : Sized rows columns) (b : List ℕ) (g : List (List ℕ)) (laid : Laid rows columns b g) where
  abbrev shown : ℕ → ℕ → ℕ
  shown row column = cond (inside 32 32 row column) (cell_at g (row - 1) (column - 1)) 255

  off : (row column : ℕ) → inside 32 32 row column ≡ false → inside rows columns row column ≡ false → shown row column ≡ among_mines rows columns b row column
  off row column h k = rw h (sym (among_mines_off rows columns b row column k))

  same : (row column : ℕ) → shown row column ≡ among_mines rows columns b row column
  same row column = go (dec_le 1 row) (dec_le row 32) (dec_le 1 column) (dec_le column 32)
    where
      go : Dec (1 ≤ row) → Dec (row ≤ 32) → Dec (1 ≤ column) → Dec (column ≤ 32) → shown row column ≡ among_mines rows columns b row column
      go (no h) _ _ _ = off row column (above 32 32 row column (omega arith)) (above rows columns row column (omega arith))
      go (yes a) (no h) _ _ = off row column (below 32 32 row column (omega arith)) (below rows columns row column (omega (arith, sized.few_rows)))
      go (yes a) (yes c) (no h) _ = off row column (before 32 32 row column (omega arith)) (before rows columns row column (omega arith))
      go (yes a) (yes c) (yes d) (no h) = off row column (after 32 32 row column (omega arith)) (after rows columns row column (omega (arith, sized.few_columns)))
      go (yes a) (yes c) (yes d) (yes e) =
          let i : row - 1 + 1 ≡ row = omega arith in
          let j : column - 1 + 1 ≡ column = omega arith in
          rw (within 32 32 row column a c d e) (rw (i, j) at (laid.cells (row - 1) (column - 1) (omega arith) (omega arith)))

  laid_framed : laid_at rows columns g ≡ framed rows columns b
  unfolding laid_at framed
  laid_framed = fun_ext (λ row. fun_ext (λ column. ap (λ (v : ℕ). cond (leb row (rows + 1) && leb column (columns + 1)) v 1) (same row column)))

  -- what is found on the laid board is found on the board
  pub found_framed : {r t : Bool} → r ≡ (found_in_corner (laid_at rows columns g) rows columns || found_anywhere (laid_at rows columns g) rows columns) → r ≡ t
      → pattern_found rows columns b ≡ t
  unfolding pattern_found
  found_framed is e = sym (rw laid_framed at is) ∙ e
