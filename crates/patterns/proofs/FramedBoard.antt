-- What stands on the board in its frame, in words: on the board 255 exactly where the cell is a mine and 0 where it is safe, on the frame 255, and beyond it 1. So no
-- shape fits with its anchor below or right of those that are tried, since each has a cell two rows down and one two columns across. Assumes nothing.
use mathlib.Core.Path.{◌≡◌, refl, sym, ◌∙◌}
use mathlib.Core.Logic.{◌⊎◌, inl, inr, ◌≢◌, ◌↔◌}
use mathlib.Core.Bool.{Bool, true, false, not, ◌&&◌, and-false}
use mathlib.Core.List.{List, [], ◌∷◌}
use Prim.Native.Nat.{ℕ, ◌+◌, ◌-◌, ◌*◌, ◌≤◌, ◌<◌}
use native.Mathlib.Omega.{arith}
use native.Mathlib.Decide.{ℕ_discrete, dec_lt}
use lib.Dec.{leb, eqb}
use borrow.Author.Tests.{leb-true, le-leb, lt-leb, eqb-false, ne_eqb, not-true}
use Rattle.lists.specs.Lists.{any, all}
use Rattle.lists.proofs.Tests.{Decided, decided, clash, and_left, and_right, or_cases}
use Rattle.lists.proofs.All.{all_head, all_tail}
use Rattle.grid.specs.Cells.{cell_of}
use Rattle.patterns.specs.Shapes.{mine_mark, among_mines, framed, PatternCell, Shape, shapes, asked, found_at}

-- ---- inside: the row and the column are from 1 to the sides

abbrev pub inside : ℕ → ℕ → ℕ → ℕ → Bool
inside rows columns row column = (leb 1 row && leb row rows) && (leb 1 column && leb column columns)

-- a test that fails makes the whole fail
module _ (a b : Bool) where
  second_fails : ((a && false) && b) ≡ false
  second_fails = rw (and-false a)

  third_fails : (a && (false && b)) ≡ false
  third_fails = and-false a

  last_fails : (a && (b && false)) ≡ false
  last_fails = rw (and-false b) (and-false a)

module _ (rows columns row column : ℕ) where
  pub within : 1 ≤ row → row ≤ rows → 1 ≤ column → column ≤ columns → inside rows columns row column ≡ true
  within a b c d = rw (le-leb 1 row a, le-leb row rows b, le-leb 1 column c, le-leb column columns d)

  pub above : row ≡ 0 → inside rows columns row column ≡ false
  above h = rw h

  pub below : rows < row → inside rows columns row column ≡ false
  below h = rw (lt-leb row rows h) (second_fails (leb 1 row) (leb 1 column && leb column columns))

  pub before : column ≡ 0 → inside rows columns row column ≡ false
  before h = rw h (third_fails (leb 1 row && leb row rows) (leb 0 columns))

  pub after : columns < column → inside rows columns row column ≡ false
  after h = rw (lt-leb column columns h) (last_fails (leb 1 row && leb row rows) (leb 1 column))

-- ---- the board, and off it

module _ (rows columns : ℕ) (b : List ℕ) where
  pub among_mines_on : (i j : ℕ) → i < rows → j < columns → among_mines rows columns b (i + 1) (j + 1) ≡ mine_mark (cell_of b (i * columns + j))
  unfolding among_mines
  among_mines_on i j h k =
      let r : i + 1 - 1 ≡ i = omega arith in
      let c : j + 1 - 1 ≡ j = omega arith in
      rw (within rows columns (i + 1) (j + 1) (omega arith) (omega arith) (omega arith) (omega arith), r, c)

  pub among_mines_off : (row column : ℕ) → inside rows columns row column ≡ false → among_mines rows columns b row column ≡ 255
  unfolding among_mines
  among_mines_off row column h = rw h

  -- ---- the framed board

  module _ (i j : ℕ) (in_rows : i < rows) (in_columns : j < columns) where
    on_board : framed rows columns b (i + 1) (j + 1) ≡ mine_mark (cell_of b (i * columns + j))
    unfolding framed
    on_board = rw (le-leb (i + 1) (rows + 1) (omega arith), le-leb (j + 1) (columns + 1) (omega arith)) (among_mines_on i j in_rows in_columns)

    pub mine_on_board : (framed rows columns b (i + 1) (j + 1) ≡ 255) ↔ (cell_of b (i * columns + j) ≡ 255)
    mine_on_board = (λ h. go (ℕ_discrete (cell_of b (i * columns + j)) 255) (sym on_board ∙ h), λ e. on_board ∙ rw e)
      where
        go : Dec (cell_of b (i * columns + j) ≡ 255) → mine_mark (cell_of b (i * columns + j)) ≡ 255 → cell_of b (i * columns + j) ≡ 255
        go (yes e) h = e
        go (no d) h = let z = rw (ne_eqb (cell_of b (i * columns + j)) 255 d) at h in absurd (omega arith)

    pub safe_on_board : (framed rows columns b (i + 1) (j + 1) ≡ 0) ↔ (cell_of b (i * columns + j) ≢ 255)
    safe_on_board =
        (λ h e. let z : ◌≡◌ {A = ℕ} 0 255 = sym h ∙ on_board ∙ rw e in omega arith, λ d. on_board ∙ rw (ne_eqb (cell_of b (i * columns + j)) 255 d))

  pub on_frame : (row column : ℕ) → row ≤ rows + 1 → column ≤ columns + 1 → inside rows columns row column ≡ false → framed rows columns b row column ≡ 255
  unfolding framed
  on_frame row column h k e = rw (le-leb row (rows + 1) h, le-leb column (columns + 1) k) (among_mines_off row column e)

  pub below_frame : (row column : ℕ) → rows + 1 < row → framed rows columns b row column ≡ 1
  unfolding framed
  below_frame row column h = rw (lt-leb row (rows + 1) h)

  pub after_frame : (row column : ℕ) → columns + 1 < column → framed rows columns b row column ≡ 1
  unfolding framed
  after_frame row column h = rw (lt-leb column (columns + 1) h) (rw (and-false (leb row (rows + 1))))

  -- ---- the anchors that are tried are all

  module _ (row column : ℕ) where
    abbrev test : PatternCell → Bool
    test = asked (framed rows columns b) row column

    -- where 1 stands no cell has what it asks for
    beyond : (p : PatternCell) → not (eqb p.wanted 1) ≡ true → framed rows columns b (row + p.down) (column + p.across) ≡ 1 → test p ≡ false
    beyond p h e = ne_eqb _ _ (λ q. eqb-false p.wanted 1 (not-true (eqb p.wanted 1) h) (sym q ∙ e))

    -- shapes that each have a cell beyond the frame do not fit
    module _ (far : PatternCell → Bool) (none : (p : PatternCell) → far p ≡ true → test p ≡ false) where
      one_fails : (s : Shape) → any far s ≡ true → all test s ≡ false
      one_fails [] e = clash false e refl
      one_fails (p ∷ s) e = go (or_cases (far p) (any far s) e) (one_fails s) (decided (test p))
        where
          go : (far p ≡ true) ⊎ (any far s ≡ true) → (any far s ≡ true → all test s ≡ false) → Decided (test p) → (test p && all test s) ≡ false
          go (inl f) ih t = rw (none p f)
          go (inr f) ih (inl t) = rw t (ih f)
          go (inr f) ih (inr t) = rw t

      all_fail : (ss : List Shape) → all (any far) ss ≡ true → found_at (framed rows columns b) row column ss ≡ false
      unfolding found_at
      all_fail [] h = refl
      all_fail (s ∷ ss) h = rw (one_fails s (all_head (any far) s ss h), all_fail ss (all_tail (any far) s ss h)) (rw (and-false (eqb (framed rows columns b row column) 255)))

    no_row_later : rows ≤ row → found_at (framed rows columns b) row column shapes ≡ false
    no_row_later h = all_fail far none shapes refl
      where
        far : PatternCell → Bool
        far p = leb 2 p.down && not (eqb p.wanted 1)

        none : (p : PatternCell) → far p ≡ true → test p ≡ false
        none p e =
            let two = leb-true 2 p.down (and_left (leb 2 p.down) (not (eqb p.wanted 1)) e) in
            beyond p (and_right (leb 2 p.down) (not (eqb p.wanted 1)) e) (below_frame (row + p.down) (column + p.across) (omega arith))

    no_column_later : columns ≤ column → found_at (framed rows columns b) row column shapes ≡ false
    no_column_later h = all_fail far none shapes refl
      where
        far : PatternCell → Bool
        far p = leb 2 p.across && not (eqb p.wanted 1)

        none : (p : PatternCell) → far p ≡ true → test p ≡ false
        none p e =
            let two = leb-true 2 p.across (and_left (leb 2 p.across) (not (eqb p.wanted 1)) e) in
            beyond p (and_right (leb 2 p.across) (not (eqb p.wanted 1)) e) (after_frame (row + p.down) (column + p.across) (omega arith))

    -- wherever a shape fits, its anchor is one of those that are tried
    pub anchor_tried : found_at (framed rows columns b) row column shapes ≡ true → (row < rows) × (column < columns)
    anchor_tried h = (go (dec_lt row rows), come (dec_lt column columns))
      where
        go : Dec (row < rows) → row < rows
        go (yes l) = l
        go (no l) = clash (found_at (framed rows columns b) row column shapes) h (no_row_later (omega arith))

        come : Dec (column < columns) → column < columns
        come (yes l) = l
        come (no l) = clash (found_at (framed rows columns b) row column shapes) h (no_column_later (omega arith))
