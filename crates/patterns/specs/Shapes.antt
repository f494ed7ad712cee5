-- The shapes that the pattern answer looks for (SPECIFICATION 10.1, 14.2), and where one is found. The
-- board stands in a frame of mines one cell wide. Rows and columns are counted from the frame's, so the board's first cell is at 1, 1. A shape is laid by
-- its anchor, which may lie on the frame: it fits where its anchor is a mine and each other cell of it has what the table asks for. Assumes nothing.
use Rattle.std.specs.Prelude.{Bool, not, cond, ◌&&◌, ◌||◌, List, [], ◌∷◌, ◌++◌, map, ℕ, ◌+◌, ◌-◌, ◌*◌, leb, eqb}
use Rattle.lists.specs.Lists.{range, keep, any, all}
use Rattle.grid.specs.Cells.{cell_of}

-- ---- what stands where

-- a cell of the board as the shapes see it: 255 for a mine, 0 for a safe cell, whatever its number
abbrev pub mine_mark : ℕ → ℕ
mine_mark v = cond (eqb v 255) 255 0

-- the board among mines: off the board a mine stands everywhere
unfoldable pub among_mines : ℕ → ℕ → List ℕ → ℕ → ℕ → ℕ
among_mines rows columns b row column =
    cond ((leb 1 row && leb row rows) && (leb 1 column && leb column columns)) (mine_mark (cell_of b ((row - 1) * columns + (column - 1)))) 255

-- the board in a frame of mines one cell wide; beyond the frame stands 1, which no shape asks for
unfoldable pub framed : ℕ → ℕ → List ℕ → ℕ → ℕ → ℕ
framed rows columns b row column = cond (leb row (rows + 1) && leb column (columns + 1)) (among_mines rows columns b row column) 1

-- ---- the table

-- a cell of a shape: so many rows down and columns across from the anchor, and what it asks for there
pub record PatternCell : Type 0 where
  pub down : ℕ
  pub across : ℕ
  pub wanted : ℕ

abbrev pub mine : ℕ → ℕ → PatternCell
mine down across = record { down = down; across = across; wanted = 255 }

abbrev pub safe : ℕ → ℕ → PatternCell
safe down across = record { down = down; across = across; wanted = 0 }

-- a shape: its cells but the anchor, which is a mine of every shape
abbrev pub Shape : Type 0
Shape = List PatternCell

-- mines at the corners of 4 × 4
abbrev pub four_corners : Shape
four_corners = mine 0 3 ∷ mine 3 0 ∷ mine 3 3 ∷ []

-- and in the middle a diagonal of mines, the other two safe: `* . . * / . * o . / . o * . / * . . *` (* a mine, o safe, . any cell), and the other diagonal
abbrev pub diagonals : List Shape
diagonals =
    (four_corners ++ (mine 1 1 ∷ safe 1 2 ∷ safe 2 1 ∷ mine 2 2 ∷ []))
    ∷ (four_corners ++ (safe 1 1 ∷ mine 1 2 ∷ mine 2 1 ∷ safe 2 2 ∷ []))
    ∷ []

-- mines in the outer columns of 3 × 4
abbrev pub two_columns : Shape
two_columns = mine 0 3 ∷ mine 1 0 ∷ mine 2 0 ∷ mine 1 3 ∷ mine 2 3 ∷ []

-- and between them one mine in the middle row: `* . . * / * * o * / * . . *`, and with the mine at the right
abbrev pub between_columns : List Shape
between_columns =
    (two_columns ++ (mine 1 1 ∷ safe 1 2 ∷ []))
    ∷ (two_columns ++ (safe 1 1 ∷ mine 1 2 ∷ []))
    ∷ []

-- mines around a safe cell: `* * * / * o * / * * *`
abbrev pub ring : Shape
ring = mine 0 1 ∷ mine 0 2 ∷ mine 1 0 ∷ mine 1 2 ∷ mine 2 0 ∷ mine 2 1 ∷ mine 2 2 ∷ safe 1 1 ∷ []

-- mines in the outer rows of 4 × 3
abbrev pub two_rows : Shape
two_rows = mine 0 1 ∷ mine 0 2 ∷ mine 3 0 ∷ mine 3 1 ∷ mine 3 2 ∷ []

-- and between them one mine in the middle column: `* * * / . * . / . o . / * * *`, and with the mine below
abbrev pub between_rows : List Shape
between_rows =
    (two_rows ++ (mine 1 1 ∷ safe 2 1 ∷ []))
    ∷ (two_rows ++ (safe 1 1 ∷ mine 2 1 ∷ []))
    ∷ []

-- the shapes that are looked for everywhere
abbrev pub shapes : List Shape
shapes = diagonals ++ (between_columns ++ ((ring ∷ []) ++ between_rows))

-- a shape with the cell at a place left free
abbrev pub freed : ℕ → ℕ → Shape → Shape
freed down across shape = keep (λ p. not (eqb p.down down && eqb p.across across)) shape

-- the diagonals in each corner of the board, with the board's corner cell left free
abbrev pub top_left : List Shape
top_left = map (freed 1 1) diagonals

abbrev pub top_right : List Shape
top_right = map (freed 1 2) diagonals

abbrev pub bottom_left : List Shape
bottom_left = map (freed 2 1) diagonals

abbrev pub bottom_right : List Shape
bottom_right = map (freed 2 2) diagonals

-- ---- where a shape is found; `at` is what stands at a row and a column

-- the cell of a shape at an anchor has what it asks for
abbrev pub asked : (ℕ → ℕ → ℕ) → ℕ → ℕ → PatternCell → Bool
asked at row column p = eqb (at (row + p.down) (column + p.across)) p.wanted

-- the shape fits at the anchor
abbrev pub shape_at : (ℕ → ℕ → ℕ) → ℕ → ℕ → Shape → Bool
shape_at at row column shape = eqb (at row column) 255 && all (asked at row column) shape

-- some of the shapes fits at the anchor
unfoldable pub found_at : (ℕ → ℕ → ℕ) → ℕ → ℕ → List Shape → Bool
found_at at row column ss = any (shape_at at row column) ss

-- some shape fits at some anchor; further down or to the right none can (`anchor_tried`)
unfoldable pub found_anywhere : (ℕ → ℕ → ℕ) → ℕ → ℕ → Bool
found_anywhere at rows columns = any (λ row. any (λ column. found_at at row column shapes) (range 0 columns)) (range 0 rows)

-- a shape fits in its corner of the board
unfoldable pub found_in_corner : (ℕ → ℕ → ℕ) → ℕ → ℕ → Bool
found_in_corner at rows columns =
    (found_at at 0 0 top_left || found_at at 0 (columns - 2) top_right)
    || (found_at at (rows - 2) 0 bottom_left || found_at at (rows - 2) (columns - 2) bottom_right)

-- a pattern is found on the board
unfoldable pub pattern_found : ℕ → ℕ → List ℕ → Bool
pattern_found rows columns b = found_in_corner (framed rows columns b) rows columns || found_anywhere (framed rows columns b) rows columns
