-- The neighbour window (SPECIFICATION 2.4). This is the only place that knows which cells touch:
-- every other definition takes the neighbours of a cell as a function `near` from a cell's number to a list. Assumes nothing.
use Rattle.std.specs.Prelude.{◌≡◌, Bool, false, cond, ◌&&◌, List, [], ◌∷◌, ◌++◌, map, ℕ, ◌+◌, ◌-◌, ◌*◌, ◌/◌, ◌%◌, ◌≤◌, ◌<◌, min, leb, ltb, eqb, length}
use Rattle.lists.specs.Lists.{range, without, pad}
use Rattle.grid.specs.declared.window.Size.{Size}
use Rattle.grid.specs.declared.window.UpToEight.{UpToEight}
use Rattle.grid.specs.declared.window.Window.{Window}

-- on a side whose first and last line touch: the line before a line and the line after it
abbrev pub line_before : ℕ → ℕ → ℕ
line_before size i = cond (eqb i 0) (size - 1) (i - 1)

abbrev pub line_after : ℕ → ℕ → ℕ
line_after size i = cond (eqb (i + 1) size) 0 (i + 1)

-- the lines around i, itself among them. With an edge: i - 1, i and i + 1, of those the ones below size. Without one: the line before, i and the line after,
-- in this order; none on a side shorter than 3, where a line would be met twice
unfoldable pub around : Bool → ℕ → ℕ → List ℕ
around edgeless size i =
    cond edgeless (cond (leb 3 size && ltb i size) (line_before size i ∷ i ∷ line_after size i ∷ []) []) (range (i - 1) (min (i + 2) size - (i - 1)))

-- the cells of some rows at some columns, row by row
abbrev pub block : ℕ → List ℕ → List ℕ → List ℕ
block columns [] js = []
block columns (i ∷ is) js = map (λ (j : ℕ). i * columns + j) js ++ block columns is js

-- a board with an edge, the kind that every caller has
abbrev pub flat : Bool
flat = false

-- the cells that touch a cell, from the row above to the row below and from left to right; on a board with an edge that is the reading order
unfoldable pub neighbours : Bool → ℕ → ℕ → ℕ → List ℕ
neighbours edgeless rows columns c = without c (block columns (around edgeless rows (c / columns)) (around edgeless columns (c % columns)))

-- the same of a board by its size; and the size of a board with an edge
abbrev pub neighbours_on : Size → ℕ → List ℕ
neighbours_on size = neighbours size.edgeless size.rows size.columns

abbrev pub flat_size : ℕ → ℕ → Size
flat_size rows columns = record { edgeless = flat; rows = rows; columns = columns }

-- ---- how the code walks the window

-- the first line of a window and one past its last; a window that wraps goes on past the size, and a line past the size is folded back
abbrev pub low_at : Bool → ℕ → ℕ → ℕ
low_at edgeless size i = cond edgeless (line_before size i) (i - 1)

abbrev pub high_at : Bool → ℕ → ℕ → ℕ
high_at edgeless size i = cond edgeless (cond (leb 3 size) (line_before size i + 3) (line_before size i)) (min (i + 2) size)

abbrev pub folded : ℕ → ℕ → ℕ
folded size i = cond (ltb i size) i (i - size)

-- a line with one before it and one after it, whatever the kind of board
abbrev pub is_inner : ℕ → ℕ → Bool
is_inner size i = ltb 0 i && ltb (i + 1) size

-- around the cell of an inner row and an inner column the neighbours stand at fixed distances
abbrev pub eight_around : ℕ → ℕ → List ℕ
eight_around columns c =
    (c - columns - 1) ∷ (c - columns) ∷ (c - columns + 1) ∷ (c - 1) ∷ (c + 1) ∷ (c + columns - 1) ∷ (c + columns) ∷ (c + columns + 1) ∷ []

-- the rows and the columns of a cell and its neighbours
abbrev pub window_at : Bool → ℕ → ℕ → ℕ → ℕ → Window
window_at edgeless rows columns row column =
    record { top = low_at edgeless rows row; bottom = high_at edgeless rows row; left = low_at edgeless columns column; right = high_at edgeless columns column }

-- a list of at most eight cells as the code holds it
abbrev pub listed : List ℕ → UpToEight
listed l = record { cells = pad 8 0 l; len = length l }

-- ---- what the window's functions are told, and what `window_of` tells

-- both sides are at most 32
pub record Sized (rows columns : ℕ) : Type 0 where
  pub few_rows : rows ≤ 32
  pub few_columns : columns ≤ 32

-- the list has a cell for each row and column of such a board
pub record Board (b : List ℕ) (rows columns : ℕ) : Type 0 where
  pub sized : Sized rows columns
  pub whole : length b ≡ rows * columns

-- the row and the column are on the board
pub record On (rows columns row column : ℕ) : Type 0 where
  pub in_rows : row < rows
  pub in_columns : column < columns

-- the window around a cell, at most three by three; folded back it lies on the board
pub record Around (edgeless : Bool) (rows columns row column : ℕ) (w : Window) : Type 0 where
  pub is : w ≡ window_at edgeless rows columns row column
  pub below : w.bottom ≤ rows + rows
  pub beside : w.right ≤ columns + columns
  pub tall : w.bottom ≤ w.top + 3
  pub wide : w.right ≤ w.left + 3
