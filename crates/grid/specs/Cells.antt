-- Boards and positions (SPECIFICATION 2.1 to 2.3): lists of bytes, row by row, so that the cell of a row and a column stands at
-- row × columns + column, the cell's number. Assumes nothing.
use Rattle.std.specs.Prelude.{Bool, ◌&&◌, ◌||◌, List, ℕ, leb, eqb, get_or}

-- a board cell: 0 to 8, the number of a safe cell, or 255, a mine
abbrev pub is_board_cell : ℕ → Bool
is_board_cell v = leb v 8 || eqb v 255

-- a position cell: 0 to 8 open, 10 closed, 11 a known mine, 12 known safe
abbrev pub is_position_cell : ℕ → Bool
is_position_cell v = leb v 8 || (leb 10 v && leb v 12)

-- what a board has at a cell
abbrev pub cell_of : List ℕ → ℕ → ℕ
cell_of b c = get_or b c 0

-- what a position shows at a cell; off the board it reads 255, which no cell of a position shows
abbrev pub shows : List ℕ → ℕ → ℕ
shows p c = get_or p c 255
