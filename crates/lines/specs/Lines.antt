-- Cited by no public contract. A line of decimal numbers as a position or a board: rows, columns, then the cells row by row; or as a board with its start:
-- rows, columns, start row, start column, then the cells. A line with anything else in it, or with fewer than these two or four numbers, is unreadable.
-- Assumes nothing.
use Rattle.std.specs.Prelude.{Option, None, Some, cond, List, [], ◌∷◌, map, ℕ, zero, suc, leb, length, take}
use Rattle.lists.specs.Lists.{pad}
use Rattle.text.specs.declared.Word.{Word}
use Rattle.text.specs.declared.Word.TheVariants.{Number, End, Other}
use Rattle.text.specs.Text.{word_at}
use Rattle.lines.specs.declared.Line.{Line}
use Rattle.lines.specs.declared.StartLine.{StartLine}
use Rattle.lines.specs.declared.Pair.{Pair}

-- a number in front of those that follow; none where those are unreadable
abbrev pub number_before : ℕ → Option (List ℕ) → Option (List ℕ)
number_before n None = None
number_before n (Some l) = Some (n ∷ l)

-- what a word makes of the numbers behind it, which are read from the place after it
abbrev pub after_word : (ℕ → Option (List ℕ)) → Word → Option (List ℕ)
after_word behind (Number n next) = number_before n (behind next)
after_word behind End = Some []
after_word behind Other = None

-- the numbers from a place on, where at most k words are read, the line's end as one of them; none where the line is unreadable
abbrev pub numbers_from : ℕ → List ℕ → ℕ → Option (List ℕ)
numbers_from zero line at = None
numbers_from (suc k) line at = after_word (numbers_from k line) (word_at line at)

-- the numbers from a place on; a line has at most as many numbers as bytes
unfoldable pub numbers_at : List ℕ → ℕ → Option (List ℕ)
numbers_at line at = numbers_from (suc (length line)) line at

-- two numbers from a place on, and the place after them
abbrev pub pair_with : ℕ → Word → Option Pair
pair_with first (Number n next) = Some (record { first = first; second = n; next = next })
pair_with first End = None
pair_with first Other = None

abbrev pub pair_after : List ℕ → Word → Option Pair
pair_after line (Number n next) = pair_with n (word_at line next)
pair_after line End = None
pair_after line Other = None

unfoldable pub pair_at : List ℕ → ℕ → Option Pair
pair_at line at = pair_after line (word_at line at)

-- a number as a cell's byte; one that is none becomes 254, which no cell is
abbrev pub cell_byte : ℕ → ℕ
cell_byte n = cond (leb n 255) n 254

-- numbers as cells, at most 1025: one more than any board has
abbrev pub cells_of : List ℕ → List ℕ
cells_of vs = take 1025 (map cell_byte vs)

-- rows, columns and cells
abbrev pub line_with : ℕ → ℕ → List ℕ → Line
line_with rows columns cells = record { rows = rows; columns = columns; cells = pad 1025 0 cells; len = length cells }

-- the line of these rows and columns with the numbers that follow them
abbrev pub with_cells : ℕ → ℕ → Option (List ℕ) → Option Line
with_cells rows columns None = None
with_cells rows columns (Some l) = Some (line_with rows columns (cells_of l))

abbrev pub from_numbers : List ℕ → Option Line
from_numbers [] = None
from_numbers (r ∷ []) = None
from_numbers (r ∷ c ∷ vs) = Some (line_with r c (cells_of vs))

abbrev pub line_from : Option (List ℕ) → Option Line
line_from None = None
line_from (Some l) = from_numbers l

-- a line read
unfoldable pub line_of : List ℕ → Option Line
line_of line = line_from (numbers_at line 0)

-- ---- a board with its start

abbrev pub start_from_numbers : List ℕ → Option StartLine
start_from_numbers [] = None
start_from_numbers (r ∷ []) = None
start_from_numbers (r ∷ c ∷ []) = None
start_from_numbers (r ∷ c ∷ row ∷ []) = None
start_from_numbers (r ∷ c ∷ row ∷ column ∷ vs) = Some (record { board = line_with r c (cells_of vs); start_row = row; start_column = column })

abbrev pub start_from : Option (List ℕ) → Option StartLine
start_from None = None
start_from (Some l) = start_from_numbers l

-- a line with a start read
unfoldable pub start_line_of : List ℕ → Option StartLine
start_line_of line = start_from (numbers_at line 0)

-- ---- what a call answers to a line

-- `unreadable`
abbrev pub unreadable_text : List ℕ
unreadable_text = 117 ∷ 110 ∷ 114 ∷ 101 ∷ 97 ∷ 100 ∷ 97 ∷ 98 ∷ 108 ∷ 101 ∷ []

-- a text of what was read, or that the line is unreadable
abbrev pub answer_text : {A : Type 0} → (A → List ℕ) → Option A → List ℕ
answer_text text None = unreadable_text
answer_text text (Some read) = text read
