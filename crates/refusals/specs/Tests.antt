-- The tests of refusals 1 to 5 and 13 of SPECIFICATION 3.1, each as a Bool that is true where the input passes, and the lists of tests that
-- each kind of call makes, in the order of 3.3. Assumes nothing.
use Rattle.std.specs.Prelude.{Bool, not, ◌&&◌, ◌||◌, List, [], ◌∷◌, ℕ, ◌+◌, ◌*◌, leb, ltb, eqb, length}
use Rattle.lists.specs.Lists.{every, all, count}
use Rattle.refusals.specs.declared.Refusal.TheVariants.{Size, Length, Cell, Start, Number, StartMine}
use Rattle.grid.specs.Cells.{is_board_cell, is_position_cell, cell_of}
use Rattle.grid.specs.Window.{neighbours}
use Rattle.refusals.specs.Refusals.{Tested, Test, test, tested}

-- 1, size: both sides from `least` (1, and 3 for patterns) to 32
unfoldable pub size_ok : ℕ → ℕ → ℕ → Bool
size_ok least rows columns = (leb least rows && leb rows 32) && (leb least columns && leb columns 32)

-- 2, length: a cell or picture slice of n bytes is rows × columns long
unfoldable pub length_ok : ℕ → ℕ → ℕ → Bool
length_ok rows columns n = eqb n (rows * columns)

-- 2, length: a deduction's list slice of n entries isn't shorter than that
unfoldable pub room_ok : ℕ → ℕ → ℕ → Bool
room_ok rows columns n = leb (rows * columns) n

-- 3, cell
unfoldable pub board_cells_ok : List ℕ → Bool
board_cells_ok b = all is_board_cell b

unfoldable pub position_cells_ok : List ℕ → Bool
position_cells_ok p = all is_position_cell p

-- 4, start: on the board
unfoldable pub start_ok : ℕ → ℕ → ℕ → ℕ → Bool
start_ok rows columns row column = ltb row rows && ltb column columns

-- how many neighbours of a cell are mines
abbrev pub mines_beside : (ℕ → List ℕ) → List ℕ → ℕ → ℕ
mines_beside near b c = count (λ d. eqb (cell_of b d) 255) (near c)

-- 5, number: each safe cell's number is its count of neighbouring mines
unfoldable pub numbers_ok : (ℕ → List ℕ) → List ℕ → Bool
numbers_ok near b = every (length b) (λ c. eqb (cell_of b c) 255 || eqb (mines_beside near b c) (cell_of b c))

-- the cell of a start
unfoldable pub start_cell : ℕ → ℕ → ℕ → ℕ
start_cell columns row column = row * columns + column

-- 13, start on a mine: the start's cell is safe
unfoldable pub start_safe : ℕ → ℕ → ℕ → List ℕ → Bool
start_safe columns row column b = not (eqb (cell_of b (start_cell columns row column)) 255)

-- a board call, lent slices of these lengths
abbrev pub board_tests : Bool → ℕ → ℕ → ℕ → ℕ → List ℕ → List ℕ → List Test
board_tests edgeless rows columns row column b lent =
    test (size_ok 1 rows columns) Size
    ∷ test (all (length_ok rows columns) (length b ∷ lent)) Length
    ∷ test (board_cells_ok b) Cell
    ∷ test (start_ok rows columns row column) Start
    ∷ test (numbers_ok (neighbours edgeless rows columns) b) Number
    ∷ test (start_safe columns row column b) StartMine
    ∷ []

unfoldable pub board_tested : Bool → ℕ → ℕ → ℕ → ℕ → List ℕ → List ℕ → Tested
board_tested edgeless rows columns row column b lent = tested (board_tests edgeless rows columns row column b lent)

-- a call on a position, lent nothing else that 2 measures
abbrev pub position_tests : ℕ → ℕ → List ℕ → List Test
position_tests rows columns p =
    test (size_ok 1 rows columns) Size
    ∷ test (length_ok rows columns (length p)) Length
    ∷ test (position_cells_ok p) Cell
    ∷ []

unfoldable pub position_tested : ℕ → ℕ → List ℕ → Tested
position_tested rows columns p = tested (position_tests rows columns p)

-- a deduction, lent lists of s and m entries
abbrev pub deduction_tests : ℕ → ℕ → List ℕ → ℕ → ℕ → List Test
deduction_tests rows columns p s m =
    test (size_ok 1 rows columns) Size
    ∷ test (length_ok rows columns (length p) && (room_ok rows columns s && room_ok rows columns m)) Length
    ∷ test (position_cells_ok p) Cell
    ∷ []

unfoldable pub deduction_tested : ℕ → ℕ → List ℕ → ℕ → ℕ → Tested
deduction_tested rows columns p s m = tested (deduction_tests rows columns p s m)

-- the pattern call
abbrev pub pattern_tests : ℕ → ℕ → List ℕ → List Test
pattern_tests rows columns b =
    test (size_ok 3 rows columns) Size
    ∷ test (length_ok rows columns (length b)) Length
    ∷ test (board_cells_ok b) Cell
    ∷ []

unfoldable pub pattern_tested : ℕ → ℕ → List ℕ → Tested
pattern_tested rows columns b = tested (pattern_tests rows columns b)

-- the 3BV call, which has no start
abbrev pub bbbv_tests : Bool → ℕ → ℕ → List ℕ → List Test
bbbv_tests edgeless rows columns b =
    test (size_ok 1 rows columns) Size
    ∷ test (length_ok rows columns (length b)) Length
    ∷ test (board_cells_ok b) Cell
    ∷ test (numbers_ok (neighbours edgeless rows columns) b) Number
    ∷ []

unfoldable pub bbbv_tested : Bool → ℕ → ℕ → List ℕ → Tested
bbbv_tested edgeless rows columns b = tested (bbbv_tests edgeless rows columns b)
