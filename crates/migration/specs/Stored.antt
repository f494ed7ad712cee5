-- Cited by no public contract. What a stored start meant before 255,255 was retired, for the law that a migrated record is judged as the stored one was: this is the only place where that meaning is kept. Test 4 let
-- 255,255 pass, a test 7 came last, that such a board has a 0, and the start's cell was its first 0. A start on a mine was not refused: it was judged no. Assumes nothing.
use Rattle.std.specs.Prelude.{Bool, not, cond, ◌||◌, List, [], ◌∷◌, ℕ, length}
use Rattle.lists.specs.Lists.{all}
use Rattle.grid.specs.Window.{flat, neighbours}
use Rattle.refusals.specs.Tests.{size_ok, length_ok, board_cells_ok, start_ok, numbers_ok, start_cell}
use Rattle.migration.specs.Migrated.{is_open, has_zero, first_zero}

-- the cell that a start meant
abbrev pub stored_start : ℕ → ℕ → ℕ → List ℕ → ℕ
stored_start columns row column b = cond (is_open row column) (first_zero b) (start_cell columns row column)

-- the number of the refusal, 0 where the board was accepted
unfoldable pub stored_number : ℕ → ℕ → ℕ → ℕ → List ℕ → ℕ → ℕ
stored_number rows columns row column b picture =
    failing (size_ok 1 rows columns) 1
    (failing (all (length_ok rows columns) (length b ∷ picture ∷ [])) 2
    (failing (board_cells_ok b) 3
    (failing (start_ok rows columns row column || is_open row column) 4
    (failing (numbers_ok (neighbours flat rows columns) b) 5
    (failing (not (is_open row column) || has_zero b) 7 0)))))
  where
    failing : Bool → ℕ → ℕ → ℕ
    failing passes number later = cond passes later number
