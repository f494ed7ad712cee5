-- The cell of a start that test 4 passes is on the board, and test 13 tells that it is safe. A start in a row past the last of any board, as 255,255 is, is refused with 4
-- where tests 1 to 3 pass, and a start on a mine with 13 where tests 1 to 5 pass. Assumes nothing.
use Rattle.std.specs.Prelude.{Err}
use mathlib.Core.Path.{◌≡◌}
use mathlib.Core.Logic.{◌≢◌}
use mathlib.Core.Bool.{Bool, true, false}
use mathlib.Core.List.{List, ◌∷◌}
use Prim.Native.Nat.{ℕ, ◌*◌, ◌≤◌, ◌<◌}
use native.Mathlib.Omega.{arith}
use lib.Arith.{digits_lt}
use lib.Dec.{ltb, eqb}
use lib.ListN.{length}
use borrow.Author.Tests.{ltb-true, le-ltb, eq-eqb, ne_eqb, eqb-false, not-true}
use Rattle.lists.specs.Lists.{all}
use Rattle.lists.proofs.Tests.{and_left, and_right}
use Rattle.grid.specs.Cells.{cell_of}
use Rattle.grid.specs.Window.{neighbours, On}
use Rattle.refusals.specs.declared.Refusal.TheVariants.{Start, StartMine}
use Rattle.refusals.specs.Tests.{size_ok, length_ok, board_cells_ok, start_ok, numbers_ok, start_cell, start_safe, board_tested}
use Rattle.refusals.proofs.Sides.{size_ok_sized}

module _ (rows columns row column : ℕ) (ok : start_ok rows columns row column ≡ true) where
  pub start_on : On rows columns row column
  unfolding start_ok
  start_on = record {
    in_rows = ltb-true row rows (and_left (ltb row rows) (ltb column columns) ok);
    in_columns = ltb-true column columns (and_right (ltb row rows) (ltb column columns) ok);
  }

  pub start_cell_within : (b : List ℕ) → length b ≡ rows * columns → start_cell columns row column < length b
  unfolding start_cell
  start_cell_within b whole = rw whole (digits_lt start_on.in_rows start_on.in_columns)

module _ (rows columns : ℕ) (size : size_ok 1 rows columns ≡ true) where
  pub past_start_off : (row column : ℕ) → 32 ≤ row → start_ok rows columns row column ≡ false
  unfolding start_ok
  past_start_off row column past = rw (le-ltb row rows (omega (arith, (size_ok_sized 1 rows columns size).few_rows)))

  -- the retired start, whatever the numbers
  pub retired_start_refused : (edgeless : Bool) (b lent : List ℕ) → all (length_ok rows columns) (length b ∷ lent) ≡ true → board_cells_ok b ≡ true
      → board_tested edgeless rows columns 255 255 b lent ≡ Err Start
  unfolding board_tested
  retired_start_refused edgeless b lent lengths cells = rw (size, lengths, cells, past_start_off 255 255 (omega arith))

-- test 13 fails exactly where the start's cell is a mine
module _ (columns row column : ℕ) (b : List ℕ) where
  pub mine_start_fails : cell_of b (start_cell columns row column) ≡ 255 → start_safe columns row column b ≡ false
  unfolding start_safe
  mine_start_fails mine = rw (eq-eqb (cell_of b (start_cell columns row column)) 255 mine)

  pub safe_start_passes : cell_of b (start_cell columns row column) ≢ 255 → start_safe columns row column b ≡ true
  unfolding start_safe
  safe_start_passes safe = rw (ne_eqb (cell_of b (start_cell columns row column)) 255 safe)

  pub start_safe_safe : start_safe columns row column b ≡ true → cell_of b (start_cell columns row column) ≢ 255
  unfolding start_safe
  start_safe_safe h = eqb-false (cell_of b (start_cell columns row column)) 255 (not-true (eqb (cell_of b (start_cell columns row column)) 255) h)

-- so a board that is right but for its start is refused with 13
pub mine_start_refused : (edgeless : Bool) (rows columns row column : ℕ) (b lent : List ℕ) → size_ok 1 rows columns ≡ true → all (length_ok rows columns) (length b ∷ lent) ≡ true
    → board_cells_ok b ≡ true → start_ok rows columns row column ≡ true → numbers_ok (neighbours edgeless rows columns) b ≡ true → cell_of b (start_cell columns row column) ≡ 255
    → board_tested edgeless rows columns row column b lent ≡ Err StartMine
unfolding board_tested
mine_start_refused edgeless rows columns row column b lent size lengths cells start numbers mine = rw (size, lengths, cells, start, numbers, mine_start_fails columns row column b mine)
