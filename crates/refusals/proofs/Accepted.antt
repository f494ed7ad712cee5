-- What an acceptance tells: of each kind of call a record of facts about its input, from the definitions alone. Rests on the laws of the single tests
-- and on the rule of the first failure. Assumes nothing.
use mathlib.Core.Path.{◌≡◌}
use mathlib.Core.Logic.{◌⊎◌, ◌≢◌}
use mathlib.Core.Bool.{Bool, true, ◌&&◌}
use mathlib.Core.List.{List}
use Prim.Native.Nat.{ℕ, ◌*◌, ◌≤◌, ◌<◌}
use native.Mathlib.Omega.{arith}
use lib.ListN.{length, get_or}
use Rattle.lists.specs.Lists.{all}
use Rattle.lists.proofs.Tests.{and_left, and_right, every_at}
use Rattle.lists.proofs.All.{all_head, all_tail, all_at}
use Rattle.grid.specs.Cells.{is_board_cell, is_position_cell, cell_of, shows}
use Rattle.grid.specs.Window.{neighbours, Board}
use Rattle.refusals.specs.Refusals.{Accepted, tested}
use Rattle.refusals.specs.SharedTests.{cell_tests}
use Rattle.refusals.specs.Tests.{size_ok, length_ok, room_ok, board_cells_ok, position_cells_ok, start_ok, mines_beside, numbers_ok, start_cell, board_tests, board_tested, position_tests, position_tested, deduction_tests, deduction_tested, pattern_tests, pattern_tested, bbbv_tests, bbbv_tested}
use Rattle.refusals.proofs.Starts.{start_cell_within, start_safe_safe}
use Rattle.refusals.proofs.CellValues.{board_cell, position_shows}
use Rattle.refusals.proofs.Numbers.{number_ok, number_counts}
use Rattle.refusals.proofs.FirstFailure.{accepted_at}
pub use Rattle.refusals.proofs.Sides.{size_ok_sized, size_ok_rows, size_ok_columns, length_ok_is, room_ok_fits}

pub record AcceptedBoard (edgeless : Bool) (rows columns row column : ℕ) (b lent : List ℕ) : Type 0 where
  pub board : Board b rows columns
  pub some_rows : 1 ≤ rows
  pub some_columns : 1 ≤ columns
  pub lengths : all (length_ok rows columns) lent ≡ true
  pub cells : board_cells_ok b ≡ true
  pub start : start_ok rows columns row column ≡ true
  pub numbers : numbers_ok (neighbours edgeless rows columns) b ≡ true
  pub start_within : start_cell columns row column < length b
  pub start_safe_lem : cell_of b (start_cell columns row column) ≢ 255

pub record AcceptedPosition (rows columns : ℕ) (p : List ℕ) : Type 0 where
  pub board : Board p rows columns
  pub some_rows : 1 ≤ rows
  pub some_columns : 1 ≤ columns
  pub cells : position_cells_ok p ≡ true

pub record AcceptedDeduction (rows columns : ℕ) (p : List ℕ) (safe mines : ℕ) : Type 0 where
  pub position : AcceptedPosition rows columns p
  pub safe_room : rows * columns ≤ safe
  pub mines_room : rows * columns ≤ mines

pub record AcceptedPattern (rows columns : ℕ) (b : List ℕ) : Type 0 where
  pub board : Board b rows columns
  pub three_rows : 3 ≤ rows
  pub three_columns : 3 ≤ columns
  pub cells : board_cells_ok b ≡ true

pub record AcceptedBbbv (edgeless : Bool) (rows columns : ℕ) (b : List ℕ) : Type 0 where
  pub board : Board b rows columns
  pub cells : board_cells_ok b ≡ true
  pub numbers : numbers_ok (neighbours edgeless rows columns) b ≡ true

-- tests 1 and 2: a list with one element for each cell
sized_board : (least rows columns : ℕ) (b : List ℕ) → size_ok least rows columns ≡ true → length_ok rows columns (length b) ≡ true → Board b rows columns
sized_board least rows columns b size whole =
    record { sized = size_ok_sized least rows columns size; whole = length_ok_is rows columns (length b) whole }

pub accepted_cells : (least rows columns : ℕ) (b : List ℕ) (cells_ok : Bool) → tested (cell_tests least rows columns b cells_ok) ≡ Accepted → Board b rows columns
accepted_cells least rows columns b cells_ok h =
    let passes = accepted_at (cell_tests least rows columns b cells_ok) h in
    sized_board least rows columns b (passes 0 (omega arith)) (passes 1 (omega arith))

pub accepted_board : (edgeless : Bool) (rows columns row column : ℕ) (b lent : List ℕ) → board_tested edgeless rows columns row column b lent ≡ Accepted → AcceptedBoard edgeless rows columns row column b lent
unfolding board_tested
accepted_board edgeless rows columns row column b lent h =
    let passes = accepted_at (board_tests edgeless rows columns row column b lent) h in
    let size = passes 0 (omega arith) in
    let lengths = passes 1 (omega arith) in
    let board = sized_board 1 rows columns b size (all_head (length_ok rows columns) (length b) lent lengths) in
    record {
      board = board;
      some_rows = size_ok_rows 1 rows columns size;
      some_columns = size_ok_columns 1 rows columns size;
      lengths = all_tail (length_ok rows columns) (length b) lent lengths;
      cells = passes 2 (omega arith);
      start = passes 3 (omega arith);
      numbers = passes 4 (omega arith);
      start_within = start_cell_within rows columns row column (passes 3 (omega arith)) b board.whole;
      start_safe_lem = start_safe_safe columns row column b (passes 5 (omega arith));
    }

-- each lent length, by its place in the list
pub lent_length : {edgeless : Bool} {rows columns row column : ℕ} {b lent : List ℕ} → AcceptedBoard edgeless rows columns row column b lent → (i : ℕ) → i < length lent → get_or lent i 0 ≡ rows * columns
lent_length {rows} {columns} {lent = lent} a i w = length_ok_is rows columns (get_or lent i 0) (all_at (length_ok rows columns) lent i 0 a.lengths w)

position_facts : (rows columns : ℕ) (p : List ℕ) → size_ok 1 rows columns ≡ true → length_ok rows columns (length p) ≡ true → position_cells_ok p ≡ true → AcceptedPosition rows columns p
position_facts rows columns p size whole cells =
    record {
      board = sized_board 1 rows columns p size whole;
      some_rows = size_ok_rows 1 rows columns size;
      some_columns = size_ok_columns 1 rows columns size;
      cells = cells;
    }

pub accepted_position : (rows columns : ℕ) (p : List ℕ) → position_tested rows columns p ≡ Accepted → AcceptedPosition rows columns p
unfolding position_tested
accepted_position rows columns p h =
    let passes = accepted_at (position_tests rows columns p) h in
    position_facts rows columns p (passes 0 (omega arith)) (passes 1 (omega arith)) (passes 2 (omega arith))

pub accepted_deduction : (rows columns : ℕ) (p : List ℕ) (safe mines : ℕ) → deduction_tested rows columns p safe mines ≡ Accepted → AcceptedDeduction rows columns p safe mines
unfolding deduction_tested
accepted_deduction rows columns p safe mines h =
    let own = length_ok rows columns (length p) in
    let safe_ok = room_ok rows columns safe in
    let mines_ok = room_ok rows columns mines in
    let passes = accepted_at (deduction_tests rows columns p safe mines) h in
    let lengths = passes 1 (omega arith) in
    let rooms = and_right own (safe_ok && mines_ok) lengths in
    record {
      position = position_facts rows columns p (passes 0 (omega arith)) (and_left own (safe_ok && mines_ok) lengths) (passes 2 (omega arith));
      safe_room = room_ok_fits rows columns safe (and_left safe_ok mines_ok rooms);
      mines_room = room_ok_fits rows columns mines (and_right safe_ok mines_ok rooms);
    }

pub accepted_pattern : (rows columns : ℕ) (b : List ℕ) → pattern_tested rows columns b ≡ Accepted → AcceptedPattern rows columns b
unfolding pattern_tested
accepted_pattern rows columns b h =
    let passes = accepted_at (pattern_tests rows columns b) h in
    let size = passes 0 (omega arith) in
    record {
      board = sized_board 3 rows columns b size (passes 1 (omega arith));
      three_rows = size_ok_rows 3 rows columns size;
      three_columns = size_ok_columns 3 rows columns size;
      cells = passes 2 (omega arith);
    }

pub accepted_bbbv : (edgeless : Bool) (rows columns : ℕ) (b : List ℕ) → bbbv_tested edgeless rows columns b ≡ Accepted → AcceptedBbbv edgeless rows columns b
unfolding bbbv_tested
accepted_bbbv edgeless rows columns b h =
    let passes = accepted_at (bbbv_tests edgeless rows columns b) h in
    record {
      board = sized_board 1 rows columns b (passes 0 (omega arith)) (passes 1 (omega arith));
      cells = passes 2 (omega arith);
      numbers = passes 3 (omega arith);
    }

-- ---- cell by cell

pub board_cell_at : (b : List ℕ) → board_cells_ok b ≡ true → (c : ℕ) → c < length b → (cell_of b c ≡ 255) ⊎ (cell_of b c ≤ 8)
unfolding board_cells_ok
board_cell_at b ok c w = board_cell (cell_of b c) (all_at is_board_cell b c 0 ok w)

pub position_cell_at : (p : List ℕ) → position_cells_ok p ≡ true → (c : ℕ) → c < length p → (shows p c ≤ 8) ⊎ (shows p c ≡ 10) ⊎ (shows p c ≡ 11) ⊎ (shows p c ≡ 12)
unfolding position_cells_ok
position_cell_at p ok c w = position_shows (shows p c) (all_at is_position_cell p c 255 ok w)

pub number_at : (near : ℕ → List ℕ) (b : List ℕ) → numbers_ok near b ≡ true → (c : ℕ) → c < length b → cell_of b c ≢ 255 → mines_beside near b c ≡ cell_of b c
unfolding numbers_ok
number_at near b ok c w safe = number_counts near b c (every_at (length b) (number_ok near b) ok c w) safe
