-- The tests that follow those of the cells: where tests 1 to 3 have answered, a call's answer is what the tests after them give. Rests on the law of two lists of
-- tests. Assumes nothing.
use mathlib.Core.Path.{◌≡◌, sym, ◌∙◌}
use mathlib.Core.Bool.{Bool, true, ◌&&◌, and-true}
use mathlib.Core.List.{List, ◌++◌}
use Prim.Native.Nat.{ℕ}
use lib.ListN.{drop}
use Rattle.lists.specs.Lists.{all}
use Rattle.lists.proofs.Tests.{Decided, decided}
use mathlib.Core.Logic.{inl, inr}
use Rattle.refusals.specs.Refusals.{Tested, Test, tested}
use Rattle.refusals.specs.Tests.{size_ok, length_ok, board_tests, board_tested, position_tested, deduction_tested, room_ok, bbbv_tests, bbbv_tested}
use Rattle.refusals.specs.SharedTests.{cell_in, cell_tests}
use Rattle.refusals.proofs.CellValues.{board_cells_in}
use Rattle.refusals.proofs.FirstFailure.{then_tested, tested_append}

-- tests 1, 2 and 3 of a board's cells, as the code makes them
abbrev pub cells_tested : ℕ → ℕ → List ℕ → Tested
cells_tested rows columns b = tested (cell_tests 1 rows columns b (all (cell_in 255 255) b))

pub bbbv_later : (edgeless : Bool) (rows columns : ℕ) (b : List ℕ) {answer : Tested} → answer ≡ cells_tested rows columns b
    → bbbv_tested edgeless rows columns b ≡ then_tested answer (tested (drop 3 (bbbv_tests edgeless rows columns b)))
unfolding bbbv_tested
bbbv_later edgeless rows columns b told =
    let cells = cell_tests 1 rows columns b (all (cell_in 255 255) b) in
    let rest = drop 3 (bbbv_tests edgeless rows columns b) in
    let whole : bbbv_tested edgeless rows columns b ≡ tested (cells ++ rest) = rw (board_cells_in b) in
    whole ∙ tested_append cells rest (sym told)

-- lent lengths are measured where the size is right
pub board_later : (edgeless : Bool) (rows columns row column : ℕ) (b lent : List ℕ) {answer : Tested} → (size_ok 1 rows columns ≡ true → all (length_ok rows columns) lent ≡ true)
    → answer ≡ cells_tested rows columns b
    → board_tested edgeless rows columns row column b lent ≡ then_tested answer (tested (drop 3 (board_tests edgeless rows columns row column b lent)))
unfolding board_tested
board_later edgeless rows columns row column b lent measured told = whole (decided (size_ok 1 rows columns)) ∙ tested_append cells rest (sym told)
  where
    cells : List Test
    cells = cell_tests 1 rows columns b (all (cell_in 255 255) b)

    rest : List Test
    rest = drop 3 (board_tests edgeless rows columns row column b lent)

    whole : Decided (size_ok 1 rows columns) → board_tested edgeless rows columns row column b lent ≡ tested (cells ++ rest)
    whole (inl size) = rw (measured size, and-true, board_cells_in b)
    whole (inr size) = rw size

-- likewise the lists of a deduction, whose tests are else those of its position
pub deduction_later : (rows columns : ℕ) (p : List ℕ) (safe mines : ℕ) → (size_ok 1 rows columns ≡ true → (room_ok rows columns safe && room_ok rows columns mines) ≡ true)
    → deduction_tested rows columns p safe mines ≡ position_tested rows columns p
unfolding deduction_tested position_tested
deduction_later rows columns p safe mines measured = go (decided (size_ok 1 rows columns))
  where
    go : Decided (size_ok 1 rows columns) → deduction_tested rows columns p safe mines ≡ position_tested rows columns p
    go (inl size) = rw (measured size, and-true)
    go (inr size) = rw size
