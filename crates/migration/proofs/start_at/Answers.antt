-- `start_at` meets its contract: a cell on the board has columns to be divided by, and a row and a column that are bytes. Assumes nothing.
use mathlib.Core.Path.{refl}
use Prim.Native.Nat.{◌*◌, ◌<◌}
use native.Mathlib.Omega.{arith}
use lib.ListN.{get_or}
use Rattle.migration.proofs.MigratedRecords.{some_columns, row_below, column_below}
use borrow.Author.Rules.{rules}
use Rattle.migration.proofs.start_at.Goals as goal
use Rattle.migration.proofs.start_at.Goals.{After-from-columns}

-- the cell is on the board, by the columns as they are read
on_board : (c : After-from-columns)
    → c.args.cell < get_or c.args.stored.now 2 0 * c.from-columns.result
on_board c = rw c.from-columns.ensures c.requires.1

pub overflow_cast-row : goal.overflow_cast-row
overflow_cast-row c = omega (arith, row_below _ _ _ (on_board c), c.slice_known-1.given 2)

pub overflow_cast-column : goal.overflow_cast-column
overflow_cast-column c = omega (arith, column_below _ _ _ (on_board c), c.from-columns.ensures, c.slice_known-1.given 3)

pub returns : goal.returns
returns c = rw c.from-columns.ensures refl
