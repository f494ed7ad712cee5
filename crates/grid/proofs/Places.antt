-- The row and the column of a cell's number, as a loop over the numbers finds them by dividing: they are on the board, and give the number back
-- by `div-add-mod'`. Assumes nothing.
use Prim.Native.Nat.{ℕ, zero, suc, ◌*◌, ◌/◌, ◌%◌, ◌≤◌, ◌<◌}
use native.Mathlib.Nat.{div-lt_iff_lt-mul, mod-lt, mul-le-mul}
use native.Mathlib.Omega.{arith}
use Rattle.grid.specs.Window.{Sized, On}

-- sides of at most 32 have at most 1024 cells
pub few_cells : {rows columns : ℕ} → Sized rows columns → rows * columns ≤ 1024
few_cells s = mul-le-mul s.few_rows s.few_columns

-- a board that has a cell has a column
pub some_column : (rows columns c : ℕ) → c < rows * columns → 0 < columns
some_column rows zero c h = absurd (omega arith)
some_column rows (suc n) c h = omega arith

pub place_on : (rows columns c : ℕ) → c < rows * columns → On rows columns (c / columns) (c % columns)
place_on rows columns c h =
    let p = some_column rows columns c h in
    record { in_rows = (div-lt_iff_lt-mul p).1 h; in_columns = mod-lt c p }
