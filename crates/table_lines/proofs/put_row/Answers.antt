-- `put_row` meets its contract: the part of the table that is printed is the row. Assumes nothing.
use mathlib.Core.Path.{◌≡◌}
use Prim.Native.Nat.{◌+◌, ◌-◌, ◌*◌}
use native.Mathlib.Omega.{arith}
use Rattle.table_lines.proofs.put_row.Goals as goal

pub returns : goal.returns
returns c =
    let a = c.args in
    let e : a.i * a.groups + a.groups - a.i * a.groups ≡ a.groups = omega arith in
    rw e at c.put_cells.ensures
