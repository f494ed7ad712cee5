-- `put_more_rows` meets its contract. The loop's invariant: the rows up to place i are written, from the second on. It rests on the laws of a loop that writes, of the crate
-- text. Assumes nothing.
use Prim.Native.Nat.{ℕ, ◌-◌}
use mathlib.Core.Path.{◌≡◌}
use native.Mathlib.Omega.{arith}
use Rattle.lists.specs.Lists.{range}
use Rattle.lists.proofs.Joined.{joined_map_map}
use Rattle.tables.specs.Tables.{row_at}
use Rattle.text.proofs.Writing.{wrote_place}
use Rattle.table_lines.specs.Tables.{next_row}
use Rattle.table_lines.proofs.TablesWritten.{row_within}
use Rattle.table_lines.proofs.put_more_rows.Goals as goal

pub put_next_row-requires : goal.put_next_row-requires
put_next_row-requires c = row_within c.args.solutions c.args.groups c.loop-i.i _ c.loop-i-test.true c.requires.1

pub loop-i-preserved : goal.loop-i-preserved
loop-i-preserved c =
    wrote_place (λ (j : ℕ). next_row (row_at c.args.groups c.args.table.now j)) 1 c.loop-i.i (omega arith) c.loop-i.invariant c.put_next_row.ensures

pub returns : goal.returns
returns c =
    let a = c.args in
    let e : c.loop-i.i ≡ a.solutions = omega arith in
    rw (← joined_map_map next_row (row_at a.groups a.table.now) (range 1 (a.solutions - 1))) (rw e at c.loop-i.invariant)
