-- The loop's invariant: the columns are those in the equations before e.
use Prim.Native.Nat.{◌-◌}
use Rattle.groups.specs.Combining.{ColumnsAre, column_in}
use Rattle.groups.proofs.fill_columns.Given as goal

abbrev pub invariant-loop-e : goal.invariant-loop-e
invariant-loop-e l = ColumnsAre l.columns (column_in l.set.slots l.first (l.e - l.first))
