-- The loop's invariant: the cells passed have the equation's place behind their columns, and every other column is as it was.
use lib.ListN.{take}
use Rattle.groups.specs.Combining.{ColumnsAre, column_with}
use Rattle.groups.proofs.push_equation.Given as goal

abbrev pub invariant-loop-cell : goal.invariant-loop-cell
invariant-loop-cell l = ColumnsAre l.columns (column_with l.initial.columns (take l.cell-index l.cell-items) l.place)
