use Prim.Native.Nat.{◌≤◌}
use Rattle.patterns.proofs.FilledRows.{Filled}
use Rattle.patterns.proofs.lay.Given as goal

abbrev pub invariant-loop-column : goal.invariant-loop-column
invariant-loop-column l = Filled l.rows l.columns l.cells l.row l.column l.board × (l.column ≤ l.columns)

abbrev pub invariant-loop-row : goal.invariant-loop-row
invariant-loop-row l = Filled l.rows l.columns l.cells l.row 0 l.board × (l.row ≤ l.rows)
