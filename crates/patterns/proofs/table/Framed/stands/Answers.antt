-- `stands` meets its contract: each return is a place's law, with the tests on the way. Assumes nothing.
use native.Mathlib.Omega.{arith}
use Rattle.patterns.proofs.Places.{beyond_rows, beyond_columns, at_top, past_rows, at_left, past_columns, in_rows}
use Rattle.patterns.proofs.table.Framed.stands.Goals as goal
use Rattle.patterns.proofs.table.Framed.stands.Goals.{then-self-row-via-then-self-row, then-self-row-via-else-self-row+then-self-column}
use Rattle.patterns.proofs.table.Framed.stands.Goals.{then-row-eq0-via-then-row-eq0, then-row-eq0-via-else-row-eq0+then-row-gt32, then-row-eq0-via-else-row-eq0+else-row-gt32+then-column-eq0, then-row-eq0-via-else-row-eq0+else-row-gt32+else-column-eq0+then-column-gt32}

pub returns-then-self-row : goal.returns-then-self-row
returns-then-self-row c = elim c.then-self-row.branch [
  | then-self-row-via-then-self-row w ↦ beyond_rows _ _ _ _ _ w.if-self-row.true
  | then-self-row-via-else-self-row+then-self-column w ↦ beyond_columns _ _ _ _ _ (omega arith) w.if-self-column.true
]

pub returns-then-row-eq0 : goal.returns-then-row-eq0
returns-then-row-eq0 c = elim c.then-row-eq0.branch [
  | then-row-eq0-via-then-row-eq0 w ↦ at_top _ _ _ _ _ (omega arith) (omega arith) w.if-row-eq0.true
  | then-row-eq0-via-else-row-eq0+then-row-gt32 w ↦ past_rows _ _ _ _ _ (omega arith) (omega arith) w.if-row-gt32.true
  | then-row-eq0-via-else-row-eq0+else-row-gt32+then-column-eq0 w ↦ at_left _ _ _ _ _ (omega arith) (omega arith) w.if-column-eq0.true
  | then-row-eq0-via-else-row-eq0+else-row-gt32+else-column-eq0+then-column-gt32 w ↦ past_columns _ _ _ _ _ (omega arith) (omega arith) w.if-column-gt32.true
]

pub returns : goal.returns
returns c = in_rows _ _ _ _ _ (omega arith) (omega arith) (omega arith) (omega arith) (omega arith) (omega arith)
