use Prim.Native.Nat.{ℕ, ◌-◌}
use mathlib.Core.List.{map}
use Rattle.lists.specs.Lists.{range, joined}
use Rattle.tables.specs.Tables.{row_at}
use Rattle.text.specs.Text.{Wrote}
use Rattle.table_lines.specs.Tables.{next_row}
use Rattle.table_lines.proofs.put_more_rows.Given as goal

abbrev pub invariant-loop-i : goal.invariant-loop-i
invariant-loop-i l = Wrote l.initial.out l.out (joined (map (λ (j : ℕ). next_row (row_at l.groups l.table j)) (range 1 (l.i - 1))))
