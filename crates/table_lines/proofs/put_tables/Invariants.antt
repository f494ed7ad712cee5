use Prim.Native.Nat.{◌-◌}
use mathlib.Core.List.{map}
use Rattle.lists.specs.Lists.{range, joined}
use Rattle.text.specs.Text.{Wrote}
use Rattle.table_lines.specs.Tables.{block_table}
use Rattle.table_lines.proofs.put_tables.Given as goal

abbrev pub invariant-loop-k : goal.invariant-loop-k
invariant-loop-k l = Wrote l.initial.out l.out (joined (map (block_table l.rows l.columns l.position) (range 0 (l.k - 0))))
