use Prim.Native.Nat.{◌-◌}
use Rattle.rows.proofs.WrittenRows.{TriedRows}
use Rattle.rows.proofs.+put_rows.Given as goal

abbrev pub decreases-put_rows : goal.decreases-put_rows
decreases-put_rows l = l.grouped.now.groups - l.at

abbrev pub invariant-loop-v : goal.invariant-loop-v
invariant-loop-v l = TriedRows l.order l.grouped.groups l.grouped.sizes l.grouped.columns l.at l.v l.initial.unmet l.unmet l.initial.values l.values l.initial.table l.table l.row l.next
