use Prim.Native.Nat.{◌+◌, ◌*◌, ◌≤◌}
use Rattle.sources.specs.Reading.{SourcesRead}
use Rattle.sources.proofs.Sources.read_row.Given as goal

abbrev pub invariant-loop-column : goal.invariant-loop-column
invariant-loop-column l =
    (l.column ≤ l.size.columns) × SourcesRead l.size l.position (l.row * l.size.columns + l.column) l.self
