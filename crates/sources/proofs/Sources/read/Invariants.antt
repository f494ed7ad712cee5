use Prim.Native.Nat.{◌*◌, ◌≤◌}
use Rattle.sources.specs.Reading.{SourcesRead}
use Rattle.sources.proofs.Sources.read.Given as goal

abbrev pub invariant-loop-row : goal.invariant-loop-row
invariant-loop-row l = (l.row ≤ l.size.rows) × SourcesRead l.size l.position (l.row * l.size.columns) l.self
