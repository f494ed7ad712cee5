use Prim.Native.Nat.{◌-◌, ◌≤◌}
use lib.ListN.{length}
use Rattle.patterns.proofs.TableWalk.{Answers}
use Rattle.patterns.proofs.table.Framed.found_at.Given as goal

abbrev pub invariant-loop-k : goal.invariant-loop-k
invariant-loop-k l = Answers l.self.rows l.self.columns l.self.cells.now l.row l.column l.table l.k × (l.k ≤ length l.table)

abbrev pub decreases-loop-k : goal.decreases-loop-k
decreases-loop-k l = length l.table - l.k
