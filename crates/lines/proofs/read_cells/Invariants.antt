use Prim.Native.Nat.{◌-◌}
use lib.ListN.{length}
use Rattle.lines.specs.Lines.{with_cells, numbers_at}
use Rattle.lines.proofs.CellsSoFar.{CellsSoFar}
use Rattle.lines.proofs.read_cells.Given as goal

abbrev pub invariant-loop-number : goal.invariant-loop-number
invariant-loop-number l = CellsSoFar l.line l.rows l.columns (with_cells l.rows l.columns (numbers_at l.line l.from)) l.cells l.len l.at

abbrev pub decreases-loop-number : goal.decreases-loop-number
decreases-loop-number l = length l.line - l.at
