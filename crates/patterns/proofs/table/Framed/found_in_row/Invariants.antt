use Rattle.patterns.specs.Shapes.{shapes, found_at}
use Rattle.patterns.specs.Walk.{laid_at}
use Rattle.patterns.proofs.ListTests.{AnyLeft}
use Rattle.patterns.proofs.table.Framed.found_in_row.Given as goal

abbrev pub invariant-loop-column : goal.invariant-loop-column
invariant-loop-column l = AnyLeft (λ j. found_at (laid_at l.self.rows l.self.columns l.self.cells.now) l.row j shapes) l.self.columns l.column
