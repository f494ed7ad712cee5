use Rattle.lists.specs.Lists.{any, range}
use Rattle.patterns.specs.Shapes.{shapes, found_at}
use Rattle.patterns.specs.Walk.{laid_at}
use Rattle.patterns.proofs.ListTests.{AnyLeft}
use Rattle.patterns.proofs.table.Framed.found_anywhere.Given as goal

abbrev pub invariant-loop-row : goal.invariant-loop-row
invariant-loop-row l =
    AnyLeft (λ i. any (λ j. found_at (laid_at l.self.rows l.self.columns l.self.cells.now) i j shapes) (range 0 l.self.columns)) l.self.rows l.row
