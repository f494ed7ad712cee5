use Rattle.lists.proofs.Loops.{AllLeft}
use Rattle.refusals.specs.Tests.{length_ok}
use Rattle.refusals.proofs.lengths_ok.Given as goal

abbrev pub invariant-loop-length : goal.invariant-loop-length
invariant-loop-length l = AllLeft (length_ok l.size.rows l.size.columns) l.lent l.length-index
