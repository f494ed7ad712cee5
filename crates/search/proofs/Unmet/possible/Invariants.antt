use Rattle.lists.proofs.Loops.{AllLeft}
use Rattle.search.proofs.Lowering.{takes}
use Rattle.search.proofs.Unmet.possible.Given as goal

abbrev pub invariant-loop-place : goal.invariant-loop-place
invariant-loop-place l = AllLeft (takes l.size l.self.needs l.self.rooms l.v) l.place-items l.place-index
