use lib.ListN.{drop}
use Rattle.search.proofs.Lowering.{Lowering}
use Rattle.search.proofs.Unmet.set_group.Given as goal

abbrev pub invariant-loop-place : goal.invariant-loop-place
invariant-loop-place l = record {
  needs : Lowering l.v l.place-items l.initial.self.needs l.self.needs (drop l.place-index l.place-items);
  rooms : Lowering l.size l.place-items l.initial.self.rooms l.self.rooms (drop l.place-index l.place-items);
}
