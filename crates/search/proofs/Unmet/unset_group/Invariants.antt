use lib.ListN.{drop}
use Rattle.search.proofs.Lowering.{Raising}
use Rattle.search.proofs.Unmet.unset_group.Given as goal

abbrev pub invariant-loop-place : goal.invariant-loop-place
invariant-loop-place l = record {
  needs : Raising l.v l.place-items l.initial.self.needs l.self.needs l.place-index (drop l.place-index l.place-items);
  rooms : Raising l.size l.place-items l.initial.self.rooms l.self.rooms l.place-index (drop l.place-index l.place-items);
}
