use Rattle.verdict.proofs.PassesOnBoard.{OnBoard}
use Rattle.verdict.proofs.passes.run_passes.Given as goal

abbrev pub invariant-loop-k : goal.invariant-loop-k
invariant-loop-k l =
    OnBoard l.shows_total l.size.edgeless l.size.rows l.size.columns l.board l.initial.position l.k l.position l.grade l.rounds l.opened_in
