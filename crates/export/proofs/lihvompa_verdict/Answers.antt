-- `export::lihvompa_verdict` meets its contract: the number and the counts are those of the answer of `is_solvable`. Demand 3 is that of `is_solvable`, of the first two
-- counts. Rests on `Returning` and `CountedVerdict`. Assumes nothing.
use Rattle.export.proofs.Returning.{verdict_returned_lem}
use Rattle.export.proofs.CountedVerdict.{counted_demand_3}
use borrow.Author.Rules.{rules}
use Rattle.export.proofs.lihvompa_verdict.Goals as goal

pub returns : goal.returns
returns c =
    let counts = c.args.counts.now in
    let call = rw c.flat.ensures at c.is_solvable-verdict.ensures in
    record { counts_after = verdict_returned_lem counts call.opened_in_after c.put_verdict.ensures.0 c.put_verdict.ensures.1; demand3 = λ accepted room. counted_demand_3 counts c.is_solvable-verdict.result (call.meets_demand3 accepted) c.put_verdict.ensures.1 room }
