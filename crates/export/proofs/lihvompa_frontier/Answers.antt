-- `export::lihvompa_frontier` meets its contract: a refusal of refresh_matrixs is its number; else its three counts are stored one after another. Rests on
-- `Returning`. Assumes nothing.
use Rattle.std.specs.Prelude.{Result}
use mathlib.Core.Path.{ap, ◌∙◌}
use Rattle.refusals.specs.declared.Refusal.{Refusal}
use Rattle.frontier.specs.declared.FrontierAnswer.{FrontierAnswer}
use Rattle.export.specs.Returned.{frontier_returned}
use Rattle.export.proofs.Returning.{refusal_returned, acceptance_returned}
use Rattle.export.proofs.lihvompa_frontier.Goals as goal

pub returns-in-Err : goal.returns-in-Err
unfolding frontier_returned
returns-in-Err c =
    let counts = c.args.counts.now in
    refusal_returned _ counts c.in-Err.is c.from.ensures ∙ ap (λ (a : Result FrontierAnswer Refusal). frontier_returned a counts) (rw c.flat.ensures at c.refresh_matrixs.ensures)

pub returns-in-Ok : goal.returns-in-Ok
unfolding frontier_returned
returns-in-Ok c =
    let counts = c.args.counts.now in
    acceptance_returned _ counts c.in-Ok.is c.put_counts.ensures ∙ ap (λ (a : Result FrontierAnswer Refusal). frontier_returned a counts) (rw c.flat.ensures at c.refresh_matrixs.ensures)
