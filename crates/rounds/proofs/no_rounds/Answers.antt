-- `no_rounds` meets its contract. Rests on GivenRounds. Assumes nothing.
use mathlib.Core.Path.{◌∙◌, sym}
use Rattle.rounds.proofs.GivenRounds.{rounds_none}
use Rattle.rounds.proofs.no_rounds.Goals as goal

pub returns : goal.returns
returns c = c.fill.ensures.after (λ _ e. e) ∙ sym (rounds_none _)
