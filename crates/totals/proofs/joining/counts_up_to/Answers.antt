-- `totals::joining::counts_up_to` meets its contract. Rests on the laws of joined sets. Assumes nothing.
use Rattle.totals.proofs.JoinedSets.{free_alone}
use Rattle.totals.proofs.joining.counts_up_to.Goals as goal

pub returns : goal.returns
returns c = free_alone c.args.k c.requires (c.fill.ensures.after (λ y e. e))
