-- `totals::joining::allowed_counts` meets its contract: a set turned round. Rests on the laws of joined sets. Assumes nothing.
use borrow.Author.Rules.{rules}
use Rattle.totals.proofs.JoinedSets.{turned_round}
use Rattle.totals.proofs.joining.allowed_counts.Goals as goal

pub returns : goal.returns
returns c = turned_round c.args.sums.now c.args.rest c.requires (search rules) c.copy_from_slice.ensures.after c.reverse.ensures.after
