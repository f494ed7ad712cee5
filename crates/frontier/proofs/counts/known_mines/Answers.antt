-- `known_mines` meets its contract. Assumes nothing.
use Rattle.frontier.specs.Frontier.{known_mines}
use Rattle.frontier.proofs.counts.known_mines.Goals as goal

pub returns : goal.returns
unfolding known_mines
returns c = c.count_showing.ensures
