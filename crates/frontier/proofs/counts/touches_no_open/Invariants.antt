use mathlib.Core.Path.{◌≡◌}
use lib.ListN.{drop}
use Rattle.lists.specs.Lists.{any}
use Rattle.frontier.proofs.CountTurns.{is_open}
use Rattle.frontier.proofs.counts.touches_no_open.Given as goal

abbrev pub invariant-loop-neighbour : goal.invariant-loop-neighbour
invariant-loop-neighbour l =
    any (is_open l.position) (drop l.neighbour-index l.neighbour-items) ≡ any (is_open l.position) l.neighbour-items
