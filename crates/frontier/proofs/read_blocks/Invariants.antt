use mathlib.Core.Path.{◌≡◌}
use lib.ListN.{length}
use Rattle.frontier.proofs.BlocksSoFar.{BlocksSoFar}
use Rattle.frontier.proofs.read_blocks.Given as goal

abbrev pub invariant-loop-left : goal.invariant-loop-left
invariant-loop-left l =
    BlocksSoFar l.size.edgeless l.size.rows l.size.columns l.position l.beside l.left.cells l.left.len l.places l.set l.k l.e
    × (length l.found.cells ≡ 1024)

abbrev pub decreases-loop-left : goal.decreases-loop-left
decreases-loop-left l = l.left.len
