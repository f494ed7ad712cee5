use lib.ListN.{drop}
use Rattle.blocks.specs.BlockSets.{blocks_of}
use Rattle.enumeration.proofs.ListedBlocks.{ListedSoFar}
use Rattle.enumeration.proofs.enumerate.enumerate_rule.Given as goal

abbrev pub invariant-loop-b : goal.invariant-loop-b
invariant-loop-b l = ListedSoFar (blocks_of l.set) l.lists (drop l.b (blocks_of l.set))
