use lib.ListN.{drop}
use Rattle.blocks.specs.BlockSets.{blocks_of}
use Rattle.blocks.proofs.Behind.{Growing}
use Rattle.marks.specs.Marked.{left_blocks}
use Rattle.marks.proofs.left.left_blocks.Given as goal

abbrev pub invariant-loop-b : goal.invariant-loop-b
invariant-loop-b l =
    Growing (left_blocks l.known.subtracted l.known.mines l.known.cells (blocks_of l.set)) l.out (left_blocks l.known.subtracted l.known.mines l.known.cells (drop l.b (blocks_of l.set)))
