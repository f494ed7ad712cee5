-- The loop's invariant: the blocks put so far, with those of the set's first b blocks split anew, are all of them split anew.
use lib.ListN.{take}
use Rattle.blocks.specs.BlockSets.{blocks_of}
use Rattle.blocks.proofs.Behind.{Growing}
use Rattle.chunks.specs.Chunks.{chunk_matrixes}
use Rattle.chunks.proofs.chunk_matrixes.Given as goal

abbrev pub invariant-loop-b : goal.invariant-loop-b
invariant-loop-b l = Growing (chunk_matrixes (blocks_of l.set)) l.out (chunk_matrixes (take l.b (blocks_of l.set)))
