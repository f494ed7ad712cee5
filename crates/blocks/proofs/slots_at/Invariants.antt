-- The loop's invariant: the slots passed are cells, the list has them, and with what comes before the filler in the other slots they are the equation's cells.
use Rattle.blocks.proofs.Turns.{Passed}
use Rattle.blocks.proofs.slots_at.Given as goal

abbrev pub invariant-loop-cell : goal.invariant-loop-cell
invariant-loop-cell l = Passed l.cell-items l.list l.cell-index
