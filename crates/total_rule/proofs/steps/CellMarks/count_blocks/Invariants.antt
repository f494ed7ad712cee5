use Rattle.total_rule.proofs.CountedBlocks.{CountedTo}
use Rattle.total_rule.proofs.steps.CellMarks.count_blocks.Given as goal

abbrev pub invariant-loop-b : goal.invariant-loop-b
invariant-loop-b l = CountedTo l.set l.initial.self l.counts l.self l.met l.b
