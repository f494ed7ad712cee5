use Rattle.total_rule.proofs.CountedBlocks.{JoinedTo}
use Rattle.total_rule.proofs.steps.CellMarks.join_blocks.Given as goal

abbrev pub invariant-loop-b : goal.invariant-loop-b
invariant-loop-b l = JoinedTo l.set l.inside l.rest l.initial.self l.self l.met l.b
