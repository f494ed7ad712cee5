use Rattle.total_rule.proofs.ToldCells.{FilledTo}
use Rattle.total_rule.proofs.cells.tell_inside.Given as goal

abbrev pub invariant-loop-mark : goal.invariant-loop-mark
invariant-loop-mark l = FilledTo l.mark-index l.inside l.initial.told l.told
