use Rattle.run.proofs.Underway.{Underway, left}
use Rattle.run.proofs.answer_part.Given as goal

abbrev pub invariant-loop-part : goal.invariant-loop-part
invariant-loop-part l = Underway l.input l.ended l.number l.initial.out l.out l.part

abbrev pub decreases-loop-part : goal.decreases-loop-part
decreases-loop-part l = left l.out l.part
