use Rattle.verdict.proofs.CellByCell.{Showing}
use Rattle.verdict.proofs.show_open.Given as goal

abbrev pub invariant-loop-i : goal.invariant-loop-i
invariant-loop-i l = Showing l.position l.picture l.i l.opened
