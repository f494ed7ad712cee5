use lib.ListN.{get_or, take}
use Rattle.total_rule.specs.Cells.{Told}
use Rattle.total_rule.proofs.cells.tell_cells.Given as goal

abbrev pub invariant-loop-cell : goal.invariant-loop-cell
invariant-loop-cell l = Told (take l.cell-index l.cells) (λ c. get_or l.by_group (get_or l.group_of c 0) 0) l.initial.told l.told
