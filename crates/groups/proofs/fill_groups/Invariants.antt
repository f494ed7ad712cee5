-- The loop's invariant: the arrays have the groups of the cells passed.
use lib.ListN.{take}
use Rattle.groups.specs.Combining.{alike_by, GroupsAre}
use Rattle.groups.proofs.fill_groups.Given as goal

abbrev pub invariant-loop-cell : goal.invariant-loop-cell
invariant-loop-cell l = GroupsAre (alike_by l.columns) (take l.cell-index l.cells) l.n l.firsts l.sizes l.group_of
