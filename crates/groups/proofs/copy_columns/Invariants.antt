-- The loop's invariant: storing the columns of the first cells still to come, from place g on, gives what storing all gives.
use lib.ListN.{drop}
use Rattle.lists.specs.Lists.{pad}
use Rattle.lists.proofs.Storing.{Storing}
use Rattle.blocks.specs.BlockSets.{slot_cells}
use Rattle.groups.proofs.copy_columns.Given as goal

abbrev pub invariant-loop-g : goal.invariant-loop-g
invariant-loop-g l = Storing 8192 8 (λ c. pad 8 65535 (slot_cells l.columns c)) l.initial.out 0 l.firsts l.out l.g (drop l.g l.firsts)
