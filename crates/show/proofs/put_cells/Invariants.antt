use mathlib.Core.List.{map}
use lib.ListN.{take}
use Rattle.lists.specs.Lists.{joined}
use Rattle.text.specs.Text.{Wrote}
use Rattle.show.specs.Cells.{marked_text}
use Rattle.show.proofs.put_cells.Given as goal

abbrev pub invariant-loop-cell : goal.invariant-loop-cell
invariant-loop-cell l = Wrote l.initial.out l.out (joined (map (marked_text 32) (take l.cell-index l.cells)))
