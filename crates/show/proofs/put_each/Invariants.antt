use mathlib.Core.List.{map}
use lib.ListN.{take}
use Rattle.lists.specs.Lists.{joined}
use Rattle.text.specs.Text.{Wrote}
use Rattle.show.specs.Cells.{marked_text}
use Rattle.show.proofs.put_each.Given as goal

abbrev pub invariant-loop-number : goal.invariant-loop-number
invariant-loop-number l = Wrote l.initial.out l.out (joined (map (marked_text l.mark) (take l.number-index l.numbers)))
