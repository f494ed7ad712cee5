use mathlib.Core.Path.{◌≡◌}
use lib.ListN.{take}
use Rattle.export.specs.Returned.{laid}
use Rattle.export.proofs.put_counts.Given as goal

abbrev pub invariant-loop-at : goal.invariant-loop-at
invariant-loop-at l = l.counts ≡ laid (take l.at l.values) l.initial.counts
