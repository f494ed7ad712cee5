use mathlib.Core.List.{◌∷◌}
use Rattle.totals.specs.Totals.{up_to}
use Rattle.totals.specs.Joining.{counts_but, SumsAre}
use Rattle.totals.proofs.joining.sums_but.Given as goal

abbrev pub invariant-loop-j : goal.invariant-loop-j
invariant-loop-j l = SumsAre l.rest (up_to l.free ∷ counts_but l.counts l.set.cell_ends l.but l.j) l.sums
