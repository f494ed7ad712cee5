-- The loop's invariant: the cells passed, and the first place among those still to come, are the first place among all.
use Prim.Native.Nat.{◌+◌}
use mathlib.Core.Path.{◌≡◌}
use lib.ListN.{drop}
use Rattle.lists.specs.Lists.{first_place}
use Rattle.groups.specs.Combining.{alike_by}
use Rattle.groups.proofs.first_alike.Given as goal

abbrev pub invariant-loop-g : goal.invariant-loop-g
invariant-loop-g l = l.g + first_place (alike_by l.columns l.cell) (drop l.g l.firsts) ≡ first_place (alike_by l.columns l.cell) l.firsts
