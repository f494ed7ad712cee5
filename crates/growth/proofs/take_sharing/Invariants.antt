use Prim.Native.Nat.{◌+◌, ◌≤◌}
use mathlib.Core.Path.{◌≡◌}
use Rattle.sources.specs.Reading.{sources_in, slots_meet}
use Rattle.growth.proofs.Removals.{Scanned}
use Rattle.growth.proofs.take_sharing.Given as goal

abbrev pub invariant-loop-t : goal.invariant-loop-t
invariant-loop-t l =
    (1 ≤ l.t) × (l.t ≤ l.left.len) × (l.left.len + l.found.len ≡ l.initial.left.len + l.initial.found.len)
    × Scanned (slots_meet l.beside l.c) (sources_in l.initial.left) (sources_in l.initial.found) l.t l.left.cells l.left.len l.found.cells l.found.len

abbrev pub decreases-loop-t : goal.decreases-loop-t
decreases-loop-t l = l.t
