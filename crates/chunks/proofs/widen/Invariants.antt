-- The loop's invariant, for each list of which the marks were those at the start: the marks are those of a list at which the equations from place e on are
-- still to look, and without a new mark it is the list at the start.
use mathlib.Core.Path.{◌≡◌}
use mathlib.Core.List.{List}
use Prim.Native.Nat.{ℕ}
use lib.ListN.{length}
use Rattle.blocks.specs.Places.{Marks, equations_from, equations_between}
use Rattle.chunks.specs.Chunks.{widened}
use Rattle.chunks.proofs.Marking.{Towards}
use Rattle.chunks.proofs.widen.Given as goal

abbrev pub invariant-loop-e : goal.invariant-loop-e
invariant-loop-e loop =
    (length loop.marks ≡ 1024)
    × ((l : List ℕ) → Marks loop.initial.marks l → Towards (widened (equations_from loop.set.slots loop.set.rests loop.e loop.fn.bounds.end_equation)) (widened (equations_between loop.set loop.fn.bounds) l) l loop.marks loop.new)
