-- The loop's invariant: the arrays have what each equation before e needs and how many cells it has.
use mathlib.Core.Path.{◌≡◌}
use mathlib.Core.List.{map}
use Rattle.lists.specs.Lists.{pad}
use Rattle.blocks.specs.Places.{equations_from}
use Rattle.groups.proofs.PassedEquations.{need_of, room_of}
use Rattle.groups.proofs.fill_needs.Given as goal

abbrev pub invariant-loop-e : goal.invariant-loop-e
invariant-loop-e l =
    (l.needs ≡ pad 1024 0 (map need_of (equations_from l.set.slots l.set.rests l.first l.e)))
    × (l.rooms ≡ pad 1024 0 (map room_of (equations_from l.set.slots l.set.rests l.first l.e)))
