use Prim.Native.Nat.{◌+◌, ◌-◌, ◌≤◌}
use mathlib.Core.Path.{◌≡◌}
use lib.ListN.{get_or, drop}
use Rattle.sources.specs.Reading.{sources_in, slots_meet, Cells}
use Rattle.growth.specs.Growth.{grown}
use Rattle.growth.proofs.Growing.{Growing}
use Rattle.growth.proofs.grow_block.Given as goal

abbrev pub invariant-loop-h : goal.invariant-loop-h
invariant-loop-h l =
    (1 ≤ l.left.len) × (l.left.len + l.found.len ≡ l.initial.left.len + 1) × Cells l.left.cells l.left.len × Cells l.found.cells l.found.len
    × Growing (slots_meet l.beside) (grown (slots_meet l.beside) (get_or l.initial.left.cells 0 0) (drop 1 (sources_in l.initial.left))) (get_or l.initial.left.cells 0 0)
    (l.initial.left.len - l.h) l.h l.left.cells l.left.len l.found.cells l.found.len

abbrev pub decreases-loop-h : goal.decreases-loop-h
decreases-loop-h l = l.initial.left.len - l.h
