use mathlib.Core.List.{map}
use Prim.Native.Nat.{◌*◌}
use lib.ListN.{drop, replicate}
use lib.Seq.{sets}
use Rattle.lists.specs.Lists.{joined}
use Rattle.grid.specs.Window.{neighbours_on}
use Rattle.sources.specs.Equations.{rest_at}
use Rattle.sources.proofs.Written.{Written}
use Rattle.sources.proofs.PlainReading.{slots_beside}
use Rattle.sources.proofs.equations.read_equations.Given as goal

abbrev pub invariant-loop-i : goal.invariant-loop-i
invariant-loop-i l =
    Written (slots_beside l.beside) (rest_at (neighbours_on l.size) l.position)
    (sets (replicate 8192 65535) (0 * 8) (joined (map (slots_beside l.beside) l.source-items)))
    (sets (replicate 1024 0) 0 (map (rest_at (neighbours_on l.size) l.position) l.source-items))
    (drop l.i l.source-items) l.i l.slots l.rests
