use Prim.Native.Nat.{ℕ, ◌+◌}
use mathlib.Core.List.{List}
use lib.ListN.{take}
use Rattle.grid.specs.Window.{neighbours_on}
use Rattle.fitting.proofs.Steps.{closed}
use Rattle.flood.specs.Stack.{Room}
use Rattle.flood.proofs.SoFar.{SoFar}
use Rattle.flood.proofs.Waiting.{waiting}
use Rattle.flood.proofs.refresh_board.Given as goal

abbrev pub invariant-loop-cell : goal.invariant-loop-cell
invariant-loop-cell l =
    Room l.board l.position l.stack l.n
    × ((p cs : List ℕ) → SoFar (neighbours_on l.size) l.board p cs l.initial.position (waiting (neighbours_on l.size) l.board (take l.initial.n l.initial.stack))
    → SoFar (neighbours_on l.size) l.board p cs l.position (waiting (neighbours_on l.size) l.board (take l.n l.stack)))

abbrev pub decreases-loop-cell : goal.decreases-loop-cell
decreases-loop-cell l = l.n + closed l.position
