use mathlib.Core.Path.{◌≡◌}
use mathlib.Core.Bool.{true}
use Prim.Native.Nat.{◌≤◌}
use lib.ListN.{length}
use Rattle.lists.specs.Lists.{every}
use Rattle.grid.specs.Window.{neighbours_on}
use Rattle.refusals.proofs.Numbers.{number_ok}
use Rattle.refusals.proofs.numbers_ok.Given as goal

abbrev pub invariant-loop-cell : goal.invariant-loop-cell
invariant-loop-cell l = (l.cell ≤ length l.cells) × (every l.cell (number_ok (neighbours_on l.size) l.cells) ≡ true)
