use Prim.Native.Nat.{ℕ}
use mathlib.Core.Path.{◌≡◌}
use mathlib.Core.Bool.{Bool, not}
use lib.ListN.{length, take, drop}
use Rattle.lists.specs.Lists.{has}
use Rattle.grid.specs.declared.window.UpToEight.{UpToEight}
use Rattle.marks.proofs.MarkedCells.{marked_with}
use Rattle.subtraction.proofs.own.mark_own.Given as goal

-- a list lacks a cell
abbrev pub lacks : UpToEight → ℕ → Bool
lacks other c = not (has (take other.len other.cells) c)

abbrev pub invariant-loop-cell : goal.invariant-loop-cell
invariant-loop-cell l =
    (length l.marks ≡ 1024)
    × ((d : ℕ) → marked_with (lacks l.other) l.marks (drop l.cell-index l.cell-items) d ≡ marked_with (lacks l.other) l.initial.marks l.cell-items d)
