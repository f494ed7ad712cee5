use mathlib.Core.Path.{◌≡◌}
use mathlib.Core.Bool.{true}
use Prim.Native.Nat.{◌≤◌}
use lib.ListN.{length}
use Rattle.lists.specs.Lists.{every}
use Rattle.verdict.proofs.CellByCell.{mine_or_open}
use Rattle.verdict.proofs.passes.all_open.Given as goal

abbrev pub invariant-loop-i : goal.invariant-loop-i
invariant-loop-i l = (l.i ≤ length l.board) × (every l.i (mine_or_open l.board l.position) ≡ true)
