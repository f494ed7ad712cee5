use Prim.Native.Nat.{◌≤◌}
use lib.ListN.{take}
use Rattle.settling.specs.Settling.{Leaves}
use Rattle.settling.proofs.span_left.Given as goal

abbrev pub invariant-loop-place : goal.invariant-loop-place
invariant-loop-place l = (l.least ≤ 16) × Leaves l.size (take l.place-index l.places) l.unmet.needs l.unmet.rooms l.least l.most
