use mathlib.Core.Path.{◌≡◌}
use lib.ListN.{length, take, drop}
use lib.Seq.{sets}
use Rattle.rows.proofs.write_row.Given as goal

abbrev pub invariant-loop-g : goal.invariant-loop-g
invariant-loop-g l = (length l.table ≡ length l.initial.table) × (sets l.table l.g (drop l.g (take l.groups l.values)) ≡ sets l.initial.table 0 (take l.groups l.values))
