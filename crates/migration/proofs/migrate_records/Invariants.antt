use mathlib.Core.Path.{sym, ◌∙◌}
use Prim.Native.Nat.{◌-◌}
use native.Mathlib.Omega.{arith}
use lib.ListN.{length}
use Rattle.migration.specs.Steps.{Carried}
use Rattle.migration.proofs.CarriedRecords.{carried_none, carried_next, carried_further, sum_few}
use borrow.Author.Rules.{rules}
use Rattle.migration.proofs.migrate_records.Given as goal

abbrev pub invariant-loop-input : goal.invariant-loop-input
invariant-loop-input l = Carried l.initial.input l.counts l.input

abbrev pub decreases-loop-input : goal.decreases-loop-input
decreases-loop-input l = length l.initial.input - l.counts.bytes
