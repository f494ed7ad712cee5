-- `migrate_records` meets its contract: the loop's invariant is that the records counted are carried over, and the measure is what is left of the input. Assumes nothing.
use mathlib.Core.Path.{◌≡◌, sym, ◌∙◌}
use Prim.Native.Nat.{◌-◌}
use native.Mathlib.Omega.{arith}
use lib.ListN.{length}
use Rattle.migration.specs.Parts.{counts_sum}
use Rattle.migration.specs.Steps.{Carried}
use Rattle.migration.proofs.CarriedRecords.{carried_none, carried_next, carried_further, sum_few, sums_exact}
use borrow.Author.Rules.{rules}
use Rattle.migration.proofs.migrate_records.Goals as goal
use Rattle.migration.proofs.migrate_records.Goals.{After-counts_after-counts}

pub loop-input-init : goal.loop-input-init
loop-input-init c = carried_none _ _ c.no_counts-counts.ensures

pub stored_at-requires : goal.stored_at-requires
stored_at-requires c = omega (arith, c.loop-input.invariant.within, c.loop-input.invariant.same_long)

pub migrate_at-one-requires : goal.migrate_at-one-requires
migrate_at-one-requires c =
    let sofar = c.loop-input.invariant in
    (omega (arith, sofar.within, sofar.same_long), sym c.stored_at.ensures ∙ c.loop-input-test.true)

-- the sums are exact: no count is larger than the bytes of the input
exact : (c : After-counts_after-counts) → c.counts_after-counts.result ≡ counts_sum c.loop-input.counts c.migrate_at-one.result
exact c =
    let told = c.migrate_at-one.ensures in
    let few = sum_few _ _ _ _ c.loop-input.invariant (sym c.stored_at.ensures ∙ c.loop-input-test.true) told.input_after told.input_unchanged c.input-1.given _ told.value in
    let good = c.well_formed.0.0 in
    c.counts_after-counts.ensures ∙ sums_exact _ _ (omega (arith, few.0, good)) (omega (arith, few.1, good)) (omega (arith, few.2, good))

pub loop-input-smaller : goal.loop-input-smaller
loop-input-smaller c =
    let told = c.migrate_at-one.ensures in
    carried_further _ _ _ _ c.loop-input.invariant (sym c.stored_at.ensures ∙ c.loop-input-test.true) told.input_after told.input_unchanged c.input-1.given _ told.value _
    (exact c)

pub loop-input-preserved : goal.loop-input-preserved
loop-input-preserved c =
    let told = c.migrate_at-one.ensures in
    carried_next _ _ _ _ c.loop-input.invariant (sym c.stored_at.ensures ∙ c.loop-input-test.true) told.input_after told.input_unchanged c.input-1.given _ told.value _
    (exact c)

pub shape_of-input : goal.shape_of-input
shape_of-input c = c.loop-input.invariant.same_long

pub returns : goal.returns
returns c = let sofar = c.loop-input.invariant in record { carried = sofar; input_value = rw sofar.kept at (sym c.stored_at.ensures ∙ c.loop-input-test.false) }
