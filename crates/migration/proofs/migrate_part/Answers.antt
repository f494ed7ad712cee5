-- `migrate_part` meets its contract: each way through it is a law of what a part of the input becomes. Assumes nothing.
use mathlib.Core.Path.{refl, sym, ◌∙◌}
use native.Mathlib.Omega.{arith}
use Rattle.migration.proofs.MigratedParts.{all_copied, all_progress, part_waits, waits_progress, part_copied, copied_progress}
use borrow.Author.Rules.{rules}
use Rattle.migration.proofs.migrate_part.Goals as goal

pub returns-then-copying : goal.returns-then-copying
returns-then-copying c =
    let none = c.no_counts.ensures in
    let a = c.args in record { migrates = rw c.if-copying.true (all_copied _ _ _ none); progress = all_progress a.ended a.input.now _ none; input_len_unchanged = refl }

pub returns-then-waits_at : goal.returns-then-waits_at
returns-then-waits_at c =
    let told = c.migrate_records-counts.ensures in
    let waits = sym c.waits_at.ensures ∙ c.if-waits_at.true in record { migrates = rw c.if-copying.false (part_waits _ _ _ _ told.carried told.input_value waits); progress = waits_progress c.args.ended _ _ _ told.carried told.input_value waits (λ i. omega (arith, c.slice_known-1.given i)); input_len_unchanged = told.carried.same_long }

pub returns : goal.returns
returns c =
    let told = c.migrate_records-counts.ensures in
    let copied = sym c.waits_at.ensures ∙ c.if-waits_at.false in record { migrates = rw c.if-copying.false (part_copied _ _ _ _ told.carried told.input_value copied); progress = copied_progress c.args.ended _ _ _ told.carried told.input_value copied; input_len_unchanged = told.carried.same_long }
