-- `migrate_at` meets its contract: the record is lent as what is left of the input. Assumes nothing.
use mathlib.Core.Path.{◌∙◌}
use Rattle.lists.proofs.LentParts.{part_is, front_back, behind_back}
use borrow.Author.Rules.{rules}
use Rattle.migration.proofs.migrate_at.Goals as goal

pub migrate_record-requires : goal.migrate_record-requires
migrate_record-requires c = rw (part_is c.args.input.now c.args.at) c.requires.1

pub returns : goal.returns
returns c =
    let told = c.migrate_record.ensures in
    let a = c.args in
    let fits = c.requires.0 in record { value = rw (part_is a.input.now a.at) at told.value; input_after = behind_back a.input.now a.at _ fits ∙ (rw (part_is a.input.now a.at) at told.stored_after); input_unchanged = front_back a.input.now a.at c.migrate_record.new.stored fits }
