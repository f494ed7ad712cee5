-- `is_stored` meets its contract: fewer bytes than a head are no record, nor are bytes with another mark, and else the record's length decides. Assumes nothing.
use mathlib.Core.Path.{sym, ◌∙◌}
use Rattle.migration.proofs.Fronts.{no_head, marked_stored, unmarked}
use Rattle.migration.proofs.is_stored.Goals as goal

pub returns-then-input-lt6 : goal.returns-then-input-lt6
returns-then-input-lt6 c = sym (no_head _ c.if-input-lt6.true)

pub returns-then-is_mark : goal.returns-then-is_mark
returns-then-is_mark c = rw c.record_length.ensures.value (sym (marked_stored _ (sym c.is_mark.ensures ∙ c.if-is_mark.true)))

pub returns-else-is_mark : goal.returns-else-is_mark
returns-else-is_mark c = c.if-is_mark.false ∙ sym (unmarked _ (sym c.is_mark.ensures ∙ c.if-is_mark.false))
