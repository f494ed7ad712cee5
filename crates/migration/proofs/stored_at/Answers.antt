-- `stored_at` meets its contract: the test is lent what is left of the input. Assumes nothing.
use Rattle.lists.proofs.LentParts.{part_is}
use borrow.Author.Rules.{rules}
use Rattle.migration.proofs.stored_at.Goals as goal

pub returns : goal.returns
returns c =
    let a = c.args in
    rw (part_is a.input.now a.at) at c.is_stored.ensures
