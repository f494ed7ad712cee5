-- `verdict_by_mark` meets its contract, mark by mark: each is judged by the call that the definition has for it. Assumes nothing.
use borrow.Author.Rules.{rules}
use Rattle.record_lines.proofs.verdict_by_mark.Goals as goal

pub returns-in-Plain : goal.returns-in-Plain
returns-in-Plain c = rw c.in-Plain.is (rw c.flat.ensures at c.is_solvable.ensures.opened_in_after)

pub returns-in-Total : goal.returns-in-Total
returns-in-Total c = rw c.in-Total.is c.is_solvable_total.ensures.opened_in_after
