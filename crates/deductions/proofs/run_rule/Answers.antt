-- `run_rule` meets its contract: each rule on blocks is what the definition says of it. Assumes nothing.
use borrow.Author.Rules.{rules}
use Rattle.deductions.proofs.run_rule.Goals as goal

pub returns-in-Direct : goal.returns-in-Direct
returns-in-Direct c = rw c.in-Direct.is c.direct_rule.ensures

pub returns-in-Minus : goal.returns-in-Minus
returns-in-Minus c = rw c.in-Minus.is c.minus_rule.ensures

pub returns-in-Enumerate : goal.returns-in-Enumerate
returns-in-Enumerate c = rw c.in-Enumerate.is c.enumerate_rule.ensures
