-- `put_call` meets its contract: each call's line is what the definition says of the call. Assumes nothing.
use Rattle.answers.specs.Calls.{call_line}
use Rattle.answers.proofs.put_call.Goals as goal

pub returns-in-Frontier : goal.returns-in-Frontier
unfolding call_line
returns-in-Frontier c = rw c.in-Frontier.is c.frontier_line.ensures

pub returns-in-Direct : goal.returns-in-Direct
unfolding call_line
returns-in-Direct c = rw c.in-Direct.is c.deduction_line.ensures

pub returns-in-Minus : goal.returns-in-Minus
unfolding call_line
returns-in-Minus c = rw c.in-Minus.is c.deduction_line-in-Minus.ensures

pub returns-in-Pattern : goal.returns-in-Pattern
unfolding call_line
returns-in-Pattern c = rw c.in-Pattern.is c.pattern_line.ensures

pub returns-in-Bbbv : goal.returns-in-Bbbv
unfolding call_line
returns-in-Bbbv c = rw c.in-Bbbv.is c.bbbv_line.ensures

pub returns-in-Enumerate : goal.returns-in-Enumerate
unfolding call_line
returns-in-Enumerate c = rw c.in-Enumerate.is c.deduction_line-in-Enumerate.ensures

pub returns-in-Verdict : goal.returns-in-Verdict
unfolding call_line
returns-in-Verdict c = rw c.in-Verdict.is c.verdict_line.ensures

pub returns-in-Total : goal.returns-in-Total
unfolding call_line
returns-in-Total c = rw c.in-Total.is c.verdict_line-in-Total.ensures

pub returns-in-Table : goal.returns-in-Table
unfolding call_line
returns-in-Table c = rw c.in-Table.is c.table_line.ensures
