-- `is_solvable_total` meets its contract: the answer is that of `test_and_judge`, which is the definition's, and demand 3 of it is the law of any such answer.
-- Rests on TotalAnswers. Assumes nothing.
use borrow.Author.Rules.{rules}
use Rattle.verdict.specs.Verdict.{is_solvable_total}
use Rattle.verdict.proofs.TotalAnswers.{total_answer_demand_3}
use Rattle.verdict.proofs.is_solvable_total.Goals as goal

pub returns : goal.returns
unfolding is_solvable_total
returns c = let seen = rw c.flat-size.ensures at c.test_and_judge.ensures in record { opened_in_after = seen; meets_demand3total = λ accepts. total_answer_demand_3 _ _ _ _ _ c.args.picture.now c.args.opened_in.now accepts _ _ _ seen }
