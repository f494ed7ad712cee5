-- `cal_bbbv` meets its contract: a refusal by the tests is the call's, and a board that they accept is an accepted board of the mathematics; what a number tells
-- follows from the definition alone. Rests on OnBoard and on the contracts of the calls. Assumes nothing.
use mathlib.Core.Path.{sym, ◌∙◌}
use Rattle.std.proofs.lemmas.Result.{err_from_is_err_and}
use Rattle.refusals.proofs.Accepted.{accepted_bbbv}
use Rattle.refusals.proofs.Admitted.{bbbv_accepted}
use Rattle.bbbv.proofs.OnBoard.{refused_answer_lem, counted_answer, answer_counts}
use Rattle.bbbv.proofs.cal_bbbv.Goals as goal

pub returns-in_err-test_bbbv : goal.returns-in_err-test_bbbv
returns-in_err-test_bbbv c =
    let p = err_from_is_err_and c.from_residual.result c.from_residual.ensures.1 in
    let answer = p.1 ∙ rw p.2 (refused_answer_lem _ _ _ _ (sym c.in_err-test_bbbv.ensures)) in
    record { value = answer; by_index = λ n e. answer_counts _ _ _ _ n (sym answer ∙ e) }

pub count_bbbv-requires : goal.count_bbbv-requires
count_bbbv-requires c = let accepted = sym c.in_ok-test_bbbv.ensures in record { board = (accepted_bbbv _ _ _ _ accepted).board; accepted = bbbv_accepted _ _ _ _ accepted }

pub returns : goal.returns
returns c =
    let answer = counted_answer _ _ _ _ (sym c.in_ok-test_bbbv.ensures) c.count_bbbv.ensures in
    record { value = answer; by_index = λ n e. answer_counts _ _ _ _ n (sym answer ∙ e) }
