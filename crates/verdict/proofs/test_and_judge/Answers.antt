-- `test_and_judge` meets its contract: a refusal by the tests ends the call; else the verdict is that from the cell that the start means. Rests on the two laws of
-- `verdict_after_tests` in DemandThree and on the contracts of the calls. Assumes nothing.
use mathlib.Core.Path.{◌≡◌, refl, sym, ◌∙◌}
use mathlib.Core.List.{[], ◌∷◌}
use native.Mathlib.Omega.{arith}
use lib.ListN.{length}
use Rattle.std.proofs.lemmas.Result.{err_from_is_err_and}
use Rattle.refusals.proofs.Accepted.{AcceptedBoard, accepted_board, lent_length}
use Rattle.refusals.proofs.Admitted.{tested_accepted}
use Rattle.verdict.proofs.DemandThree.{after_refusal, after_acceptance}
use Rattle.verdict.proofs.test_and_judge.Goals as goal
use Rattle.verdict.proofs.test_and_judge.Goals.{In_ok-test_board}

pub slice_bounds-test_board-end : goal.slice_bounds-test_board-end
slice_bounds-test_board-end c = refl

-- this is known of input that the tests accept
facts : (c : In_ok-test_board)
    → (let a = c.args in
    AcceptedBoard a.size.edgeless a.size.rows a.size.columns a.start_row a.start_column a.cells.now (length a.picture.now ∷ length a.opened_in.now ∷ []))
facts c = accepted_board _ _ _ _ _ _ _ (sym c.in_ok-test_board.ensures)

pub returns-in_err-test_board : goal.returns-in_err-test_board
returns-in_err-test_board c =
    let p = err_from_is_err_and c.from_residual.result c.from_residual.ensures.1 in
    rw (p.1, p.2) (after_refusal _ _ _ _ _ (sym c.in_err-test_board.ensures))

pub start_cell-start-requires : goal.start_cell-start-requires
start_cell-start-requires c = let known = facts c in record { sized = known.board.sized; column_value = known.start }

pub judge-requires : goal.judge-requires
judge-requires c =
    let known = facts (goal.at.judge-requires c).In_ok-test_board in
    record {
      board = (known.board, record { sized = known.board.sized; whole = lent_length known 0 (omega arith) });
      accepted = tested_accepted _ _ _ _ _ _ _ (sym c.in_ok-test_board.ensures);
      start_in_bounds = rw c.start_cell-start.ensures (known.start_within, known.start_safe_lem);
      opened_in_len = lent_length known 1 (omega arith);
    }

pub returns : goal.returns
returns c = (rw c.start_cell-start.ensures at c.judge.ensures) ∙ sym (after_acceptance _ _ _ _ (sym c.in_ok-test_board.ensures))
