-- `unsolvable_structure` meets its contract: a refusal by the tests is the call's, and an acceptance tells that the board has at least 3 and at most 32 rows and
-- columns, so that it can be laid out. Rests on the contracts of the calls. Assumes nothing.
use mathlib.Core.Path.{◌≡◌, refl, sym}
use Rattle.std.proofs.lemmas.Result.{err_from_is_err_and}
use Rattle.refusals.specs.Refusals.{Accepted}
use Rattle.refusals.specs.Tests.{pattern_tested}
use Rattle.refusals.proofs.Accepted.{AcceptedPattern, accepted_pattern}
use Rattle.patterns.proofs.Places.{found_framed}
use Rattle.patterns.proofs.Answers.{refused_answer_lem, searched_answer}
use Rattle.patterns.proofs.unsolvable_structure.Goals as goal
use Rattle.patterns.proofs.unsolvable_structure.Goals.{In_ok-test_pattern}

-- this is known of a board that the tests accept
accepted : (c : In_ok-test_pattern) → (let a = c.args in pattern_tested a.rows a.columns a.cells.now ≡ Accepted)
accepted c = rw c.flat.ensures at (sym c.in_ok-test_pattern.ensures)

facts : (c : In_ok-test_pattern) → (let a = c.args in AcceptedPattern a.rows a.columns a.cells.now)
facts c = accepted_pattern _ _ _ (accepted c)

pub returns-in_err-test_pattern : goal.returns-in_err-test_pattern
returns-in_err-test_pattern c =
    let p = err_from_is_err_and c.from_residual.result c.from_residual.ensures.1 in
    rw (p.1, p.2) (refused_answer_lem _ _ _ (rw c.flat.ensures at (sym c.in_err-test_pattern.ensures)))

pub lay-requires : goal.lay-requires
lay-requires c = record { board_value = refl; board = (facts (goal.at.lay-requires c).In_ok-test_pattern).board }

pub pattern_found-requires : goal.pattern_found-requires
pattern_found-requires c = let known = facts (goal.at.pattern_found-requires c).In_ok-test_pattern in record { sized = known.board.sized; le_rows = (known.three_rows, known.three_columns) }

pub returns : goal.returns
returns c =
    let known = facts (goal.at.returns c).In_ok-test_pattern in
    searched_answer _ _ _ (accepted (goal.at.returns c).In_ok-test_pattern) (found_framed _ _ known.board.sized _ _ c.lay.ensures c.pattern_found.ensures refl)
