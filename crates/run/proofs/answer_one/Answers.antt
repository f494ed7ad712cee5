-- `answer_one` meets its contract: each way through it is a law. Assumes nothing.
use mathlib.Core.Path.{sym, ◌∙◌}
use Prim.Native.Nat.{ℕ, ◌<◌}
use native.Mathlib.Omega.{arith}
use lib.ListN.{get_or}
use Rattle.run.proofs.Fronts.{waits_short}
use Rattle.run.proofs.OneLine.{nothing_done, header_done, ended_done, last_done, next_done}
use borrow.Author.Rules.{rules}
use Rattle.run.proofs.answer_one.Goals as goal
use Rattle.run.proofs.answer_one.Goals.{After-next_verdict}

-- where the front is read, the number is above 0
above : (c : After-next_verdict) → 0 < c.args.number
above c = omega (arith, c.if-number-eq0.false)

bytes : (c : After-next_verdict) (k : ℕ) → get_or c.args.input.now k 0 < 256
bytes c k = omega (arith, c.shared_slice_known-1.given k)

pub returns-then-out-lt88 : goal.returns-then-out-lt88
returns-then-out-lt88 c =
    let both = nothing_done _ _ _ _ _ _ c.nothing_yet.ensures (λ room _. absurd (omega (arith, room, c.if-out-lt88.true))) in
    record { answers = both.0; step = both.1 }

pub returns-then-number-eq18446744073709551615 : goal.returns-then-number-eq18446744073709551615
returns-then-number-eq18446744073709551615 c =
    let both = nothing_done _ _ _ _ _ _ c.nothing_yet-then-number-eq18446744073709551615.ensures (λ _ below. absurd (omega (arith, below, c.if-number-eq18446744073709551615.true))) in
    record { answers = both.0; step = both.1 }

pub returns-then-number-eq0 : goal.returns-then-number-eq0
returns-then-number-eq0 c =
    let both = header_done _ _ _ _ _ _ c.if-number-eq0.true c.put_header.ensures.at_front in
    record { answers = both.0; step = both.1 }

pub returns-in-Waits : goal.returns-in-Waits
returns-in-Waits c =
    let both = nothing_done _ _ _ _ _ _ c.nothing_yet-in-Waits.ensures (λ _ _. waits_short _ _ (bytes (goal.at.returns-in-Waits c).After-next_verdict) (sym c.next_verdict.ensures ∙ c.in-Waits.is)) in
    record { answers = both.0; step = both.1 }

pub returns-in-Ended : goal.returns-in-Ended
returns-in-Ended c =
    let both = ended_done _ _ _ _ _ _ (above (goal.at.returns-in-Ended c).After-next_verdict) (sym c.next_verdict.ensures ∙ c.in-Ended.is) c.nothing_yet-in-Ended.ensures in
    record { answers = both.0; step = both.1 }

pub returns-in-Damage : goal.returns-in-Damage
returns-in-Damage c =
    let both = last_done _ _ _ _ _ _ (above (goal.at.returns-in-Damage c).After-next_verdict) _ (sym c.next_verdict.ensures ∙ c.in-Damage.is) c.put_answer.ensures in
    record { answers = both.0; step = both.1 }

pub returns-in-Board : goal.returns-in-Board
returns-in-Board c =
    let both = next_done _ _ _ _ _ _ (above (goal.at.returns-in-Board c).After-next_verdict) _ _ (sym c.next_verdict.ensures ∙ c.in-Board.is) c.put_answer-in-Board.ensures in
    record { answers = both.0; step = both.1 }
