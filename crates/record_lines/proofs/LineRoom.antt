-- How long a line is: a number has at most twenty digits, so that no line has more than 88 bytes; and a text that fits its buffer stands there whole. So a program that lends 88 bytes
-- or more has the line that the definition gives, and not a part of it. Assumes nothing.
use Rattle.std.specs.Prelude.{Ok, Err}
use Prim.Native.Nat.{ℕ, zero, suc, ◌+◌, ◌%◌, ◌/◌, ◌≤◌}
use mathlib.Core.Path.{◌≡◌}
use mathlib.Core.Bool.{Bool, true, false, cond}
use mathlib.Core.List.{List, [], ◌∷◌, ◌++◌}
use native.Mathlib.Omega.{arith}
use lib.Dec.{ltb}
use lib.ListN.{length, take, length-append}
use Rattle.refusals.specs.Refusals.{refusal_number}
use Rattle.refusals.proofs.FirstFailure.{refusal_not_zero}
use Rattle.lists.proofs.Stores.{slice_stored}
use Rattle.verdict.specs.Verdict.{VerdictAnswer, verdict_yes}
use Rattle.text.specs.Text.{decimal_up_to, decimal, Written}
use Rattle.record_lines.specs.Answers.{verdict_word, verdict_text, line_text}

-- ---- lengths

digits_few : (k n : ℕ) → length (decimal_up_to k n) ≤ suc k
digits_few zero n = omega arith
digits_few (suc k) n = go (ltb n 10) (digits_few k (n / 10))
  where
    go : (t : Bool) → length (decimal_up_to k (n / 10)) ≤ suc k → length (cond t ((48 + n) ∷ []) (decimal_up_to k (n / 10) ++ ((48 + n % 10) ∷ []))) ≤ suc (suc k)
    go true h = omega arith
    go false h = omega (arith, length-append (decimal_up_to k (n / 10)) ((48 + n % 10) ∷ []))

decimal_few : (n : ℕ) → length (decimal n) ≤ 20
unfolding decimal
decimal_few n = digits_few 19 n

word_few : (solvable : Bool) → length (verdict_word solvable) ≤ 4
word_few true = omega arith
word_few false = omega arith

verdict_few : (v : VerdictAnswer) → length (verdict_text v) ≤ 66
unfolding verdict_text
verdict_few (Err r) = rw (refusal_not_zero r) (simp length-append (omega (arith, decimal_few (refusal_number r))))
verdict_few (Ok v) =
    simp length-append (omega (arith, word_few (verdict_yes (Ok v)), decimal_few v.opened, decimal_few v.grade, decimal_few v.rounds))

pub line_few : (number : ℕ) (v : VerdictAnswer) → length (line_text number v) ≤ 88
unfolding line_text
line_few number v = simp length-append (omega (arith, decimal_few number, verdict_few v))

-- ---- a text that fits stands whole at the buffer's front

pub written_whole : {b text after : List ℕ} {r : ℕ} → Written b 0 text after r → length text ≤ length b → take r after ≡ text
written_whole {b} {text} {after} {r} w h =
    let e : r ≡ length text = omega (arith, w.next) in
    rw (e, w.is) (slice_stored b text 0 (omega arith))
