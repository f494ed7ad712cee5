-- The text of verdicts, line by line, and their tally: a line and the text of the others; a verdict and the tally of the others. Assumes nothing.
use Rattle.std.specs.Prelude.{Err}
use mathlib.Core.Path.{◌≡◌, refl, sym, ap, ◌∙◌}
use mathlib.Core.Bool.{Bool, true, false, not, cond}
use mathlib.Core.List.{List, [], ◌∷◌, ◌++◌}
use Prim.Native.Nat.{ℕ, zero, suc, ◌+◌, ◌≤◌, ◌<◌}
use native.Mathlib.Nat.{add_assoc, add-zero, zero-add}
use native.Mathlib.Omega.{arith}
use lib.Dec.{eqb}
use lib.ListN.{length, length-append}
use Rattle.lists.specs.Lists.{bit}
use Rattle.refusals.specs.declared.Refusal.{Refusal}
use Rattle.refusals.proofs.FirstFailure.{refusal_not_zero}
use Rattle.verdict.specs.Verdict.{VerdictAnswer, verdict_number, verdict_yes}
use Rattle.text.specs.Text.{decimal}
use Rattle.record_lines.specs.Answers.{verdict_text, line_text}
use Rattle.run.specs.declared.Tally.{Tally}
use Rattle.run.specs.Run.{header, lines, text_from, tally_of, no_tally, tally_sum}

-- ---- texts

-- line 0 is the header
pub text_header : (l : List VerdictAnswer) → text_from 0 l ≡ header ++ text_from 1 l
unfolding text_from
text_header l = refl

-- from line 1 on there are the lines of verdicts
text_lines : (n : ℕ) (l : List VerdictAnswer) → 0 < n → text_from n l ≡ lines n l
unfolding text_from
text_lines zero l h = absurd (omega arith)
text_lines (suc n) l h = refl

pub text_line : (n : ℕ) (v : VerdictAnswer) (l : List VerdictAnswer) → 0 < n → text_from n (v ∷ l) ≡ line_text n v ++ text_from (n + 1) l
text_line n v l h = text_lines n (v ∷ l) h ∙ ap (line_text n v ++◌) (sym (text_lines (n + 1) l (omega arith)))

pub text_none : (n : ℕ) → 0 < n → text_from n [] ≡ []
text_none n h = text_lines n [] h

-- a line has a byte at least
pub line_some : (n : ℕ) (v : VerdictAnswer) → 1 ≤ length (line_text n v)
unfolding line_text
line_some n v = omega (arith, length-append (decimal n) (32 ∷ (verdict_text v ++ (10 ∷ []))))

-- ---- tallies

pub tally_assoc : (a b c : Tally) → tally_sum (tally_sum a b) c ≡ tally_sum a (tally_sum b c)
tally_assoc a b c = rw (add_assoc a.yes b.yes c.yes, add_assoc a.no b.no c.no, add_assoc a.refused b.refused c.refused)

pub tally_left : (a : Tally) → tally_sum no_tally a ≡ a
tally_left a = rw (zero-add a.yes, zero-add a.no, zero-add a.refused)

pub tally_right : (a : Tally) → tally_sum a no_tally ≡ a
tally_right a = rw (add-zero a.yes, add-zero a.no, add-zero a.refused)

-- a verdict counts once at most in each column
pub tally_one : (v : VerdictAnswer) → ((tally_of v).yes ≤ 1) × ((tally_of v).no ≤ 1) × ((tally_of v).refused ≤ 1)
tally_one v = go (eqb (verdict_number v) 0) (verdict_yes v)
  where
    counted : Bool → Bool → Tally
    counted t y = cond t (record { yes = bit y; no = bit (not y); refused = 0 }) (record { yes = 0; no = 0; refused = 1 })

    go : (t y : Bool) → ((counted t y).yes ≤ 1) × ((counted t y).no ≤ 1) × ((counted t y).refused ≤ 1)
    go true true = (omega arith, omega arith, omega arith)
    go true false = (omega arith, omega arith, omega arith)
    go false y = (omega arith, omega arith, omega arith)

pub tally_refused : (r : Refusal) → record { yes = 0; no = 0; refused = 1 } ≡ tally_of (Err r)
tally_refused r = rw (refusal_not_zero r)
