-- What a call returns to C or Rust, from what its inner call answers: a refusal's number with every slice as it was, or 0 with the counts laid over the front of
-- their slice. Said once for all calls. Assumes nothing.
use Rattle.std.specs.Prelude.{Result, Ok, Err}
use mathlib.Core.Path.{◌≡◌, refl, sym, ap, ◌∙◌}
use mathlib.Core.Bool.{Bool, true, false}
use mathlib.Core.List.{List, [], ◌∷◌}
use Rattle.lists.specs.Lists.{bit}
use Prim.Native.Nat.{ℕ, ◌+◌, ◌<◌}
use native.Mathlib.Numerals.{add-one}
use native.Mathlib.Omega.{arith}
use lib.ListN.{length, get_or, take, set, length-take}
use lib.Seq.{sets, take-suc}
use Rattle.lists.proofs.Stores.{sets_append}
use Rattle.refusals.specs.declared.Refusal.{Refusal}
use Rattle.refusals.specs.Refusals.{refusal_number}
use Rattle.deductions.specs.declared.answer.DeductionAnswer.{DeductionAnswer}
use Rattle.deductions.specs.Answers.{Seen, seen}
use Rattle.tables.specs.declared.TableAnswer.{TableAnswer}
use Rattle.tables.specs.Tables.{table_number, table_values, TableSeen, table_seen}
use Rattle.verdict.specs.Verdict.{VerdictAnswer, verdict_number, verdict_values, VerdictSeen, verdict_seen}
use Rattle.export.specs.Returned.{Returned, returned, laid, answered, list_counts, pattern_returned, deduction_returned, table_returned, verdict_returned}

-- ---- counts one after another

-- the next of the counts is stored behind the first ones
pub put_next : (counts values : List ℕ) (at : ℕ) {value : ℕ} → at < length values → value ≡ get_or values at 0 → set (laid (take at values) counts) at value ≡ laid (take (at + 1) values) counts
unfolding laid
put_next counts values at h read =
    let stored : 0 + length (take at values) ≡ at = simp length-take (omega arith) in
    rw (add-one, take-suc values at 0 h, read)
    (sym (sets_append counts 0 (take at values) (get_or values at 0 ∷ []) ∙ ap (λ (k : ℕ). set (sets counts 0 (take at values)) k (get_or values at 0)) stored))

-- ---- a refusal, and an answer

module _ {A : Type 0} {t : Result A Refusal} (values : A → List ℕ) {lent : List (List ℕ)} (counts : List ℕ) where
  pub refusal_returned : {r : Refusal} {n : ℕ} → t ≡ Err r → n ≡ refusal_number r → returned n lent counts ≡ answered t values lent counts
  unfolding answered
  refusal_returned told is = rw told (rw is)

  pub acceptance_returned : {a : A} {n : ℕ} {after : List ℕ} → t ≡ Ok a → (n ≡ 0) × (after ≡ laid (values a) counts) → returned n lent after ≡ answered t values lent counts
  unfolding answered
  acceptance_returned told (none, is) = rw told (rw (none, is))

-- the number of an answer, and the counts with its values
pub values_returned : {n m : ℕ} {lent : List (List ℕ)} {after counts : List ℕ} → n ≡ m → after ≡ counts → returned n lent after ≡ returned m lent counts
values_returned number is = rw (number, is)

-- what is returned by the answer's form is returned by what the definition asks for
pub by_form : {A : Type 0} (f : A → Returned) {asked answer form : A} {w : Returned} → answer ≡ asked → answer ≡ form → w ≡ f form → w ≡ f asked
by_form f is which e = e ∙ ap f (sym which ∙ is)

-- likewise of an answer with lent slices
pub table_returned_lem : {asked : TableSeen} {answer form : Result TableAnswer Refusal} {rows : List ℕ} (counts : List ℕ) {w : Returned} → table_seen answer rows ≡ asked
    → answer ≡ form → w ≡ returned (table_number form) (rows ∷ []) (laid (table_values form) counts) → w ≡ table_returned asked counts
unfolding table_returned
table_returned_lem {rows = rows} counts call which e =
    by_form (λ (v : TableSeen). table_returned v counts) call (ap (λ (a : Result TableAnswer Refusal). table_seen a rows) which) e

pub verdict_returned_lem : {asked : VerdictSeen} {answer : VerdictAnswer} {shown opened_in : List ℕ} (counts : List ℕ) {after : List ℕ} {n : ℕ} → verdict_seen answer shown opened_in ≡ asked
    → n ≡ verdict_number answer → after ≡ laid (verdict_values answer) counts → returned n (shown ∷ opened_in ∷ []) after ≡ verdict_returned asked counts
unfolding verdict_returned
verdict_returned_lem counts call number is = values_returned number is ∙ ap (λ (v : VerdictSeen). verdict_returned v counts) call

-- a rule's call: the counts of its answer, and the three slices
pub deduction_returned_lem : {w : Seen} {r : Result DeductionAnswer Refusal} {p s m : List ℕ} (counts : List ℕ) {after : List ℕ} {n : ℕ} → seen r p s m ≡ w
    → returned n [] after ≡ answered r list_counts [] counts → returned n (p ∷ s ∷ m ∷ []) after ≡ deduction_returned w counts
unfolding deduction_returned answered
deduction_returned_lem {p = p} {s = s} {m = m} counts call e =
    ap (λ (v : Returned). returned v.number (p ∷ s ∷ m ∷ []) v.counts) e ∙ ap (λ (v : Seen). deduction_returned v counts) call

-- the pattern call: 1 where a pattern is found
pub pattern_laid : (found : Bool) (counts : List ℕ) {n : ℕ} {after : List ℕ} → n ≡ 0 → after ≡ laid (bit found ∷ []) counts → returned n [] after ≡ pattern_returned (Ok found) counts
unfolding pattern_returned
pattern_laid true counts none is = values_returned none is
pattern_laid false counts none is = values_returned none is
