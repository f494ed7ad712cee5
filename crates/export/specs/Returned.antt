-- What C and Rust see after a call: a number, which is 0 or the refusal's number (SPECIFICATION 3.1); the slices that were lent for cells, in the order of the
-- parameters; and the slice that was lent for counts. Each call's is given by what a caller in Rattle sees. Assumes nothing.
use Rattle.std.specs.Prelude.{Bool, List, [], ◌∷◌, ℕ, Result, Ok, Err}
use Rattle.std.proofs.lemmas.List.Edits.{sets}
use Rattle.refusals.specs.declared.Refusal.{Refusal}
use Rattle.refusals.specs.Refusals.{tested_number}
use Rattle.frontier.specs.declared.FrontierAnswer.{FrontierAnswer}
use Rattle.deductions.specs.Answers.{Seen}
use Rattle.tables.specs.Tables.{table_number, table_values, TableSeen}
use Rattle.patterns.specs.Answer.{pattern_number, pattern_values}
use Rattle.deductions.specs.declared.answer.DeductionAnswer.{DeductionAnswer}
use Rattle.bbbv.specs.Answer.{bbbv_number, bbbv_values}
use Rattle.verdict.specs.Verdict.{verdict_number, verdict_values, VerdictSeen}

pub record Returned : Type 0 where
  pub number : ℕ
  pub lent : List (List ℕ)
  pub counts : List ℕ

abbrev pub returned : ℕ → List (List ℕ) → List ℕ → Returned
returned number lent counts = record { number = number; lent = lent; counts = counts }

-- values over the front of a slice, as far as it reaches: what is past its end is not written, and entries past the values stay
unfoldable pub laid : List ℕ → List ℕ → List ℕ
laid values slice = sets slice 0 values

-- the lent counts after a call that answered so: a refusal writes none
abbrev pub counted : {A : Type 0} → Result A Refusal → (A → List ℕ) → List ℕ → List ℕ
counted (Ok a) values counts = laid (values a) counts
counted (Err r) values counts = counts

-- a call that answered so, with these counts of an answer, lent these slices
unfoldable pub answered : {A : Type 0} → Result A Refusal → (A → List ℕ) → List (List ℕ) → List ℕ → Returned
answered r values lent counts = returned (tested_number r) lent (counted r values counts)

-- the frontier: blocks, inside cells, known mines
unfoldable pub frontier_returned : Result FrontierAnswer Refusal → List ℕ → Returned
frontier_returned r counts = answered r (λ a. a.blocks.blocks ∷ a.inside_cell ∷ a.is_minenum ∷ []) [] counts

-- a rule: safe cells, mines
abbrev pub list_counts : DeductionAnswer → List ℕ
list_counts a = a.safe ∷ a.mines ∷ []

unfoldable pub deduction_returned : Seen → List ℕ → Returned
deduction_returned w counts = answered w.answer list_counts (w.position ∷ w.safe ∷ w.mines ∷ []) counts

-- the solution table: solutions, groups
unfoldable pub table_returned : TableSeen → List ℕ → Returned
table_returned w counts = returned (table_number w.answer) (w.table ∷ []) (laid (table_values w.answer) counts)

-- the pattern call: 1 where a pattern is found
unfoldable pub pattern_returned : Result Bool Refusal → List ℕ → Returned
pattern_returned a counts = returned (pattern_number a) [] (laid (pattern_values a) counts)

-- the 3BV call: the number
unfoldable pub bbbv_returned : Result ℕ Refusal → List ℕ → Returned
bbbv_returned a counts = returned (bbbv_number a) [] (laid (bbbv_values a) counts)

-- the verdict: 1 for yes, opened cells, grade, rounds
unfoldable pub verdict_returned : VerdictSeen → List ℕ → Returned
verdict_returned w counts = returned (verdict_number w.answer) (w.shown ∷ w.opened_in ∷ []) (laid (verdict_values w.answer) counts)
