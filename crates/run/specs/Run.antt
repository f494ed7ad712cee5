-- The run of the program (SPECIFICATION 5.2, 5.3): the whole output of the whole input. The verdicts of the input's records, one after the other; a header, and a
-- line for each verdict, numbered from 1; and how many of them say yes, say no and refuse. Assumes nothing.
use Rattle.std.specs.Prelude.{Option, None, Some, Result, Ok, Err, not, cond, List, [], ◌∷◌, ◌++◌, ℕ, zero, suc, ◌+◌, eqb, length, drop}
use Rattle.lists.specs.Lists.{bit}
use Rattle.refusals.specs.declared.Refusal.{Refusal}
use Rattle.verdict.specs.Verdict.{VerdictAnswer, verdict_number, verdict_yes}
use Rattle.records.specs.declared.Head.{Head}
use Rattle.records.specs.Records.{record_length, record_of, cells_in}
use Rattle.record_lines.specs.Answers.{board_verdict, line_text}
use Rattle.run.specs.declared.Tally.{Tally}

-- ---- the verdicts of an input

-- by what stands at the front: nothing where the input has ended; a damaged record, refused with 10 or 11, is the last; a whole one is followed by the others
abbrev pub verdicts_after : Result (Option Head) Refusal → List ℕ → List VerdictAnswer → List VerdictAnswer
verdicts_after (Ok None) input others = []
verdicts_after (Err refusal) input others = Err refusal ∷ []
verdicts_after (Ok (Some head)) input others = board_verdict head (cells_in input) ∷ others

-- of at most k records; the next one begins as many bytes on as a record has in all, refused or not
abbrev pub verdicts_of : ℕ → List ℕ → List VerdictAnswer
verdicts_of zero input = []
verdicts_of (suc k) input = verdicts_after (record_of input) input (verdicts_of k (drop (record_length input) input))

-- an input has fewer records than bytes
unfoldable pub verdicts : List ℕ → List VerdictAnswer
verdicts input = verdicts_of (length input) input

-- ---- the text

-- `board verdict opened grade rounds` and the end of the line
abbrev pub header : List ℕ
header =
    98 ∷ 111 ∷ 97 ∷ 114 ∷ 100 ∷ 32 ∷ 118 ∷ 101 ∷ 114 ∷ 100 ∷ 105 ∷ 99 ∷ 116 ∷ 32 ∷ 111 ∷ 112 ∷ 101 ∷ 110 ∷ 101 ∷ 100 ∷ 32 ∷ 103 ∷ 114 ∷ 97 ∷ 100 ∷ 101 ∷ 32 ∷ 114 ∷ 111
    ∷ 117 ∷ 110 ∷ 100 ∷ 115 ∷ 10 ∷ []

-- the lines of verdicts, numbered from n on
abbrev pub lines : ℕ → List VerdictAnswer → List ℕ
lines n [] = []
lines n (v ∷ l) = line_text n v ++ lines (n + 1) l

-- the text from line n on: line 0 is the header, line 1 that of the first record
unfoldable pub text_from : ℕ → List VerdictAnswer → List ℕ
text_from zero l = header ++ lines 1 l
text_from (suc n) l = lines (suc n) l

-- what the program prints
unfoldable pub printed : List ℕ → List ℕ
printed input = text_from 0 (verdicts input)

-- ---- the summary

-- a verdict counts as yes or as no, and one with a refusal's number as refused
abbrev pub tally_of : VerdictAnswer → Tally
tally_of v =
    cond (eqb (verdict_number v) 0)
    (record { yes = bit (verdict_yes v); no = bit (not (verdict_yes v)); refused = 0 })
    (record { yes = 0; no = 0; refused = 1 })

abbrev pub no_tally : Tally
no_tally = record { yes = 0; no = 0; refused = 0 }

abbrev pub tally_sum : Tally → Tally → Tally
tally_sum a b = record { yes = a.yes + b.yes; no = a.no + b.no; refused = a.refused + b.refused }

-- how many say yes, say no, and refuse
abbrev pub tally : List VerdictAnswer → Tally
tally [] = no_tally
tally (v ∷ l) = tally_sum (tally_of v) (tally l)
