-- What a part of the input is answered by, wherever the input is cut: the text written and the text of what is left are together the text of the whole, whatever follows the
-- part. Assumes nothing.
use Rattle.std.specs.Prelude.{Err, ◌≡◌, ◌⊎◌, Bool, true, false, cond, List, [], ◌++◌, ℕ, ◌+◌, ◌≤◌, ◌<◌, min, length, take, drop}
use Rattle.refusals.specs.declared.Refusal.{Refusal}
use Rattle.records.specs.Records.{record_of}
use Rattle.run.specs.declared.Tally.{Tally}
use Rattle.run.specs.declared.RunState.{RunState}
use Rattle.run.specs.declared.RunState.TheVariants.{GoesOn, Complete, Stopped}
use Rattle.run.specs.declared.Part.{Part}
use Rattle.run.specs.declared.Run.{Run}
use Rattle.run.specs.Run.{verdicts, text_from, tally, no_tally, tally_sum}

-- does the run go on?
abbrev pub goes_on : RunState → Bool
goes_on GoesOn = true
goes_on Complete = false
goes_on (Stopped refusal) = false

-- what may follow a part of the input: nothing where the input has ended, else anything
abbrev pub Follows : Bool → List ℕ → Type 0
Follows ended rest = ended ≡ true → rest ≡ []

-- r answers the records of a part of the input, from line `number` of the text on, by the first bytes of the buffer
pub record Answers (input : List ℕ) (ended : Bool) (number : ℕ) (r : Part) (out : List ℕ) : Type 0 where
  pub read_within : r.read ≤ length input
  pub written_within : r.len ≤ length out
  -- what is written, and then the text of what is not read
  pub text : (rest : List ℕ) → Follows ended rest
      → text_from number (verdicts (input ++ rest))
      ≡ take r.len out ++ cond (goes_on r.state) (text_from r.next (verdicts (drop r.read input ++ rest))) []
  -- the verdicts counted, and then those of what is not read
  pub counted : (rest : List ℕ) → Follows ended rest
      → tally (verdicts (input ++ rest)) ≡ tally_sum r.tally (cond (goes_on r.state) (tally (verdicts (drop r.read input ++ rest))) no_tally)
  -- a run that is complete has read all
  pub complete : r.state ≡ Complete → drop r.read input ≡ []
  -- one that stops has read all up to the damaged record
  pub stopped : (refusal : Refusal) → r.state ≡ Stopped refusal → record_of (drop r.read input) ≡ Err refusal

-- where the input has ended, or has room for any record, some of it is read while the run goes on
abbrev pub Progress : List ℕ → Bool → ℕ → List ℕ → Part → Type 0
Progress input ended number out r =
    128 ≤ length out → number + length input < 18446744073709551615 → goes_on r.state ≡ true → (ended ≡ true) ⊎ (65031 ≤ length input) → 0 < r.read

-- ---- a run, part after part

-- nothing is read yet, and the next line is line 0, the header
abbrev pub new_run : Run
new_run = record { next = 0; read = 0; tally = no_tally; state = GoesOn }

-- a sum, as far as a number of the machine's word goes
abbrev pub capped_sum : ℕ → ℕ → ℕ
capped_sum a b = min (a + b) 18446744073709551615

-- verdicts counted, and more of them
abbrev pub capped_tally : Tally → Tally → Tally
capped_tally a b = record { yes = capped_sum a.yes b.yes; no = capped_sum a.no b.no; refused = capped_sum a.refused b.refused }

-- a run after a part of its input: the part's next line and state, and what was read and counted before with what is read and counted now
abbrev pub run_after : Run → Part → Run
run_after run part = record {
  next = part.next;
  read = capped_sum run.read part.read;
  tally = capped_tally run.tally part.tally;
  state = part.state;
}
