-- Cited by no public contract. What the functions that answer one record are told and tell. Assumes nothing.
use Rattle.verdict.specs.Verdict.{VerdictAnswer}
use Rattle.std.specs.Prelude.{Option, None, Some, Result, Ok, Err, ◌≡◌, Bool, true, false, cond, List, ℕ, ◌+◌, ◌-◌, ◌*◌, ◌≤◌, ◌<◌, max, eqb, ltb, length, take}
use Rattle.refusals.specs.declared.Refusal.{Refusal}
use Rattle.refusals.specs.Refusals.{refusal_number}
use Rattle.records.specs.declared.Head.{Head}
use Rattle.records.specs.Records.{record_length, record_of, cells_in}
use Rattle.record_lines.specs.Answers.{board_verdict, line_text}
use Rattle.run.specs.declared.RunState.{RunState}
use Rattle.run.specs.declared.RunState.TheVariants.{GoesOn}
use Rattle.run.specs.declared.Part.{Part}
use Rattle.run.specs.declared.Next.{Next}
use Rattle.run.specs.declared.Next.TheVariants.{Waits, Ended, Damage, Board}
use Rattle.run.specs.Run.{tally_of, no_tally, tally_sum}
use Rattle.run.specs.Parts.{goes_on}

-- ---- what stands at the front

-- where more bytes may follow, an empty part and a record cut short may become a whole record
abbrev pub next_after_end : Bool → Next
next_after_end ended = cond ended Ended Waits

abbrev pub next_after_damage : Refusal → Bool → Next
next_after_damage refusal ended = cond ended (Damage refusal) (cond (eqb (refusal_number refusal) 11) Waits (Damage refusal))

abbrev pub next_after : Result (Option Head) Refusal → Bool → List ℕ → Next
next_after (Ok None) ended input = next_after_end ended
next_after (Err refusal) ended input = next_after_damage refusal ended
next_after (Ok (Some head)) ended input = Board (board_verdict head (cells_in input)) (record_length input)

unfoldable pub next_of : Bool → List ℕ → Next
next_of ended input = next_after (record_of input) ended input

-- ---- parts

-- nothing is answered
abbrev pub nothing_yet : ℕ → RunState → Part
nothing_yet number state = record { read = 0; len = 0; next = number; tally = no_tally; state = state }

-- the header is written
abbrev pub header_part : Part
header_part = record { read = 0; len = 34; next = 1; tally = no_tally; state = GoesOn }

-- the line of a verdict is written, and so many bytes are read
abbrev pub line_part : ℕ → VerdictAnswer → ℕ → RunState → Part
line_part number v size state = record { read = size; len = length (line_text number v); next = number + 1; tally = tally_of v; state = state }

-- a part and, of what it left, another
abbrev pub part_sum : Part → Part → Part
part_sum a b = record { read = a.read + b.read; len = a.len + b.len; next = b.next; tally = tally_sum a.tally b.tally; state = b.state }

-- a text stands at the front of the buffer
pub record AtFront (text : List ℕ) (part r : Part) (out : List ℕ) : Type 0 where
  pub is : r ≡ part
  pub within : r.len ≤ length out
  pub stands : take r.len out ≡ text

-- ---- a step

-- each verdict counted has a line of at least one byte
pub record Few (r : Part) : Type 0 where
  pub yes : r.tally.yes ≤ r.len
  pub no : r.tally.no ≤ r.len
  pub refused : r.tally.refused ≤ r.len

-- of a step that answers one line: while the run goes on, what is written (34 bytes of header before line 1) and how far the numbers come is bounded by what is read; and where nothing
-- is written though there is room for a line, more bytes are needed
pub record Step (input : List ℕ) (ended : Bool) (number : ℕ) (r : Part) (out : List ℕ) : Type 0 where
  pub few : Few r
  pub lines_short : goes_on r.state ≡ true → r.len + 34 * (1 - r.next) ≤ 34 * (1 - number) + 88 * r.read
  pub numbers_near : goes_on r.state ≡ true → r.next ≤ max number 1 + r.read
  pub waits : 88 ≤ length out → number < 18446744073709551615 → goes_on r.state ≡ true → r.len ≡ 0 → (ended ≡ false) × (length input < 65031)

-- another step follows where this one answered a line and the run goes on
abbrev pub another : Part → Bool
another r = cond (goes_on r.state) (ltb 0 r.len) false
