-- `read_record` meets its contract: its tests go the ways of the definition, one law each. Assumes nothing.
use mathlib.Core.Path.{◌≡◌, sym, ◌∙◌}
use Prim.Native.Nat.{◌≤◌}
use native.Mathlib.Omega.{arith}
use lib.ListN.{length}
use borrow.Author.Tests.{eqb-true, eq-eqb}
use mathlib.Core.Path.{ap}
use mathlib.Core.Bool.{true, false}
use Rattle.records.specs.Records.{known_mark}
use Rattle.records.proofs.RecordKinds.{length_six, mark_of, record_none, record_lone, record_unknown, record_short, record_whole}
use Rattle.records.proofs.read_record.Goals as goal
use Rattle.records.proofs.read_record.Goals.{After-is_known, Else-not-is_known, Else-input-record_length}

-- what the test of the mark tells
told : (c : After-is_known) → known_mark (mark_of c.args.input.now) ≡ c.is_known.result
told c = sym (c.is_known.ensures ∙ ap known_mark c.board_mark-mark.ensures)

-- past the test of the mark it is known
known : (c : Else-not-is_known) → known_mark (mark_of c.args.input.now) ≡ true
known c = told (goal.at.Else-not-is_known c).After-is_known ∙ c.if-not-is_known.false

-- past the test of the length the head is there
head : (c : Else-input-record_length) → 6 ≤ length c.args.input.now
head c = omega (arith, length_six _ c.record_length.ensures.value, c.if-input-record_length.false)

pub returns-then-is_empty : goal.returns-then-is_empty
returns-then-is_empty c = record_none _ (eqb-true _ 0 (sym c.if-is_empty.ensures))

pub returns-then-input-lt2 : goal.returns-then-input-lt2
returns-then-input-lt2 c = record_lone _ (λ none. let e = eq-eqb _ 0 none in let f = c.if-is_empty.ensures in absurd (cc)) (omega arith)

pub returns-then-not-is_known : goal.returns-then-not-is_known
returns-then-not-is_known c = record_unknown _ (omega arith) (told (goal.at.returns-then-not-is_known c).After-is_known ∙ c.if-not-is_known.true)

pub returns-then-input-record_length : goal.returns-then-input-record_length
returns-then-input-record_length c = record_short _ (omega arith) (known (goal.at.returns-then-input-record_length c).Else-not-is_known) (omega (arith, c.record_length.ensures.value))

pub bounds-input-2 : goal.bounds-input-2
bounds-input-2 c = omega (arith, head (goal.at.bounds-input-2 c).Else-input-record_length)

pub bounds-input-3 : goal.bounds-input-3
bounds-input-3 c = omega (arith, head (goal.at.bounds-input-3 c).Else-input-record_length)

pub bounds-input-4 : goal.bounds-input-4
bounds-input-4 c = omega (arith, head (goal.at.bounds-input-4 c).Else-input-record_length)

pub bounds-input-5 : goal.bounds-input-5
bounds-input-5 c = omega (arith, head (goal.at.bounds-input-5 c).Else-input-record_length)

pub returns : goal.returns
returns c =
    let whole = record_whole c.args.input.now (omega arith) (known (goal.at.returns c).Else-not-is_known) (omega (arith, c.if-input-record_length.false, c.record_length.ensures.value)) in
    rw (c.board_mark-mark.ensures, c.from.ensures, c.from-2.ensures, c.from-3.ensures, c.from-4.ensures) whole
