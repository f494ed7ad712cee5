-- `next_verdict` meets its contract: a whole record stands inside the input, so its cells are a part of it. Assumes nothing.
use mathlib.Core.Path.{◌≡◌, sym, ◌∙◌}
use mathlib.Core.List.{List}
use Prim.Native.Nat.{ℕ, ◌≤◌}
use native.Mathlib.Omega.{arith}
use lib.ListN.{length}
use Rattle.std.specs.Prelude.{Some, Ok}
use Rattle.records.specs.Records.{record_of}
use Rattle.records.proofs.RecordKinds.{length_six, whole_inside}
use Rattle.run.proofs.Fronts.{next_end, next_damage, next_whole}
use borrow.Author.Rules.{rules}
use Rattle.run.proofs.next_verdict.Goals as goal
use Rattle.run.proofs.next_verdict.Goals.{After-record_length-end}

-- the part of the input
abbrev input : After-record_length-end → List ℕ
input c = c.args.input.now

-- the record is whole, and stands inside the input
whole : (c : After-record_length-end) → record_of (input c) ≡ Ok (Some c.in-Ok-Some.head)
whole c = rw c.in-Ok-Some.field-0-is at (sym c.read_record.ensures ∙ c.in-Ok-Some.is)

head : (c : After-record_length-end) → 6 ≤ c.record_length-end.result
head c = length_six _ c.record_length-end.ensures.value

inside : (c : After-record_length-end) → c.record_length-end.result ≤ length (input c)
inside c = omega (arith, c.record_length-end.ensures.value, whole_inside _ _ (whole c))

pub slice_bounds-board_verdict-count : goal.slice_bounds-board_verdict-count
slice_bounds-board_verdict-count c = head c

pub slice_bounds-board_verdict-start : goal.slice_bounds-board_verdict-start
slice_bounds-board_verdict-start c = head c

pub slice_bounds-board_verdict-end : goal.slice_bounds-board_verdict-end
slice_bounds-board_verdict-end c = inside c

pub returns-in-Ok-None : goal.returns-in-Ok-None
returns-in-Ok-None c = next_end _ _ (rw c.in-Ok-None.field-0-is at (sym c.read_record.ensures ∙ c.in-Ok-None.is)) c.next_after_end.ensures

pub returns-in-Err : goal.returns-in-Err
returns-in-Err c = next_damage _ _ _ (sym c.read_record.ensures ∙ c.in-Err.is) c.next_after_damage.ensures

pub returns-in-Ok-Some : goal.returns-in-Ok-Some
returns-in-Ok-Some c = next_whole _ _ _ _ (whole (goal.at.returns-in-Ok-Some c).After-record_length-end) c.record_length-end.ensures.value c.board_verdict-verdict.ensures
