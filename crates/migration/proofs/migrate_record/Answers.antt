-- `migrate_record` meets its contract: each way through it is one of the two of the definition, by the start and by where the search for a 0 ends. Assumes nothing.
use mathlib.Core.Path.{◌≡◌, sym, ◌∙◌}
use mathlib.Core.Bool.{true}
use mathlib.Core.List.{List}
use Prim.Native.Nat.{ℕ, ◌-◌, ◌≤◌}
use native.Mathlib.Omega.{arith}
use lib.ListN.{length, get_or}
use Rattle.records.specs.Records.{record_length, cells_in}
use Rattle.records.proofs.RecordKinds.{length_six}
use Rattle.migration.specs.Migrated.{is_open, first_zero, is_changed}
use Rattle.migration.specs.Steps.{zero_place}
use Rattle.migration.proofs.Fronts.{stored_whole, stored_six}
use Rattle.migration.proofs.MigratedRecords.{head_there, zero_on_board, changed_is, unchanged_is, other_start, zero_found, zero_missing, counts_changed, counts_unchanged}
use borrow.Author.Rules.{rules}
use Rattle.migration.proofs.migrate_record.Goals as goal
use Rattle.migration.proofs.migrate_record.Goals.{After-first_zero, After-record_length-end, In-Some, Then-is_open}

-- the record, as it is lent
abbrev given : After-record_length-end → List ℕ
given c = c.args.stored.now

inside : (c : After-record_length-end) → record_length (given c) ≤ length (given c)
inside c = stored_whole _ c.requires

end_is : (c : After-record_length-end) → c.record_length-end.result ≡ record_length (given c)
end_is c = c.record_length-end.ensures.value

-- past the test of the start it is the retired one
retired : (c : Then-is_open) → is_open (get_or (given (goal.at.Then-is_open c).After-record_length-end) 4 0) (get_or (given (goal.at.Then-is_open c).After-record_length-end) 5 0) ≡ true
retired c = sym c.is_open.ensures ∙ c.if-is_open.true

place_is : (c : After-first_zero) → c.first_zero.result ≡ zero_place (cells_in (given (goal.at.After-first_zero c).After-record_length-end))
place_is c = rw (end_is (goal.at.After-first_zero c).After-record_length-end) at c.first_zero.ensures

pub bounds-stored-4 : goal.bounds-stored-4
bounds-stored-4 c = omega (arith, stored_six _ c.requires)

pub bounds-stored-5 : goal.bounds-stored-5
bounds-stored-5 c = omega (arith, stored_six _ c.requires)

pub slice_bounds-first_zero-count : goal.slice_bounds-first_zero-count
slice_bounds-first_zero-count c = omega (arith, length_six _ (end_is (goal.at.slice_bounds-first_zero-count c).After-record_length-end))

-- past both tests the record changes
found : (c : In-Some) → (c.in-Some.cell ≡ first_zero (cells_in (given (goal.at.In-Some c).After-record_length-end))) × (is_changed (given (goal.at.In-Some c).After-record_length-end) ≡ true)
found c =
    zero_found _ (inside (goal.at.In-Some c).After-record_length-end) (retired (goal.at.In-Some c).Then-is_open) c.in-Some.cell
    (sym (place_is (goal.at.In-Some c).After-first_zero) ∙ c.in-Some.is)

pub start_at-requires : goal.start_at-requires
start_at-requires c =
    let there = found (goal.at.start_at-requires c).In-Some in
    (head_there _ there.1, rw there.0 (zero_on_board _ there.1))

pub returns-in-Some : goal.returns-in-Some
returns-in-Some c =
    let there = found (goal.at.returns-in-Some c).In-Some in
    record {
      value = counts_changed _ (end_is (goal.at.returns-in-Some c).After-record_length-end) there.1;
      stored_after = rw there.0 at c.start_at.ensures ∙ sym (changed_is _ there.1);
    }

pub returns-in_default : goal.returns-in_default
returns-in_default c =
    let record_is = (goal.at.returns-in_default c).After-record_length-end in
    let missing = zero_missing _ (inside record_is) (retired (goal.at.returns-in_default c).Then-is_open) (sym (place_is (goal.at.returns-in_default c).After-first_zero) ∙ c.in_default.is) in
    record { value = counts_unchanged _ (end_is record_is) missing; stored_after = sym (unchanged_is _ missing) }

pub returns-else-is_open : goal.returns-else-is_open
returns-else-is_open c = let other = other_start _ (sym c.is_open.ensures ∙ c.if-is_open.false) in record { value = counts_unchanged _ (end_is (goal.at.returns-else-is_open c).After-record_length-end) other; stored_after = sym (unchanged_is _ other) }

pub slice_bounds-first_zero-start : goal.slice_bounds-first_zero-start
slice_bounds-first_zero-start c = omega (arith, length_six _ (end_is (goal.at.slice_bounds-first_zero-start c).After-record_length-end))

pub slice_bounds-first_zero-end : goal.slice_bounds-first_zero-end
slice_bounds-first_zero-end c =
    let m = (goal.at.slice_bounds-first_zero-end c).After-record_length-end in
    omega (arith, end_is m, inside m)
