-- The loop that carries over record after record: what is done so far has carried over the records counted, and another record at the front of the rest makes one more. Rests on the laws of a
-- record with anything behind it. Assumes nothing.
use mathlib.Core.Path.{◌≡◌, refl, sym, ap, ◌∙◌}
use mathlib.Core.Bool.{Bool, true, false}
use mathlib.Core.List.{List, ◌++◌, append_assoc}
use Prim.Native.Nat.{ℕ, ◌+◌, ◌-◌, ◌≤◌, ◌<◌, min}
use native.Mathlib.Nat.{add_assoc, add-zero, zero-add}
use native.Mathlib.Omega.{arith}
use lib.ListN.{length, take, drop, length-drop, take-append-drop}
use lib.Seq.{take_at, drop_at, take-add, drop-drop}
use Rattle.lists.specs.Lists.{bit}
use Rattle.records.specs.Records.{record_length}
use Rattle.records.proofs.RecordKinds.{six_or_more}
use Rattle.migration.specs.declared.Counts.{Counts}
use Rattle.migration.specs.Migrated.{is_stored, is_changed, migrated_record, migrated}
use Rattle.migration.specs.Parts.{no_counts, counts_sum, counts_after, counts_of, counts}
use Rattle.migration.specs.Steps.{Carried}
use Rattle.migration.proofs.Fronts.{stored_whole, front_long, front_length}
use Rattle.migration.proofs.MigratedRecords.{record_length_kept, record_beside}
use Rattle.migration.proofs.Walks.{migrated_step, counts_step}

-- ---- sums of counts

pub counts_assoc : (a b c : Counts) → counts_sum (counts_sum a b) c ≡ counts_sum a (counts_sum b c)
counts_assoc a b c = rw (add_assoc a.records b.records c.records, add_assoc a.changed b.changed c.changed, add_assoc a.bytes b.bytes c.bytes)

pub counts_left : (a : Counts) → counts_sum no_counts a ≡ a
counts_left a = rw (zero-add a.records, zero-add a.changed, zero-add a.bytes)

pub counts_right : (a : Counts) → counts_sum a no_counts ≡ a
counts_right a = rw (add-zero a.records, add-zero a.changed, add-zero a.bytes)

-- where no sum is too large, they are exact
pub sums_exact : (a b : Counts) → a.records + b.records < 18446744073709551616 → a.changed + b.changed < 18446744073709551616 → a.bytes + b.bytes < 18446744073709551616
    → counts_after a b ≡ counts_sum a b
sums_exact a b f g h =
    let records : min (a.records + b.records) 18446744073709551615 ≡ a.records + b.records = omega arith in
    let changed : min (a.changed + b.changed) 18446744073709551615 ≡ a.changed + b.changed = omega arith in
    let bytes : min (a.bytes + b.bytes) 18446744073709551615 ≡ a.bytes + b.bytes = omega arith in
    rw (records, changed, bytes)

bit_small : (t : Bool) → bit t ≤ 1
bit_small true = omega arith
bit_small false = omega arith

-- ---- the loop

module _ (input : List ℕ) where
  pub carried_none : (r : Counts) → r ≡ no_counts → Carried input r input
  carried_none r e = rw e (record {
    within = omega arith;
    few = (omega arith, omega arith);
    same_long = refl;
    output = λ rest. refl;
    kept = refl;
    counted = λ rest. sym (counts_left (counts (input ++ rest)));
  })

  -- a whole record stands behind those counted, and is carried over there
  module _ (a : Counts) (now after : List ℕ) (u : Carried input a now) (stands : is_stored (drop a.bytes now) ≡ true)
      (behind_is : drop a.bytes after ≡ migrated_record (drop a.bytes now)) (front_is : take a.bytes after ≡ take a.bytes now) (same : length after ≡ length now) where
    abbrev left : List ℕ
    left = drop a.bytes input

    abbrev size : ℕ
    size = record_length left

    abbrev one : List ℕ
    one = migrated_record (take size left)

    stored : is_stored left ≡ true
    stored = rw u.kept at stands

    pub size_within : a.bytes + size ≤ length input
    size_within = omega (arith, u.within, stored_whole left stored, length-drop a.bytes input)

    one_long : length one ≡ size
    one_long = record_length_kept (take size left) ∙ front_long left stored

    -- the record, and what follows it
    after_is : drop a.bytes after ≡ one ++ drop size left
    after_is =
        behind_is
        ∙ ap migrated_record (u.kept ∙ sym (take-append-drop size left))
        ∙ record_beside (take size left) (drop size left) (omega (arith, front_length left stored, front_long left stored))

    written : take (a.bytes + size) after ≡ take a.bytes now ++ one
    written = take-add a.bytes size after ∙ rw (front_is, after_is, take_at one (drop size left) size one_long)

    not_passed : drop (a.bytes + size) input ≡ drop size left
    not_passed = sym (drop-drop size a.bytes input)

    both_output : (rest : List ℕ) → migrated (input ++ rest) ≡ take (a.bytes + size) after ++ migrated (drop (a.bytes + size) input ++ rest)
    both_output rest =
        u.output rest
        ∙ ap (take a.bytes now ++◌) (migrated_step left rest stored)
        ∙ rw (written, not_passed) (sym (append_assoc (take a.bytes now) one (migrated (drop size left ++ rest))))

    both_kept : drop (a.bytes + size) after ≡ drop (a.bytes + size) input
    both_kept = sym (drop-drop size a.bytes after) ∙ rw (after_is, not_passed) (drop_at one (drop size left) size one_long)

    both_counted : (rest : List ℕ) → counts (input ++ rest) ≡ counts_sum (counts_sum a (counts_of left)) (counts (drop (a.bytes + size) input ++ rest))
    both_counted rest =
        rw not_passed
        (u.counted rest ∙ ap (counts_sum a) (counts_step left rest stored) ∙ sym (counts_assoc a (counts_of left) (counts (drop size left ++ rest))))

    carried_more : Carried input (counts_sum a (counts_of left)) after
    carried_more = record {
      within = size_within;
      few = (omega (arith, u.few.0, six_or_more left), omega (arith, u.few.1, six_or_more left, bit_small (is_changed left)));
      same_long = same ∙ u.same_long;
      output = both_output;
      kept = both_kept;
      counted = both_counted;
    }

    -- the counts as the code has them
    module _ (b : Counts) (counted : b ≡ counts_of (drop a.bytes now)) where
      sum_is : counts_sum a b ≡ counts_sum a (counts_of left)
      sum_is = ap (counts_sum a) (counted ∙ ap counts_of u.kept)

      pub carried_next : (r : Counts) → r ≡ counts_sum a b → Carried input r after
      carried_next r e = rw (e ∙ sum_is) carried_more

      pub carried_further : (r : Counts) → r ≡ counts_sum a b → length input - r.bytes < length input - a.bytes
      carried_further r e = rw (e ∙ sum_is) (omega (arith, size_within, six_or_more left))

      pub sum_few : ((counts_sum a b).records ≤ length input) × ((counts_sum a b).changed ≤ length input) × ((counts_sum a b).bytes ≤ length input)
      sum_few = (
        omega (arith, ap (λ (x : Counts). x.records) sum_is, carried_more.few.0, size_within),
        omega (arith, ap (λ (x : Counts). x.changed) sum_is, carried_more.few.1, size_within),
        omega (arith, ap (λ (x : Counts). x.bytes) sum_is, size_within),
      )
