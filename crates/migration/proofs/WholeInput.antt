-- What becomes of a whole input: it keeps its length, and a second time changes nothing. By going through the records. Assumes nothing.
use mathlib.Core.Path.{◌≡◌, ap, ◌∙◌}
use mathlib.Core.Bool.{true}
use mathlib.Core.List.{List, []}
use Prim.Native.Nat.{ℕ}
use native.Mathlib.Omega.{arith}
use lib.ListN.{length, take, drop, length-append, length-drop, drop_of_length-le}
use lib.Seq.{take_all}
use Rattle.records.specs.Records.{record_length}
use Rattle.migration.specs.Migrated.{is_stored, migrated_record, migrated}
use Rattle.migration.proofs.Fronts.{stored_whole, front_long, front_length, front_stored}
use Rattle.migration.proofs.MigratedRecords.{record_length_kept, size_kept, stored_kept, record_once}
use Rattle.migration.proofs.Walks.{behind, migrated_copied, migrated_front, migrated_step, by_records}

-- the record at the front, carried over
abbrev pub first : List ℕ → List ℕ
first input = migrated_record (take (record_length input) input)

pub first_long : (input : List ℕ) → is_stored input ≡ true → length (first input) ≡ record_length input
first_long input h = record_length_kept (take (record_length input) input) ∙ front_long input h

-- ---- the length

pub length_kept : (input : List ℕ) → length (migrated input) ≡ length input
length_kept = by_records (λ (l : List ℕ). length (migrated l) ≡ length l) (λ l e. ap length (migrated_copied l e)) step
  where
    step : (l : List ℕ) → is_stored l ≡ true → length (migrated (behind l)) ≡ length (behind l) → length (migrated l) ≡ length l
    step l h ih =
        ap length (migrated_front l h)
        ∙ omega (arith, length-append (first l) (migrated (behind l)), first_long l h, length-drop (record_length l) l, stored_whole l h)

-- ---- a second time

pub migrated_once : (input : List ℕ) → migrated (migrated input) ≡ migrated input
migrated_once = by_records (λ (l : List ℕ). migrated (migrated l) ≡ migrated l) (λ l e. ap migrated (migrated_copied l e)) step
  where
    step : (l : List ℕ) → is_stored l ≡ true → migrated (migrated (behind l)) ≡ migrated (behind l) → migrated (migrated l) ≡ migrated l
    step l h ih =
        let one = take (record_length l) l in
        let stored : is_stored (first l) ≡ true = stored_kept one ∙ front_stored l h in
        let size : record_length (first l) ≡ record_length l = size_kept one ∙ front_length l h in
        let all : take (record_length (first l)) (first l) ≡ first l = take_all (record_length (first l)) (first l) (omega (arith, first_long l h)) in
        let none : drop (record_length (first l)) (first l) ≡ [] = drop_of_length-le (first l) {i = record_length (first l)} (omega (arith, first_long l h)) in
        rw (migrated_front l h) (migrated_step (first l) (migrated (behind l)) stored ∙ rw (all, none, record_once one, ih))
