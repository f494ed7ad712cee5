-- Where a byte of the input changes: at place 4 or 5 of a whole record with the retired start and a 0, and nowhere else; so that a byte that is not 255 stays. By going through the records.
-- Assumes nothing.
use mathlib.Core.Path.{◌≡◌, sym, ap, ◌∙◌}
use mathlib.Core.Logic.{◌⊎◌, inl, inr, ◌≢◌}
use mathlib.Core.Bool.{true}
use mathlib.Core.List.{List, ◌++◌}
use Prim.Native.Nat.{ℕ, ◌+◌, ◌-◌, ◌<◌}
use native.Mathlib.Decide.{dec_lt}
use native.Mathlib.Omega.{arith}
use lib.Dec.{eqb}
use lib.ListN.{get_or, take, drop, take-append-drop, get_or-append}
use lib.Seq.{get_or-append-add, get_or-take, get_or-drop, drop-drop}
use borrow.Author.Tests.{eqb-true, eqb-false}
use Rattle.lists.proofs.Tests.{Decided, decided}
use Rattle.records.specs.Records.{record_length}
use Rattle.migration.specs.Migrated.{is_stored, is_changed, migrated_record, migrated}
use Rattle.migration.proofs.Fronts.{front_long, front_length}
use Rattle.migration.proofs.MigratedRecords.{changed_start, changed_beside, unchanged_is, others_kept}
use Rattle.migration.proofs.Walks.{behind, migrated_copied, migrated_front, by_records}
use Rattle.migration.proofs.WholeInput.{first, first_long}

-- a whole record of the input begins at a place: at its front, or where one begins behind a whole record
pub data Begins : List ℕ → ℕ → Type 0 where
  here : (input : List ℕ) → is_stored input ≡ true → Begins input 0
  later : (input : List ℕ) (at : ℕ) → is_stored input ≡ true → Begins (behind input) at → Begins input (record_length input + at)

-- the byte at i is one of the start of a record that changes
pub record StartChanged (input : List ℕ) (i : ℕ) : Type 0 where
  pub at : ℕ
  pub begins : Begins input at
  pub changes : is_changed (drop at input) ≡ true
  pub of_start : (i ≡ at + 4) ⊎ (i ≡ at + 5)

-- ---- in a record

record_differs : (r : List ℕ) (i : ℕ) → get_or (migrated_record r) i 0 ≢ get_or r i 0 → (is_changed r ≡ true) × ((i ≡ 4) ⊎ (i ≡ 5))
record_differs r i d = go (decided (is_changed r)) (decided (eqb i 4)) (decided (eqb i 5))
  where
    go : Decided (is_changed r) → Decided (eqb i 4) → Decided (eqb i 5) → (is_changed r ≡ true) × ((i ≡ 4) ⊎ (i ≡ 5))
    go (inr h) four five = absurd (d (rw (unchanged_is r h)))
    go (inl h) (inl four) five = (h, inl (eqb-true i 4 four))
    go (inl h) (inr four) (inl five) = (h, inr (eqb-true i 5 five))
    go (inl h) (inr four) (inr five) = absurd (d (others_kept r i (eqb-false i 4 four) (eqb-false i 5 five)))

-- ---- in a record at the front, and behind it

module _ (input : List ℕ) (h : is_stored input ≡ true) where
  abbrev size : ℕ
  size = record_length input

  first_changes : is_changed (take size input) ≡ true → is_changed input ≡ true
  first_changes c =
      ap is_changed (sym (take-append-drop size input))
      ∙ changed_beside (take size input) (behind input) (omega (arith, front_length input h, front_long input h))
      ∙ c

  byte_inside : (i : ℕ) → i < size → get_or (migrated input) i 0 ≡ get_or (first input) i 0
  byte_inside i inside =
      ap (λ (l : List ℕ). get_or l i 0) (migrated_front input h)
      ∙ get_or-append (first input) (migrated (behind input)) 0 i (omega (arith, first_long input h))

  byte_behind : (k : ℕ) → get_or (migrated input) (size + k) 0 ≡ get_or (migrated (behind input)) k 0
  byte_behind k =
      ap (λ (l : List ℕ). get_or l (size + k) 0) (migrated_front input h)
      ∙ ap (λ (n : ℕ). get_or (first input ++ migrated (behind input)) (n + k) 0) (sym (first_long input h))
      ∙ get_or-append-add (first input) (migrated (behind input)) k 0

  inside_differs : (i : ℕ) → i < size → get_or (migrated input) i 0 ≢ get_or input i 0 → StartChanged input i
  inside_differs i inside d =
      let (changes, place) = record_differs (take size input) i (λ e. d (byte_inside i inside ∙ e ∙ get_or-take size input i 0 inside)) in
      record { at = 0; begins = here input h; changes = first_changes changes; of_start = place }

  behind_differs : (k : ℕ) → StartChanged (behind input) k → StartChanged input (size + k)
  behind_differs k s = record {
    at = size + s.at;
    begins = later input s.at h s.begins;
    changes = rw (drop-drop s.at size input) at s.changes;
    of_start = place s.of_start;
  }
    where
      place : (k ≡ s.at + 4) ⊎ (k ≡ s.at + 5) → (size + k ≡ size + s.at + 4) ⊎ (size + k ≡ size + s.at + 5)
      place (inl e) = inl (omega arith)
      place (inr e) = inr (omega arith)

-- ---- in the whole input

pub differs_at_a_start : (input : List ℕ) (i : ℕ) → get_or (migrated input) i 0 ≢ get_or input i 0 → StartChanged input i
differs_at_a_start =
    by_records (λ (l : List ℕ). (i : ℕ) → get_or (migrated l) i 0 ≢ get_or l i 0 → StartChanged l i)
    (λ l e i d. absurd (d (ap (λ (m : List ℕ). get_or m i 0) (migrated_copied l e)))) step
  where
    step : (l : List ℕ) → is_stored l ≡ true → ((i : ℕ) → get_or (migrated (behind l)) i 0 ≢ get_or (behind l) i 0 → StartChanged (behind l) i)
        → (i : ℕ) → get_or (migrated l) i 0 ≢ get_or l i 0 → StartChanged l i
    step l h ih i d = go (dec_lt i (record_length l))
      where
        go : Dec (i < record_length l) → StartChanged l i
        go (yes inside) = inside_differs l h i inside d
        go (no past) =
            let k = i - record_length l in
            let e : i ≡ record_length l + k = omega arith in
            let differs : get_or (migrated l) (record_length l + k) 0 ≢ get_or l (record_length l + k) 0 = rw e at d in
            rw e (behind_differs l h k (ih k (λ same. differs (byte_behind l h k ∙ same ∙ get_or-drop (record_length l) l k 0))))

-- it was 255
start_was_open : (input : List ℕ) (i : ℕ) → StartChanged input i → get_or input i 0 ≡ 255
start_was_open input i s = go s.of_start
  where
    go : (i ≡ s.at + 4) ⊎ (i ≡ s.at + 5) → get_or input i 0 ≡ 255
    go (inl e) = rw e (sym (get_or-drop s.at input 4 0) ∙ (changed_start (drop s.at input) s.changes).0)
    go (inr e) = rw e (sym (get_or-drop s.at input 5 0) ∙ (changed_start (drop s.at input) s.changes).1)

pub byte_kept : (input : List ℕ) (i : ℕ) → get_or input i 0 ≢ 255 → get_or (migrated input) i 0 ≡ get_or input i 0
byte_kept input i other = go (decided (eqb (get_or (migrated input) i 0) (get_or input i 0)))
  where
    go : Decided (eqb (get_or (migrated input) i 0) (get_or input i 0)) → get_or (migrated input) i 0 ≡ get_or input i 0
    go (inl e) = eqb-true (get_or (migrated input) i 0) (get_or input i 0) e
    go (inr e) = absurd (other (start_was_open input i (differs_at_a_start input i (eqb-false (get_or (migrated input) i 0) (get_or input i 0) e))))
