-- What the judge says of a migrated input, record after record: of each record what it said of the stored one before 255,255 was retired, but a refusal with 13 where it said no for a start on
-- a mine, and a refusal by 4 at the latest where the retired start had no 0 to mean; and from where no whole record stands on, what it says of the input as it is. Rests on `own_bytes` of the crate run. Assumes nothing.
use mathlib.Core.Path.{◌≡◌, sym, ap, ◌∙◌}
use mathlib.Core.Logic.{◌⊎◌}
use mathlib.Core.Bool.{true, false}
use mathlib.Core.List.{List, ◌∷◌}
use Prim.Native.Nat.{ℕ, ◌≤◌, ◌<◌}
use lib.Dec.{eqb}
use lib.ListN.{get_or, take}
use Rattle.lists.proofs.Tests.{and_left, and_right}
use Rattle.records.specs.declared.BoardMark.TheVariants.{Plain}
use Rattle.records.specs.Records.{record_length, cells_in}
use Rattle.records.proofs.RecordKinds.{mark_of}
use Rattle.verdict.specs.Verdict.{VerdictAnswer, verdict_number}
use Rattle.run.specs.Run.{verdicts}
use Rattle.run.proofs.OwnBytes.{own_bytes}
use Rattle.migration.specs.Migrated.{is_stored, is_open, has_zero, migrated_record, migrated}
use Rattle.migration.proofs.Fronts.{stored_marked, front_length, front_stored}
use Rattle.migration.proofs.MigratedRecords.{size_kept, stored_kept}
use Rattle.migration.proofs.Walks.{behind, migrated_copied, migrated_front, by_records}
use Rattle.migration.proofs.WholeInput.{first, first_long}
use Rattle.migration.proofs.JudgedAsStored.{verdict_of, JudgedAs, judged_as_stored, retired_refused}

-- ---- a record

-- the verdict v is what becomes of the verdict of a stored record
pub record JudgedAfter (r : List ℕ) (v : VerdictAnswer) : Type 0 where
  -- with a printed start, or with a 0, it is what becomes of the verdict that it had
  pub as_stored : (is_open (get_or r 4 0) (get_or r 5 0) ≡ false) ⊎ (has_zero (cells_in r) ≡ true) → JudgedAs r v
  -- with the retired start and no 0 it is a refusal, by 4 at the latest
  pub refused : is_open (get_or r 4 0) (get_or r 5 0) ≡ true → has_zero (cells_in r) ≡ false → (0 < verdict_number v) × (verdict_number v ≤ 4)

judged_after : (r : List ℕ) → JudgedAfter r (verdict_of (migrated_record r))
judged_after r = record { as_stored = judged_as_stored r; refused = retired_refused r }

-- ---- the whole input

-- the verdicts l are what becomes of those of a stored input
pub data JudgedInTurn : List ℕ → List VerdictAnswer → Type 0 where
  -- no whole record stands at the front: what follows is copied, and answered as it is
  copied : (input : List ℕ) → is_stored input ≡ false → JudgedInTurn input (verdicts input)
  -- a record, and what follows it
  next : (input : List ℕ) (v : VerdictAnswer) (l : List VerdictAnswer) → is_stored input ≡ true → JudgedAfter (take (record_length input) input) v → JudgedInTurn (behind input) l → JudgedInTurn input (v ∷ l)

-- the mark of a stored record is that of a plain board
stored_plain : (input : List ℕ) → is_stored input ≡ true → mark_of input ≡ Plain
stored_plain input h =
    let both = stored_marked input h in
    rw (and_left (eqb (get_or input 0 0) 77) (eqb (get_or input 1 0) 66) both, and_right (eqb (get_or input 0 0) 77) (eqb (get_or input 1 0) 66) both)

pub verdicts_front : (input : List ℕ) → is_stored input ≡ true → verdicts (migrated input) ≡ verdict_of (first input) ∷ verdicts (migrated (behind input))
verdicts_front input h =
    let one = take (record_length input) input in
    let plain = stored_plain (first input) (stored_kept one ∙ front_stored input h) in
    ap verdicts (migrated_front input h)
    ∙ own_bytes (first input) (migrated (behind input)) (first_long input h ∙ sym (size_kept one ∙ front_length input h)) (rw plain)
    ∙ rw plain

pub judged_in_turn : (input : List ℕ) → JudgedInTurn input (verdicts (migrated input))
judged_in_turn =
    by_records (λ (l : List ℕ). JudgedInTurn l (verdicts (migrated l)))
    (λ l e. rw (migrated_copied l e) (copied l e))
    (λ l h ih. rw (verdicts_front l h) (next l (verdict_of (first l)) (verdicts (migrated (behind l))) h (judged_after (take (record_length l) l)) ih))
