-- Record after record through an input, whatever is made of each: one law for the bytes that go out and for the counts. The bound in such a definition is never met, since a record has six bytes
-- or more. From that, what is made of a whole record at the front with anything behind it, and of an input where no whole record stands. Assumes nothing.
use mathlib.Core.Path.{◌≡◌, refl, sym, ap, ◌∙◌}
use mathlib.Core.Logic.{inl, inr}
use mathlib.Core.Bool.{true, false, cond}
use mathlib.Core.List.{List, ◌++◌}
use Prim.Native.Nat.{ℕ, zero, suc, ◌≤◌}
use native.Mathlib.Omega.{arith}
use lib.ListN.{length, take, drop, length-drop}
use lib.Seq.{take-append-le, drop-append-le}
use Rattle.lists.proofs.Tests.{Decided, decided}
use Rattle.records.specs.Records.{record_length}
use Rattle.records.proofs.RecordKinds.{six_or_more, length_beside}
use Rattle.migration.specs.declared.Counts.{Counts}
use Rattle.migration.specs.Migrated.{is_stored, migrated_record, migrated_up_to, migrated}
use Rattle.migration.specs.Parts.{no_counts, counts_sum, counts_of, counts_up_to, counts}
use Rattle.migration.proofs.Fronts.{stored_whole, stored_six, stored_beside, no_head}
use Rattle.migration.proofs.MigratedRecords.{counts_beside}

-- what follows a record
abbrev pub behind : List ℕ → List ℕ
behind input = drop (record_length input) input

behind_fewer : (input : List ℕ) {k : ℕ} → length input ≤ suc k → length (behind input) ≤ k
behind_fewer input h = omega (arith, length-drop (record_length input) input, six_or_more input)

-- ---- any walk

module _ {A : Type 0} (walk : ℕ → List ℕ → A) (step : List ℕ → A → A) (stop : List ℕ → A)
    (none : (input : List ℕ) → walk zero input ≡ stop input)
    (more : (k : ℕ) (input : List ℕ) → walk (suc k) input ≡ cond (is_stored input) (step input (walk k (behind input))) (stop input)) where
  pub walk_stops : (k : ℕ) (input : List ℕ) → is_stored input ≡ false → walk k input ≡ stop input
  walk_stops zero input e = none input
  walk_stops (suc k) input e = more k input ∙ rw e

  -- any bound that is no less than the number of bytes gives the same
  enough : (k m : ℕ) (input : List ℕ) → length input ≤ k → length input ≤ m → walk k input ≡ walk m input
  enough zero m input h g = none input ∙ sym (walk_stops m input (no_head input (omega arith)))
  enough (suc k) zero input h g = walk_stops (suc k) input (no_head input (omega arith)) ∙ sym (none input)
  enough (suc k) (suc m) input h g = go (decided (is_stored input)) (enough k m (behind input))
    where
      go : Decided (is_stored input) → (length (behind input) ≤ k → length (behind input) ≤ m → walk k (behind input) ≡ walk m (behind input))
          → walk (suc k) input ≡ walk (suc m) input
      go (inl e) ih = rw (more k input, more m input, ih (behind_fewer input h) (behind_fewer input g))
      go (inr e) ih = walk_stops (suc k) input e ∙ sym (walk_stops (suc m) input e)

  pub walk_step : (input : List ℕ) → is_stored input ≡ true → walk (length input) input ≡ step input (walk (length (behind input)) (behind input))
  walk_step input e =
      let fewer : length (behind input) ≤ length input = omega (arith, length-drop (record_length input) input) in
      enough (length input) (suc (length input)) input (omega arith) (omega arith)
      ∙ more (length input) input
      ∙ rw e (ap (step input) (enough (length input) (length (behind input)) (behind input) fewer (omega arith)))

-- ---- the bytes that go out

pub migrated_copied : (input : List ℕ) → is_stored input ≡ false → migrated input ≡ input
unfolding migrated
migrated_copied input e = walk_stops migrated_up_to (λ l out. migrated_record (take (record_length l) l) ++ out) (λ l. l) (λ l. refl) (λ k l. refl) (length input) input e

pub migrated_front : (input : List ℕ) → is_stored input ≡ true → migrated input ≡ migrated_record (take (record_length input) input) ++ migrated (behind input)
unfolding migrated
migrated_front input e = walk_step migrated_up_to (λ l out. migrated_record (take (record_length l) l) ++ out) (λ l. l) (λ l. refl) (λ k l. refl) input e

-- ---- the counts

pub counts_none : (input : List ℕ) → is_stored input ≡ false → counts input ≡ no_counts
unfolding counts
counts_none input e = walk_stops counts_up_to (λ l. counts_sum (counts_of l)) (λ l. no_counts) (λ l. refl) (λ k l. refl) (length input) input e

counts_front : (input : List ℕ) → is_stored input ≡ true → counts input ≡ counts_sum (counts_of input) (counts (behind input))
unfolding counts
counts_front input e = walk_step counts_up_to (λ l. counts_sum (counts_of l)) (λ l. no_counts) (λ l. refl) (λ k l. refl) input e

-- ---- a whole record at the front, with anything behind it

module _ (input rest : List ℕ) (h : is_stored input ≡ true) where
  same_length : record_length (input ++ rest) ≡ record_length input
  same_length = length_beside input rest (stored_six input h)

  rest_behind : behind (input ++ rest) ≡ behind input ++ rest
  rest_behind = rw same_length (drop-append-le (record_length input) input rest (stored_whole input h))

  pub migrated_step : migrated (input ++ rest) ≡ migrated_record (take (record_length input) input) ++ migrated (behind input ++ rest)
  migrated_step =
      migrated_front (input ++ rest) (stored_beside input rest h)
      ∙ rw (rest_behind, same_length, take-append-le (record_length input) input rest (stored_whole input h))

  pub counts_step : counts (input ++ rest) ≡ counts_sum (counts_of input) (counts (behind input ++ rest))
  counts_step =
      counts_front (input ++ rest) (stored_beside input rest h)
      ∙ ap (λ (one : Counts). counts_sum one (counts (behind (input ++ rest)))) (counts_beside input rest (stored_whole input h))
      ∙ ap (λ (l : List ℕ). counts_sum (counts_of input) (counts l)) rest_behind

-- ---- what holds of every input

-- what holds where no whole record stands, and of a record and what follows it where it holds of what follows, holds of every input
pub by_records : (P : List ℕ → Type 0) → ((input : List ℕ) → is_stored input ≡ false → P input)
    → ((input : List ℕ) → is_stored input ≡ true → P (behind input) → P input) → (input : List ℕ) → P input
by_records P stop step input = up_to (length input) input (omega arith)
  where
    up_to : (k : ℕ) (l : List ℕ) → length l ≤ k → P l
    up_to zero l h = stop l (no_head l (omega arith))
    up_to (suc k) l h = go (decided (is_stored l)) (up_to k (behind l))
      where
        go : Decided (is_stored l) → (length (behind l) ≤ k → P (behind l)) → P l
        go (inl e) ih = step l e (ih (behind_fewer l h))
        go (inr e) ih = stop l e
