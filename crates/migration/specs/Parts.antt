-- What a part of the input becomes, wherever the input is cut: what goes out and what becomes of the rest are together what becomes of the whole, whatever follows the part. And the
-- counts that the summary tells. Assumes nothing.
use Rattle.std.specs.Prelude.{◌≡◌, Bool, true, false, cond, List, ◌++◌, ℕ, zero, suc, ◌+◌, ◌≤◌, ◌<◌, length, take, drop}
use Rattle.lists.specs.Lists.{bit}
use Rattle.records.specs.Records.{record_length}
use Rattle.run.specs.Parts.{Follows, capped_sum}
use Rattle.migration.specs.declared.Counts.{Counts}
use Rattle.migration.specs.declared.Part.{Part}
use Rattle.migration.specs.Migrated.{is_stored, is_changed, migrated}

-- ---- counts: records passed through, those that change, and the bytes of all

abbrev pub no_counts : Counts
no_counts = record { records = 0; changed = 0; bytes = 0 }

abbrev pub counts_sum : Counts → Counts → Counts
counts_sum a b = record { records = a.records + b.records; changed = a.changed + b.changed; bytes = a.bytes + b.bytes }

-- of a run, as far as a number of the machine's word goes
abbrev pub counts_after : Counts → Counts → Counts
counts_after a b = record { records = capped_sum a.records b.records; changed = capped_sum a.changed b.changed; bytes = capped_sum a.bytes b.bytes }

-- of the record at the front
abbrev pub counts_of : List ℕ → Counts
counts_of r = record { records = 1; changed = bit (is_changed r); bytes = record_length r }

-- of at most k records
abbrev pub counts_up_to : ℕ → List ℕ → Counts
counts_up_to zero input = no_counts
counts_up_to (suc k) input = cond (is_stored input) (counts_sum (counts_of input) (counts_up_to k (drop (record_length input) input))) no_counts

unfoldable pub counts : List ℕ → Counts
counts input = counts_up_to (length input) input

-- ---- a part of the input

-- `copying`: no whole record stood at some place before, so that all is copied
abbrev pub migrated_from : Bool → List ℕ → List ℕ
migrated_from copying input = cond copying input (migrated input)

abbrev pub counts_from : Bool → List ℕ → Counts
counts_from copying input = cond copying no_counts (counts input)

-- r says what goes out of a part of the input, which has become `after` in its buffer
pub record Migrates (copying ended : Bool) (input : List ℕ) (r : Part) (after : List ℕ) : Type 0 where
  pub within : r.len ≤ length input
  -- what goes out, and then what becomes of the rest
  pub output : (rest : List ℕ) → Follows ended rest
      → migrated_from copying (input ++ rest) ≡ take r.len after ++ migrated_from r.copying (drop r.len input ++ rest)
  -- the bytes that stay are as they were
  pub kept : drop r.len after ≡ drop r.len input
  -- what is counted, and then what is counted of the rest
  pub counted : (rest : List ℕ) → Follows ended rest
      → counts_from copying (input ++ rest) ≡ counts_sum r.counts (counts_from r.copying (drop r.len input ++ rest))
  -- where the input has ended, all goes out
  pub all : ended ≡ true → r.len ≡ length input
  -- copying begins behind the records counted, where some bytes are left
  pub begins : copying ≡ false → r.copying ≡ true → r.counts.bytes < length input

-- of a part that has room for any record something goes out
abbrev pub Progress : List ℕ → Part → Type 0
Progress input r = 65031 ≤ length input → 0 < r.len
