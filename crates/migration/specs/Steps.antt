-- Cited by no public contract. Whole records at the front of the input carried over one after another, and whether more bytes may make a whole record of what is left. Assumes nothing.
use Rattle.std.specs.Prelude.{◌≡◌, Bool, cond, Option, None, Some, ◌&&◌, ◌||◌, List, ◌++◌, ℕ, ◌≤◌, eqb, ltb, length, get_or, take, drop}
use Rattle.migration.specs.declared.Counts.{Counts}
use Rattle.migration.specs.Migrated.{first_zero, migrated}
use Rattle.migration.specs.Parts.{counts_sum, counts}

-- the place of the first 0 in reading order, where there is one
abbrev pub zero_place : List ℕ → Option ℕ
zero_place cells = cond (ltb (first_zero cells) (length cells)) (Some (first_zero cells)) None

-- the mark 4D 42
abbrev pub is_mark : ℕ → ℕ → Bool
is_mark first second = eqb first 77 && eqb second 66

-- nothing, a first byte of the mark, or the mark: with more bytes behind it, it may become a whole record
unfoldable pub may_begin : List ℕ → Bool
may_begin input = eqb (length input) 0 || (eqb (get_or input 0 0) 77 && (eqb (length input) 1 || eqb (get_or input 1 0) 66))

-- the records counted by r are carried over where they stand, at the front of the input, which has become `after`
pub record Carried (input : List ℕ) (r : Counts) (after : List ℕ) : Type 0 where
  pub within : r.bytes ≤ length input
  -- each has a byte at least
  pub few : (r.records ≤ r.bytes) × (r.changed ≤ r.bytes)
  pub same_long : length after ≡ length input
  -- what they become, and then what becomes of the rest
  pub output : (rest : List ℕ) → migrated (input ++ rest) ≡ take r.bytes after ++ migrated (drop r.bytes input ++ rest)
  -- the bytes behind them are as they were
  pub kept : drop r.bytes after ≡ drop r.bytes input
  pub counted : (rest : List ℕ) → counts (input ++ rest) ≡ counts_sum r (counts (drop r.bytes input ++ rest))
