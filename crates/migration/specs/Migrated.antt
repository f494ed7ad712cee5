-- Stored records carried over (SPECIFICATION 5.6, 5.7): a start of 255,255 meant the first 0 in reading order and is retired. Its two bytes become the row and the column of that 0, and no other
-- byte changes. The mark 4D 42 is the only one known here, whatever marks the judge learns: no record with another mark ever had such a start. Assumes nothing.
use Rattle.std.specs.Prelude.{Bool, cond, ◌&&◌, List, ◌++◌, ℕ, zero, suc, ◌/◌, ◌%◌, leb, eqb, length, get_or, take, drop, set}
use Rattle.lists.specs.Lists.{any, first_place}
use Rattle.records.specs.Records.{record_length, cells_in}

-- ---- a record

-- a whole record with the mark 4D 42 stands at the front
unfoldable pub is_stored : List ℕ → Bool
is_stored input = (eqb (get_or input 0 0) 77 && eqb (get_or input 1 0) 66) && leb (record_length input) (length input)

-- the retired start
abbrev pub is_open : ℕ → ℕ → Bool
is_open row column = eqb row 255 && eqb column 255

-- some cell is 0, and the first of them in reading order
abbrev pub has_zero : List ℕ → Bool
has_zero cells = any (λ v. eqb v 0) cells

abbrev pub first_zero : List ℕ → ℕ
first_zero cells = first_place (λ v. eqb v 0) cells

-- a record that changes: it has the retired start, and a 0 that this meant
unfoldable pub is_changed : List ℕ → Bool
is_changed r = is_open (get_or r 4 0) (get_or r 5 0) && has_zero (cells_in r)

-- a record with its start at a cell: the cell's row and column
abbrev pub started_at : List ℕ → ℕ → List ℕ
started_at r c = set (set r 4 (c / get_or r 3 0)) 5 (c % get_or r 3 0)

-- the record with the start that was meant; one with another start, or without a 0, as it stands
unfoldable pub migrated_record : List ℕ → List ℕ
migrated_record r = cond (is_changed r) (started_at r (first_zero (cells_in r))) r

-- ---- the whole input

-- record after record, at most k of them; from where no whole record with the mark stands on, the rest as it is
abbrev pub migrated_up_to : ℕ → List ℕ → List ℕ
migrated_up_to zero input = input
migrated_up_to (suc k) input =
    cond (is_stored input) (migrated_record (take (record_length input) input) ++ migrated_up_to k (drop (record_length input) input)) input

-- an input has fewer records than bytes
unfoldable pub migrated : List ℕ → List ℕ
migrated input = migrated_up_to (length input) input
