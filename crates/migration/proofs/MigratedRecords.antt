-- What becomes of a record: where it changes, the two bytes of its start become the row and the column of the first 0, which lies on the board (`start_on_board`, `start_is_first_zero`); no
-- other byte changes (`others_kept`), and a second time changes nothing (`record_once`). What follows the record stays. Assumes nothing.
use mathlib.Core.Path.{◌≡◌, refl, sym, ap, ◌∙◌}
use mathlib.Core.Logic.{inl, inr, ◌≢◌}
use mathlib.Core.Bool.{Bool, true, false, cond, and-false}
use mathlib.Core.List.{List, ◌++◌}
use Prim.Native.Nat.{ℕ, ◌+◌, ◌-◌, ◌*◌, ◌/◌, ◌%◌, ◌≤◌, ◌<◌, min}
use native.Mathlib.Omega.{arith}
use native.Mathlib.Decide.{dec_lt}
use native.Mathlib.Nat.{div-add-mod', div-lt_iff_lt-mul, mod-lt, mul-zero}
use lib.Dec.{ltb, eqb}
use lib.ListN.{length, get_or, drop, set, length-set, length-take, length-drop, get_or-append}
use lib.Seq.{length-take-le, get_or-set_same, get_or-set_other, set-append_left, set-set, set_comm, drop-set-lt}
use borrow.Author.Tests.{eqb-true, eqb-false, ne_eqb, lt-ltb, le-ltb}
use Rattle.std.specs.Prelude.{Some, None}
use Rattle.lists.proofs.Tests.{Decided, decided, and_left, and_right}
use Rattle.lists.proofs.FirstPlaces.{first_within, first_within_any, first_passes, first_before}
use Rattle.records.specs.Records.{record_length, cells_in}
use Rattle.records.proofs.RecordKinds.{six_or_more, length_known, length_beside, cells_beside}
use Rattle.migration.specs.Migrated.{is_stored, is_open, has_zero, first_zero, is_changed, started_at, migrated_record}
use Rattle.migration.specs.Parts.{counts_of}
use Rattle.migration.specs.Steps.{zero_place}

-- ---- the row and the column of a cell on a board

module _ (rows columns cell : ℕ) (on : cell < rows * columns) where
  pub some_columns : 0 < columns
  some_columns = go (dec_lt 0 columns)
    where
      go : Dec (0 < columns) → 0 < columns
      go (yes p) = p
      go (no n) = let none : columns ≡ 0 = omega arith in absurd (omega (arith, rw (none, mul-zero) at on))

  pub row_below : cell / columns < rows
  row_below = (div-lt_iff_lt-mul some_columns).1 on

  pub column_below : cell % columns < columns
  column_below = mod-lt cell some_columns

-- ---- the two ways

module _ (r : List ℕ) where
  pub changed_is : is_changed r ≡ true → migrated_record r ≡ started_at r (first_zero (cells_in r))
  unfolding migrated_record
  changed_is h = rw h

  pub unchanged_is : is_changed r ≡ false → migrated_record r ≡ r
  unfolding migrated_record
  unchanged_is h = rw h

  pub changed_open : is_changed r ≡ true → is_open (get_or r 4 0) (get_or r 5 0) ≡ true
  unfolding is_changed
  changed_open h = and_left (is_open (get_or r 4 0) (get_or r 5 0)) (has_zero (cells_in r)) h

  pub changed_start : is_changed r ≡ true → (get_or r 4 0 ≡ 255) × (get_or r 5 0 ≡ 255)
  changed_start h = (
    eqb-true (get_or r 4 0) 255 (and_left (eqb (get_or r 4 0) 255) (eqb (get_or r 5 0) 255) (changed_open h)),
    eqb-true (get_or r 5 0) 255 (and_right (eqb (get_or r 4 0) 255) (eqb (get_or r 5 0) 255) (changed_open h)),
  )

  pub changed_zero : is_changed r ≡ true → has_zero (cells_in r) ≡ true
  unfolding is_changed
  changed_zero h = and_right (is_open (get_or r 4 0) (get_or r 5 0)) (has_zero (cells_in r)) h

  -- ---- which of them it is, by the tests of the code

  pub other_start : is_open (get_or r 4 0) (get_or r 5 0) ≡ false → is_changed r ≡ false
  unfolding is_changed
  other_start h = rw h

  pub no_zero_stays : has_zero (cells_in r) ≡ false → is_changed r ≡ false
  unfolding is_changed
  no_zero_stays h = rw h (and-false (is_open (get_or r 4 0) (get_or r 5 0)))

  pub retired_changes : is_open (get_or r 4 0) (get_or r 5 0) ≡ true → has_zero (cells_in r) ≡ true → is_changed r ≡ true
  unfolding is_changed
  retired_changes o z = rw (o, z)

  -- the search for a 0 ends among the cells
  module _ (inside : record_length r ≤ length r) (start : is_open (get_or r 4 0) (get_or r 5 0) ≡ true) where
    long : length (cells_in r) ≡ record_length r - 6
    long = length-take-le (record_length r - 6) (drop 6 r) (omega (arith, length-drop 6 r))

    found_is : is_changed r ≡ ltb (first_zero (cells_in r)) (record_length r - 6)
    unfolding is_changed
    found_is = rw start (rw long at (sym (first_within_any (λ v. eqb v 0) (cells_in r))))

    -- as its answer tells
    pub zero_found : (cell : ℕ) → zero_place (cells_in r) ≡ Some cell → (cell ≡ first_zero (cells_in r)) × (is_changed r ≡ true)
    zero_found cell e = go (ltb (first_zero (cells_in r)) (length (cells_in r))) refl e
      where
        go : (t : Bool) → ltb (first_zero (cells_in r)) (length (cells_in r)) ≡ t → cond t (Some (first_zero (cells_in r))) None ≡ Some cell
            → (cell ≡ first_zero (cells_in r)) × (is_changed r ≡ true)
        go true t h = (cc, found_is ∙ (rw long at t))
        go false t h = absurd (cc)

    pub zero_missing : zero_place (cells_in r) ≡ None → is_changed r ≡ false
    zero_missing e = go (ltb (first_zero (cells_in r)) (length (cells_in r))) refl e
      where
        go : (t : Bool) → ltb (first_zero (cells_in r)) (length (cells_in r)) ≡ t → cond t (Some (first_zero (cells_in r))) None ≡ None → is_changed r ≡ false
        go true t h = absurd (cc)
        go false t h = found_is ∙ (rw long at t)

  -- and how it counts
  pub counts_changed : {n : ℕ} → n ≡ record_length r → is_changed r ≡ true → record { records = 1; changed = 1; bytes = n } ≡ counts_of r
  counts_changed e h = rw (e, h)

  pub counts_unchanged : {n : ℕ} → n ≡ record_length r → is_changed r ≡ false → record { records = 1; changed = 0; bytes = n } ≡ counts_of r
  counts_unchanged e h = rw (e, h)

-- ---- a start written anywhere

module _ (r : List ℕ) (c : ℕ) where
  abbrev row : ℕ
  row = c / get_or r 3 0

  abbrev column : ℕ
  column = c % get_or r 3 0

  started_length : length (started_at r c) ≡ length r
  started_length = length-set (set r 4 row) 5 column ∙ length-set r 4 row

  started_others : (i : ℕ) → i ≢ 4 → i ≢ 5 → get_or (started_at r c) i 0 ≡ get_or r i 0
  started_others i four five = get_or-set_other (set r 4 row) 5 i column 0 five ∙ get_or-set_other r 4 i row 0 four

  started_row : 6 ≤ length r → get_or (started_at r c) 4 0 ≡ row
  started_row six = get_or-set_other (set r 4 row) 5 4 column 0 (λ e. omega arith) ∙ get_or-set_same r 4 row 0 (omega arith)

  started_column : 6 ≤ length r → get_or (started_at r c) 5 0 ≡ column
  started_column six = get_or-set_same (set r 4 row) 5 column 0 (omega (arith, length-set r 4 row))

  started_cells : drop 6 (started_at r c) ≡ drop 6 r
  started_cells = drop-set-lt 6 (set r 4 row) 5 column (omega arith) ∙ drop-set-lt 6 r 4 row (omega arith)

  started_once : started_at (started_at r c) c ≡ started_at r c
  started_once =
      rw (started_others 3 (λ e. omega arith) (λ e. omega arith))
      (ap (λ (l : List ℕ). set l 5 column) (set_comm (set r 4 row) 5 4 column row (λ e. omega arith) ∙ ap (λ (l : List ℕ). set l 5 column) (set-set r 4 row row))
      ∙ set-set (set r 4 row) 5 column column)

  started_beside : (rest : List ℕ) → 6 ≤ length r → started_at (r ++ rest) c ≡ started_at r c ++ rest
  started_beside rest six =
      rw (get_or-append r rest 0 3 (omega arith), set-append_left r rest 4 row (omega arith))
      (set-append_left (set r 4 row) rest 5 column (omega (arith, length-set r 4 row)))

-- ---- what stays

module _ (r : List ℕ) where
  pub record_length_kept : length (migrated_record r) ≡ length r
  record_length_kept = go (decided (is_changed r))
    where
      go : Decided (is_changed r) → length (migrated_record r) ≡ length r
      go (inl h) = rw (changed_is r h) (started_length r _)
      go (inr h) = rw (unchanged_is r h)

  -- no byte changes but those of the start
  pub others_kept : (i : ℕ) → i ≢ 4 → i ≢ 5 → get_or (migrated_record r) i 0 ≡ get_or r i 0
  others_kept i four five = go (decided (is_changed r))
    where
      go : Decided (is_changed r) → get_or (migrated_record r) i 0 ≡ get_or r i 0
      go (inl h) = rw (changed_is r h) (started_others r _ i four five)
      go (inr h) = rw (unchanged_is r h)

  behind_head_kept : drop 6 (migrated_record r) ≡ drop 6 r
  behind_head_kept = go (decided (is_changed r))
    where
      go : Decided (is_changed r) → drop 6 (migrated_record r) ≡ drop 6 r
      go (inl h) = rw (changed_is r h) (started_cells r _)
      go (inr h) = rw (unchanged_is r h)

  -- it is as long by its own head
  pub size_kept : record_length (migrated_record r) ≡ record_length r
  unfolding record_length
  size_kept = rw (record_length_kept, others_kept 2 (λ e. omega arith) (λ e. omega arith), others_kept 3 (λ e. omega arith) (λ e. omega arith))

  pub cells_kept : cells_in (migrated_record r) ≡ cells_in r
  cells_kept = rw (size_kept, behind_head_kept)

  pub stored_kept : is_stored (migrated_record r) ≡ is_stored r
  unfolding is_stored
  stored_kept = rw (size_kept, record_length_kept, others_kept 0 (λ e. omega arith) (λ e. omega arith), others_kept 1 (λ e. omega arith) (λ e. omega arith))

  -- a second time changes nothing
  pub record_once : migrated_record (migrated_record r) ≡ migrated_record r
  record_once = go (decided (is_changed r)) (decided (is_changed (migrated_record r)))
    where
      go : Decided (is_changed r) → Decided (is_changed (migrated_record r)) → migrated_record (migrated_record r) ≡ migrated_record r
      go first (inr again) = unchanged_is (migrated_record r) again
      go (inr h) (inl again) = ap migrated_record (unchanged_is r h)
      go (inl h) (inl again) = changed_is (migrated_record r) again ∙ rw (cells_kept, changed_is r h) (started_once r (first_zero (cells_in r)))

-- ---- the start that is written

module _ (r : List ℕ) (h : is_changed r ≡ true) where
  abbrev rows : ℕ
  rows = get_or r 2 0

  abbrev columns : ℕ
  columns = get_or r 3 0

  abbrev cells : List ℕ
  cells = cells_in r

  -- there are cells, so that the head is there
  zero_inside : first_zero cells < length cells
  zero_inside = first_within (λ v. eqb v 0) cells (changed_zero r h)

  cells_long : length cells ≡ min (record_length r - 6) (length r - 6)
  cells_long = length-take (record_length r - 6) (drop 6 r) ∙ ap (min (record_length r - 6)) (length-drop 6 r)

  pub head_there : 6 ≤ length r
  head_there = omega (arith, zero_inside, cells_long)

  pub zero_on_board : first_zero cells < rows * columns
  zero_on_board = omega (arith, zero_inside, cells_long, length_known r head_there)

  row_is : get_or (migrated_record r) 4 0 ≡ first_zero cells / columns
  row_is = rw (changed_is r h) (started_row r (first_zero cells) head_there)

  column_is : get_or (migrated_record r) 5 0 ≡ first_zero cells % columns
  column_is = rw (changed_is r h) (started_column r (first_zero cells) head_there)

  -- it is on the board
  pub start_on_board : (get_or (migrated_record r) 4 0 < rows) × (get_or (migrated_record r) 5 0 < columns)
  start_on_board = (rw row_is (row_below rows columns (first_zero cells) zero_on_board), rw column_is (column_below rows columns (first_zero cells) zero_on_board))

  -- so that of bytes it is never the retired one
  pub start_not_open : rows < 256 → is_open (get_or (migrated_record r) 4 0) (get_or (migrated_record r) 5 0) ≡ false
  start_not_open byte = rw (ne_eqb (get_or (migrated_record r) 4 0) 255 (λ e. omega (arith, start_on_board.0)))

  -- it is that of the first 0
  pub start_is_first_zero : get_or (migrated_record r) 4 0 * columns + get_or (migrated_record r) 5 0 ≡ first_zero cells
  start_is_first_zero = rw (row_is, column_is) (div-add-mod' (first_zero cells) columns)

  -- whose cell is a 0, and no cell before it is; 1 stands where there is no cell
  pub first_zero_is_zero : get_or cells (first_zero cells) 1 ≡ 0
  first_zero_is_zero = eqb-true (get_or cells (first_zero cells) 1) 0 (first_passes (λ v. eqb v 0) cells 1 (changed_zero r h))

  pub first_zero_is_first : (k : ℕ) → k < first_zero cells → get_or cells k 1 ≢ 0
  first_zero_is_first k before = eqb-false (get_or cells k 1) 0 (first_before (λ v. eqb v 0) cells 1 k before)

-- ---- with anything behind it

module _ (r rest : List ℕ) (inside : record_length r ≤ length r) where
  six : 6 ≤ length r
  six = omega (arith, six_or_more r)

  pub changed_beside : is_changed (r ++ rest) ≡ is_changed r
  unfolding is_changed
  changed_beside = rw (get_or-append r rest 0 4 (omega (arith, six)), get_or-append r rest 0 5 (omega (arith, six)), cells_beside r rest inside)

  pub counts_beside : counts_of (r ++ rest) ≡ counts_of r
  counts_beside = rw (changed_beside, length_beside r rest six)

  pub record_beside : migrated_record (r ++ rest) ≡ migrated_record r ++ rest
  record_beside = go (decided (is_changed r))
    where
      go : Decided (is_changed r) → migrated_record (r ++ rest) ≡ migrated_record r ++ rest
      go (inl h) =
          changed_is (r ++ rest) (changed_beside ∙ h)
          ∙ rw (cells_beside r rest inside, changed_is r h) (started_beside r (first_zero (cells_in r)) rest six)
      go (inr h) = unchanged_is (r ++ rest) (changed_beside ∙ h) ∙ rw (unchanged_is r h)
