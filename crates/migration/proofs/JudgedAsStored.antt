-- A stored record, carried over, is judged as it was before 255,255 was retired: refused with the same number, or judged from the same cell; but a start on a mine, which was judged no, is
-- refused with 13, and a first 0 is none. Where a record has the retired start and no 0, which was refused, it is refused still, and by 4 at the latest. Rests on the laws of the start that
-- is written and of two lists of tests, one after the other. Assumes nothing.
use Rattle.std.specs.Prelude.{Err, Ok}
use mathlib.Core.Path.{◌≡◌, refl, sym, ap, ◌∙◌}
use mathlib.Core.Logic.{◌⊎◌, inl, inr, ◌≢◌}
use mathlib.Core.Bool.{Bool, true, false, not, cond, ◌&&◌, ◌||◌, or-false, and_self_left}
use mathlib.Core.List.{List, [], ◌∷◌, ◌++◌}
use Prim.Native.Nat.{ℕ, ◌≤◌, ◌<◌}
use native.Mathlib.Omega.{arith}
use lib.Dec.{eqb}
use lib.ListN.{length, get_or, replicate, length-replicate}
use borrow.Author.Tests.{lt-ltb, eqb-true}
use Rattle.lists.specs.Lists.{all}
use Rattle.lists.proofs.Tests.{Decided, decided, clash, and_left, or_right}
use Rattle.lists.proofs.FirstPlaces.{first_passes}
use Rattle.grid.specs.Cells.{cell_of}
use Rattle.grid.specs.Window.{flat, neighbours}
use Rattle.refusals.specs.declared.Refusal.TheVariants.{Size, Length, Cell, Start, Number, StartMine}
use Rattle.refusals.specs.Refusals.{Accepted, Tested, tested_number, Test, test, tested}
use Rattle.refusals.specs.Tests.{size_ok, length_ok, board_cells_ok, start_ok, numbers_ok, start_cell, start_safe, board_tested}
use Rattle.refusals.proofs.FirstFailure.{then_tested, tested_append}
use Rattle.refusals.proofs.RefusalNumbers.{refusal_numbered}
use Rattle.refusals.proofs.Starts.{past_start_off, mine_start_fails, safe_start_passes}
use Rattle.records.specs.declared.BoardMark.TheVariants.{Plain}
use Rattle.records.specs.Records.{head_of, cells_in}
use Rattle.verdict.specs.Verdict.{VerdictAnswer, verdict_number, VerdictSeen, verdict_after_tests, judged_from, is_solvable}
use Rattle.record_lines.specs.Answers.{picture_size, board_verdict}
use Rattle.migration.specs.Migrated.{is_open, has_zero, first_zero, is_changed, migrated_record}
use Rattle.migration.specs.Stored.{stored_start, stored_number}
use Rattle.migration.proofs.MigratedRecords.{changed_open, changed_zero, unchanged_is, other_start, no_zero_stays, retired_changes, others_kept, cells_kept, start_on_board, start_is_first_zero}

-- ---- earlier tests and a later one

module _ (seen : VerdictSeen) (shown opened_in : List ℕ) where
  -- a refusal by the earlier tests is the answer's
  earlier_refuse : (earlier later : Tested) → tested_number earlier ≢ 0 → verdict_number (verdict_after_tests (then_tested earlier later) seen shown opened_in).answer ≡ tested_number earlier
  earlier_refuse (Ok _) later some = absurd (some refl)
  earlier_refuse (Err r) later some = refl

  -- where they accept, the later one answers
  earlier_accept : (earlier later : Tested) → tested_number earlier ≡ 0 → (verdict_after_tests (then_tested earlier later) seen shown opened_in).answer ≡ (verdict_after_tests later seen shown opened_in).answer
  earlier_accept (Ok _) later none = refl
  earlier_accept (Err r) later none = refusal_numbered r none

-- ---- tests 1 to 5

abbrev five_tests : Bool → Bool → Bool → Bool → Bool → List Test
five_tests size length cell start number = test size Size ∷ test length Length ∷ test cell Cell ∷ test start Start ∷ test number Number ∷ []

-- the number of their refusal, 0 where they accept
five_number : (size length cell start number : Bool)
    → cond size (cond length (cond cell (cond start (cond number 0 5) 4) 3) 2) 1 ≡ tested_number (tested (five_tests size length cell start number))
five_number true true true true true = refl
five_number true true true true false = refl
five_number true true true false number = refl
five_number true true false start number = refl
five_number true false cell start number = refl
five_number false length cell start number = refl

-- where the start fails as soon as the size passes, it is 4 at the most
four_at_most : (size length cell start number : Bool) → (size ≡ true → start ≡ false)
    → (let n = tested_number (tested (five_tests size length cell start number)) in (0 < n) × (n ≤ 4))
four_at_most true true true true number off = clash true refl (off refl)
four_at_most true true true false number off = (omega arith, omega arith)
four_at_most true true false start number off = (omega arith, omega arith)
four_at_most true false cell start number off = (omega arith, omega arith)
four_at_most false length cell start number off = (omega arith, omega arith)

-- ---- a board

-- its tests 1 to 5, by what the tests of the lengths and of the start answer
abbrev tests_with : ℕ → ℕ → List ℕ → Bool → Bool → List Test
tests_with rows columns b lengths start = five_tests (size_ok 1 rows columns) lengths (board_cells_ok b) start (numbers_ok (neighbours flat rows columns) b)

-- lent a picture of this length
abbrev tests_by : ℕ → ℕ → List ℕ → ℕ → Bool → List Test
tests_by rows columns b picture start = tests_with rows columns b (all (length_ok rows columns) (length b ∷ picture ∷ [])) start

abbrev number_by : ℕ → ℕ → List ℕ → ℕ → Bool → ℕ
number_by rows columns b picture start = tested_number (tested (tests_by rows columns b picture start))

module _ (rows columns row column : ℕ) (b : List ℕ) where
  abbrev picture : ℕ
  picture = picture_size rows columns

  -- the picture and the rounds that are lent
  abbrev zeros : List ℕ
  zeros = replicate picture 0

  -- the verdict from the start's cell
  abbrev judged_here : VerdictSeen
  judged_here = judged_from (neighbours flat rows columns) b (start_cell columns row column)

  -- what is answered after tests
  abbrev after : Tested → VerdictAnswer
  after t = (verdict_after_tests t judged_here zeros zeros).answer

  -- what tests 1 to 5 answer, and then 13
  abbrev earlier : Tested
  earlier = tested (tests_by rows columns b picture (start_ok rows columns row column))

  abbrev later : Tested
  later = cond (start_safe columns row column b) Accepted (Err StartMine)

  -- a slice of rounds as long as the picture passes where the picture does
  lengths_told : all (length_ok rows columns) (length b ∷ length zeros ∷ length zeros ∷ []) ≡ all (length_ok rows columns) (length b ∷ picture ∷ [])
  lengths_told = rw (length-replicate {A = ℕ} picture 0) (ap (λ (t : Bool). length_ok rows columns (length b) && t) (and_self_left (length_ok rows columns picture) true))

  verdict_after : board_verdict (record { mark = Plain; rows = rows; columns = columns; row = row; column = column }) b ≡ after (then_tested earlier later)
  unfolding board_verdict is_solvable board_tested
  verdict_after =
      ap (λ (t : Bool). after (tested (tests_with rows columns b t (start_ok rows columns row column) ++ (test (start_safe columns row column b) StartMine ∷ [])))) lengths_told
      ∙ ap after (tested_append (tests_by rows columns b picture (start_ok rows columns row column)) (test (start_safe columns row column b) StartMine ∷ []) refl)

  refused_by_five : tested_number earlier ≢ 0 → verdict_number (board_verdict (record { mark = Plain; rows = rows; columns = columns; row = row; column = column }) b) ≡ tested_number earlier
  refused_by_five some = ap verdict_number verdict_after ∙ earlier_refuse judged_here zeros zeros earlier later some

  told_by_the_last : tested_number earlier ≡ 0 → board_verdict (record { mark = Plain; rows = rows; columns = columns; row = row; column = column }) b ≡ after later
  told_by_the_last none = verdict_after ∙ earlier_accept judged_here zeros zeros earlier later none

  -- as it was stored: with a printed start, or with a 0, test 7 passes
  stored_number_lem : (not (is_open row column) || has_zero b) ≡ true
      → stored_number rows columns row column b picture ≡ number_by rows columns b picture (start_ok rows columns row column || is_open row column)
  unfolding stored_number
  stored_number_lem zero =
      rw zero
      (five_number (size_ok 1 rows columns) (all (length_ok rows columns) (length b ∷ picture ∷ [])) (board_cells_ok b) (start_ok rows columns row column || is_open row column)
      (numbers_ok (neighbours flat rows columns) b))

-- ---- a record

-- what it is judged by, and what it was
abbrev pub verdict_of : List ℕ → VerdictAnswer
verdict_of r = board_verdict (head_of Plain r) (cells_in r)

abbrev pub number_stored : List ℕ → ℕ
number_stored r = stored_number (get_or r 2 0) (get_or r 3 0) (get_or r 4 0) (get_or r 5 0) (cells_in r) (picture_size (get_or r 2 0) (get_or r 3 0))

-- the cell from which it was judged
abbrev pub cell_stored : List ℕ → ℕ
cell_stored r = stored_start (get_or r 3 0) (get_or r 4 0) (get_or r 5 0) (cells_in r)

abbrev pub verdict_from_stored : List ℕ → VerdictAnswer
verdict_from_stored r = (judged_from (neighbours flat (get_or r 2 0) (get_or r 3 0)) (cells_in r) (cell_stored r)).answer

-- the verdict v is what becomes of the one that a record had
pub record JudgedAs (r : List ℕ) (v : VerdictAnswer) : Type 0 where
  -- a refusal keeps its number
  pub refused : number_stored r ≢ 0 → verdict_number v ≡ number_stored r
  -- a verdict from a safe cell stays
  pub judged : number_stored r ≡ 0 → cell_of (cells_in r) (cell_stored r) ≢ 255 → v ≡ verdict_from_stored r
  -- a no from a mine is refused
  pub from_a_mine : number_stored r ≡ 0 → cell_of (cells_in r) (cell_stored r) ≡ 255 → verdict_number v ≡ 13

-- the start of a record that is carried over, beside the one that was stored
record SameStart (r : List ℕ) (row column : ℕ) : Type 0 where
  has_cell_lem : (not (is_open (get_or r 4 0) (get_or r 5 0)) || has_zero (cells_in r)) ≡ true
  same_test : start_ok (get_or r 2 0) (get_or r 3 0) row column ≡ (start_ok (get_or r 2 0) (get_or r 3 0) (get_or r 4 0) (get_or r 5 0) || is_open (get_or r 4 0) (get_or r 5 0))
  same_cell_lem : start_cell (get_or r 3 0) row column ≡ cell_stored r

-- the verdict by such a start
same_verdict_lem : (r : List ℕ) (row column : ℕ) → SameStart r row column → JudgedAs r (board_verdict (record { mark = Plain; rows = get_or r 2 0; columns = get_or r 3 0; row = row; column = column }) (cells_in r))
same_verdict_lem r row column s =
    let rows = get_or r 2 0 in
    let columns = get_or r 3 0 in
    let b = cells_in r in
    let same : tested_number (earlier rows columns row column b) ≡ number_stored r =
    ap (number_by rows columns b (picture_size rows columns)) s.same_test ∙ sym (stored_number_lem rows columns (get_or r 4 0) (get_or r 5 0) b s.has_cell_lem) in
    record {
      refused = λ some. refused_by_five rows columns row column b (λ z. some (sym same ∙ z)) ∙ same;
      judged = λ none safe.
          told_by_the_last rows columns row column b (same ∙ none)
          ∙ rw (safe_start_passes columns row column b (rw s.same_cell_lem safe)) (ap (λ (c : ℕ). (judged_from (neighbours flat rows columns) b c).answer) s.same_cell_lem);
      from_a_mine = λ none mine.
          ap verdict_number (told_by_the_last rows columns row column b (same ∙ none)) ∙ rw (mine_start_fails columns row column b (rw s.same_cell_lem mine));
    }

-- the start of a record that changes, and of one with another start
changed_start_same : (r : List ℕ) → is_changed r ≡ true → SameStart r (get_or (migrated_record r) 4 0) (get_or (migrated_record r) 5 0)
unfolding start_ok start_cell
changed_start_same r h =
    let on = start_on_board r h in
    let open_is = changed_open r h in
    record {
      has_cell_lem = rw (open_is, changed_zero r h);
      same_test = rw (lt-ltb _ _ on.0, lt-ltb _ _ on.1, open_is) (sym (or_right (start_ok (get_or r 2 0) (get_or r 3 0) (get_or r 4 0) (get_or r 5 0)) true refl));
      same_cell_lem = rw open_is (start_is_first_zero r h);
    }

kept_start_same : (r : List ℕ) → is_open (get_or r 4 0) (get_or r 5 0) ≡ false → SameStart r (get_or r 4 0) (get_or r 5 0)
kept_start_same r other = record {
  has_cell_lem = rw other;
  same_test = rw other (sym (or-false _));
  same_cell_lem = rw other;
}

-- the first 0 of a record that changes is no mine, so that it is judged as it was
pub changed_start_safe : (r : List ℕ) → is_changed r ≡ true → cell_of (cells_in r) (cell_stored r) ≢ 255
changed_start_safe r h e =
    let zero = eqb-true (cell_of (cells_in r) (first_zero (cells_in r))) 0 (first_passes (λ v. eqb v 0) (cells_in r) 0 (changed_zero r h)) in
    let z : ◌≡◌ {A = ℕ} 0 255 = sym zero ∙ (rw (changed_open r h) at e) in
    omega arith

-- a record with a printed start, or with a 0
pub judged_as_stored : (r : List ℕ) → (is_open (get_or r 4 0) (get_or r 5 0) ≡ false) ⊎ (has_zero (cells_in r) ≡ true)
    → JudgedAs r (verdict_of (migrated_record r))
judged_as_stored r given = go (decided (is_open (get_or r 4 0) (get_or r 5 0))) given
  where
    go : Decided (is_open (get_or r 4 0) (get_or r 5 0)) → (is_open (get_or r 4 0) (get_or r 5 0) ≡ false) ⊎ (has_zero (cells_in r) ≡ true) → JudgedAs r (verdict_of (migrated_record r))
    go (inr other) _ = rw (unchanged_is r (other_start r other)) (same_verdict_lem r _ _ (kept_start_same r other))
    go (inl o) (inl other) = clash _ o other
    go (inl o) (inr zero) =
        rw (cells_kept r, others_kept r 2 (λ e. omega arith) (λ e. omega arith), others_kept r 3 (λ e. omega arith) (λ e. omega arith))
        (same_verdict_lem r _ _ (changed_start_same r (retired_changes r o zero)))

-- ---- the retired start without a 0

-- is refused, by the test of the start at the latest
retired_number : (rows columns row column picture : ℕ) (b : List ℕ) → row ≡ 255
    → (let n = number_by rows columns b picture (start_ok rows columns row column) in (0 < n) × (n ≤ 4))
retired_number rows columns row column picture b is =
    four_at_most (size_ok 1 rows columns) (all (length_ok rows columns) (length b ∷ picture ∷ [])) (board_cells_ok b) (start_ok rows columns row column)
    (numbers_ok (neighbours flat rows columns) b) (λ size. past_start_off rows columns size row column (omega arith))

pub retired_refused : (r : List ℕ) → is_open (get_or r 4 0) (get_or r 5 0) ≡ true → has_zero (cells_in r) ≡ false
    → (0 < verdict_number (verdict_of (migrated_record r))) × (verdict_number (verdict_of (migrated_record r)) ≤ 4)
retired_refused r o none =
    let rows = get_or r 2 0 in
    let columns = get_or r 3 0 in
    let b = cells_in r in
    let row_is : get_or r 4 0 ≡ 255 = eqb-true (get_or r 4 0) 255 (and_left (eqb (get_or r 4 0) 255) (eqb (get_or r 5 0) 255) o) in
    let few = retired_number rows columns (get_or r 4 0) (get_or r 5 0) (picture_size rows columns) b row_is in
    rw (unchanged_is r (no_zero_stays r none), refused_by_five rows columns (get_or r 4 0) (get_or r 5 0) b (λ z. omega (arith, few, z))) few
