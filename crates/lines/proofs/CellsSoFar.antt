-- The turns of the loop that reads a line's cells. Some cells are in the array, at most 1025, and they and the numbers from a place on make the line that is to be read. A number adds a
-- cell, or nothing where the array is full. And a line that is read has its cells inside its array. Rests on the laws of a line's words, and of arrays with a count. Assumes nothing.
use mathlib.Core.Path.{◌≡◌, refl, sym, ap, ◌∙◌}
use mathlib.Core.List.{List, [], ◌∷◌, ◌++◌, map, append_assoc, append-nil}
use Prim.Native.Nat.{ℕ, ◌+◌, ◌-◌, ◌≤◌, ◌<◌}
use native.Mathlib.Omega.{arith}
use lib.ListN.{length, take, set, replicate, length-take, length-append}
use lib.Seq.{take_all, take-append-le}
use Rattle.std.specs.Prelude.{Option, Some, None}
use Rattle.lists.specs.Lists.{pad}
use Rattle.lists.proofs.Arrays.{pad_push}
use Rattle.text.specs.declared.Word.TheVariants.{Number, End, Other}
use Rattle.text.specs.Text.{word_at}
use Rattle.lines.specs.declared.Line.{Line}
use Rattle.lines.specs.declared.StartLine.{StartLine}
use Rattle.lines.specs.Lines.{number_before, numbers_at, cell_byte, cells_of, line_with, with_cells, line_from, line_of, start_from, start_line_of}
use Rattle.lines.proofs.Words.{numbers_more, numbers_end, numbers_other}

-- the line of these rows and columns with the cells that were read and the numbers behind them
abbrev with_before : ℕ → ℕ → List ℕ → Option (List ℕ) → Option Line
with_before rows columns before None = None
with_before rows columns before (Some l) = Some (line_with rows columns (take 1025 (before ++ map cell_byte l)))

-- the cells that were read make, with those from place `at` on, the line r
pub record CellsSoFar (line : List ℕ) (rows columns : ℕ) (r : Option Line) (cells : List ℕ) (len at : ℕ) : Type 0 where
  pub before : List ℕ
  pub held : cells ≡ pad 1025 0 before
  pub counted : len ≡ length before
  pub few : length before ≤ 1025
  pub left : with_before rows columns before (numbers_at line at) ≡ r

-- ---- a number behind the cells that were read

module _ (rows columns : ℕ) (before : List ℕ) (n : ℕ) where
  more_cells : (ns : Option (List ℕ)) → with_before rows columns before (number_before n ns) ≡ with_before rows columns (before ++ (cell_byte n ∷ [])) ns
  more_cells None = refl
  more_cells (Some l) = ap (λ (x : List ℕ). Some (line_with rows columns (take 1025 x))) (sym (append_assoc before (cell_byte n ∷ []) (map cell_byte l)))

  -- the array is full
  no_more_cells : length before ≡ 1025 → (ns : Option (List ℕ)) → with_before rows columns before (number_before n ns) ≡ with_before rows columns before ns
  no_more_cells h None = refl
  no_more_cells h (Some l) =
      let first : (x : List ℕ) → take 1025 (before ++ x) ≡ take 1025 before = λ x. take-append-le 1025 before x (omega arith) in
      ap (λ (x : List ℕ). Some (line_with rows columns x)) (first (cell_byte n ∷ map cell_byte l) ∙ sym (first (map cell_byte l)))

-- ---- the turns

module _ (line : List ℕ) (rows columns : ℕ) where
  pub cells_none : (at : ℕ) (cells : List ℕ) → cells ≡ pad 1025 0 [] → CellsSoFar line rows columns (with_cells rows columns (numbers_at line at)) cells 0 at
  cells_none at cells e = record { before = []; held = e; counted = refl; few = omega arith; left = nothing_before (numbers_at line at) }
    where
      nothing_before : (ns : Option (List ℕ)) → with_before rows columns [] ns ≡ with_cells rows columns ns
      nothing_before None = refl
      nothing_before (Some l) = refl

  module _ {r : Option Line} {cells : List ℕ} {len at : ℕ} (v : CellsSoFar line rows columns r cells len at) where
    module _ (n next : ℕ) (word : word_at line at ≡ Number n next) where
      pub cells_push : len < 1025 → (byte : ℕ) → byte ≡ cell_byte n → CellsSoFar line rows columns r (set cells len byte) (len + 1) next
      cells_push h byte e = record {
        before = v.before ++ (cell_byte n ∷ []);
        held = rw (v.held, v.counted, e) (pad_push 1025 0 v.before (cell_byte n) (omega (arith, v.counted)));
        counted = omega (arith, v.counted, length-append v.before (cell_byte n ∷ []));
        few = omega (arith, v.counted, length-append v.before (cell_byte n ∷ []));
        left = sym (more_cells rows columns v.before n (numbers_at line next)) ∙ rw (numbers_more line at n next word) at v.left;
      }

      pub cells_full : 1025 ≤ len → CellsSoFar line rows columns r cells len next
      cells_full h = record {
        before = v.before;
        held = v.held;
        counted = v.counted;
        few = v.few;
        left = sym (no_more_cells rows columns v.before n (omega (arith, v.counted, v.few)) (numbers_at line next)) ∙ rw (numbers_more line at n next word) at v.left;
      }

    pub cells_all : word_at line at ≡ End → Some (record { rows = rows; columns = columns; cells = cells; len = len }) ≡ r
    cells_all e =
        rw (v.held, v.counted)
        (ap (λ (x : List ℕ). Some (line_with rows columns x)) (sym (take_all 1025 v.before v.few) ∙ ap (take 1025) (sym (append-nil v.before))) ∙ rw (numbers_end line at e) at v.left)

    pub cells_other : word_at line at ≡ Other → None ≡ r
    cells_other e = rw (numbers_other line at e) at v.left

-- ---- a line that is read has its cells inside its array, which has 1025

pad_longer : (x : List ℕ) → length x ≤ length (pad 1025 0 x)
pad_longer x = omega (arith, length-append x (replicate (1025 - length x) 0))

abbrev pub Inside : Line → Type 0
Inside l = (l.len ≤ length l.cells) × (l.len ≤ 1025)

cells_inside : (rows columns : ℕ) (vs : List ℕ) → Inside (line_with rows columns (cells_of vs))
cells_inside rows columns vs = (pad_longer (cells_of vs), omega (arith, length-take 1025 (map cell_byte vs)))

module _ (line : List ℕ) where
  pub line_fits : (read : Line) → line_of line ≡ Some read → Inside read
  unfolding line_of
  line_fits read is = go (numbers_at line 0) is
    where
      go : (ns : Option (List ℕ)) → line_from ns ≡ Some read → Inside read
      go (Some (r ∷ c ∷ l)) e = let h : line_with r c (cells_of l) ≡ read = cc in rw (← h) (cells_inside r c l)
      go (Some []) e = absurd (cc)
      go (Some (r ∷ [])) e = absurd (cc)
      go None e = absurd (cc)

  pub start_fits : (read : StartLine) → start_line_of line ≡ Some read → Inside read.board
  unfolding start_line_of
  start_fits read is = go (numbers_at line 0) is
    where
      go : (ns : Option (List ℕ)) → start_from ns ≡ Some read → Inside read.board
      go (Some (r ∷ c ∷ row ∷ column ∷ l)) e =
          let h : record { board = line_with r c (cells_of l); start_row = row; start_column = column } ≡ read = cc in rw (← h) (cells_inside r c l)
      go (Some []) e = absurd (cc)
      go (Some (r ∷ [])) e = absurd (cc)
      go (Some (r ∷ c ∷ [])) e = absurd (cc)
      go (Some (r ∷ c ∷ row ∷ [])) e = absurd (cc)
      go None e = absurd (cc)
