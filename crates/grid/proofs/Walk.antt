-- The walk of two nested loops over a window: the rows from top up to bottom and, in each, the columns from left up to right, each folded back to the board
-- where the window wraps. What the walk has still to visit is a list of cells, and four laws say how it goes on: a row is entered, a cell is passed, a row is
-- left, the walk is done. A walk around a cell that passes over the cell itself visits the cell's neighbours. Rests on the laws of ranges. Assumes nothing.
use Prim.Native.Nat.{ℕ, zero, suc, ◌+◌, ◌-◌, ◌*◌, ◌≤◌, ◌<◌, min}
use mathlib.Core.Path.{◌≡◌, refl}
use mathlib.Core.Logic.{inl, inr, ◌≢◌}
use mathlib.Core.Bool.{Bool, true, false}
use mathlib.Core.List.{List, [], ◌∷◌, ◌++◌, map}
use native.Mathlib.Omega.{arith}
use lib.Arith.{digits_div, digits_mod}
use lib.Dec.{leb, eqb}
use borrow.Author.Tests.{eq-eqb, ne_eqb, eqb-true, eqb-false, leb-true, lt-ltb, le-ltb}
use Rattle.lists.specs.Lists.{range, without}
use Rattle.lists.proofs.Tests.{Decided, decided}
use Rattle.lists.proofs.Members.{range_more, range_none}
use Rattle.grid.specs.declared.window.Window.{Window}
use Rattle.grid.specs.Window.{line_before, line_after, around, low_at, high_at, folded, block, neighbours, window_at, On}

-- ---- the lines of a window, folded back, are the lines around

fold_range : (size a k : ℕ) → a + k ≤ size → map (folded size) (range a k) ≡ range a k
fold_range size a zero h = refl
fold_range size a (suc k) h = rw (lt-ltb a size (omega arith), fold_range size (suc a) k (omega arith))

fold_three : (size i : ℕ) → 3 ≤ size → i < size → map (folded size) (range (line_before size i) 3) ≡ line_before size i ∷ i ∷ line_after size i ∷ []
fold_three size i wide on = go (decided (eqb i 0)) (decided (eqb (i + 1) size))
  where
    go : Decided (eqb i 0) → Decided (eqb (i + 1) size) → map (folded size) (range (line_before size i) 3) ≡ line_before size i ∷ i ∷ line_after size i ∷ []
    go (inl a) (inl b) = let z : i ≡ 0 = eqb-true i 0 a in let y : i + 1 ≡ size = eqb-true (i + 1) size b in absurd (omega arith)
    go (inl a) (inr b) =
        let z : i ≡ 0 = eqb-true i 0 a in
        let one : suc (size - 1) - size ≡ i = omega arith in
        let two : suc (suc (size - 1)) - size ≡ i + 1 = omega arith in
        rw (a, b, lt-ltb (size - 1) size (omega arith), le-ltb (suc (size - 1)) size (omega arith), le-ltb (suc (suc (size - 1))) size (omega arith), one, two)
    go (inr a) (inl b) =
        let z : i ≢ 0 = eqb-false i 0 a in
        let y : i + 1 ≡ size = eqb-true (i + 1) size b in
        let one : suc (i - 1) ≡ i = omega arith in
        let two : suc i - size ≡ 0 = omega arith in
        rw (a, b, lt-ltb (i - 1) size (omega arith), one, lt-ltb i size on, le-ltb (suc i) size (omega arith), two)
    go (inr a) (inr b) =
        let z : i ≢ 0 = eqb-false i 0 a in
        let y : i + 1 ≢ size = eqb-false (i + 1) size b in
        let one : suc (i - 1) ≡ i = omega arith in
        let two : suc i ≡ i + 1 = omega arith in
        rw (a, b, lt-ltb (i - 1) size (omega arith), one, lt-ltb i size on, two, lt-ltb (i + 1) size (omega arith))

pub fold_around : (edgeless : Bool) (size i : ℕ) → i < size
    → map (folded size) (range (low_at edgeless size i) (high_at edgeless size i - low_at edgeless size i)) ≡ around edgeless size i
unfolding around
fold_around false size i on = fold_range size (i - 1) (min (i + 2) size - (i - 1)) (omega arith)
fold_around true size i on = go (decided (leb 3 size))
  where
    go : Decided (leb 3 size) → map (folded size) (range (low_at true size i) (high_at true size i - low_at true size i)) ≡ around true size i
    go (inl e) = let three : (line_before size i + 3) - line_before size i ≡ 3 = omega arith in rw (e, lt-ltb i size on, three) (fold_three size i (leb-true 3 size e) on)
    go (inr e) = let none : line_before size i - line_before size i ≡ 0 = omega arith in rw (e, none)

-- ---- the walk

-- the cells from row m on
unfoldable pub rows_from : ℕ → ℕ → ℕ → ℕ → ℕ → ℕ → List ℕ
rows_from rows columns left right bottom m = block columns (map (folded rows) (range m (bottom - m))) (map (folded columns) (range left (right - left)))

-- the cells from column n of row m on
unfoldable pub cells_from : ℕ → ℕ → ℕ → ℕ → ℕ → ℕ → ℕ → List ℕ
cells_from rows columns left right bottom m n =
    map (λ (j : ℕ). folded rows m * columns + j) (map (folded columns) (range n (right - n))) ++ rows_from rows columns left right bottom (m + 1)

module _ (rows columns left right bottom m : ℕ) where
  pub enter : m < bottom → rows_from rows columns left right bottom m ≡ cells_from rows columns left right bottom m left
  unfolding rows_from cells_from
  enter h = rw (range_more m bottom)

  pub step : (n : ℕ) → n < right
      → cells_from rows columns left right bottom m n ≡ (folded rows m * columns + folded columns n) ∷ cells_from rows columns left right bottom m (n + 1)
  unfolding cells_from
  step n h = rw (range_more n right)

  pub leave : (n : ℕ) → right ≤ n → cells_from rows columns left right bottom m n ≡ rows_from rows columns left right bottom (m + 1)
  unfolding cells_from
  leave n h = rw (range_none n right)

  pub done : bottom ≤ m → rows_from rows columns left right bottom m ≡ []
  unfolding rows_from
  done h = rw (range_none m bottom)

-- ---- the walk passes over the cell itself

-- the next cell x of the walk is another one than the cell in the middle, `own`, or is that cell
module _ (x rows columns left right bottom m n own : ℕ) (before : n < right) (at : x ≡ folded rows m * columns + folded columns n) where
  pub pass_other : (x ≡ own → ⊥)
      → without own (cells_from rows columns left right bottom m n) ≡ x ∷ without own (cells_from rows columns left right bottom m (n + 1))
  pass_other h = rw (step rows columns left right bottom m n before, ← at, ne_eqb x own h)

  pub pass_own : x ≡ own → without own (cells_from rows columns left right bottom m n) ≡ without own (cells_from rows columns left right bottom m (n + 1))
  pass_own h = rw (step rows columns left right bottom m n before, ← at, eq-eqb x own h)

-- so what the whole walk visits are the neighbours of that cell
pub walk_neighbours : (edgeless : Bool) (rows columns row column own : ℕ) (w : Window) → On rows columns row column → w ≡ window_at edgeless rows columns row column
    → own ≡ row * columns + column
    → without own (rows_from rows columns w.left w.right w.bottom w.top) ≡ neighbours edgeless rows columns (row * columns + column)
unfolding neighbours rows_from
walk_neighbours edgeless rows columns row column own w on is at =
    rw (is, at, digits_div row on.in_columns, digits_mod row on.in_columns, fold_around edgeless rows row on.in_rows, fold_around edgeless columns column on.in_columns)
