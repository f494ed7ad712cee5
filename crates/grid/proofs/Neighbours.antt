-- Which cells the neighbours of a cell are, on a board with an edge and on one without: exactly those that touch it (`neighbours_touch`, `touch_neighbours`), each on
-- the board, none twice, at most eight, and mutual. The idea: a cell's number tells its row and its column, so that a cell stands in a block of rows and columns
-- where its row stands in the one list and its column in the other. Rests on the laws of `has` and of ranges. Assumes nothing.
use mathlib.Core.Path.{◌≡◌, refl, sym, ap, ◌∙◌}
use mathlib.Core.Logic.{◌⊎◌, inl, inr, ◌≢◌}
use mathlib.Core.Bool.{Bool, true, false, not, ◌&&◌, ◌||◌}
use mathlib.Core.List.{List, [], ◌∷◌, map}
use Prim.Native.Nat.{ℕ, ◌+◌, ◌-◌, ◌*◌, ◌/◌, ◌%◌, ◌≤◌, ◌<◌, min}
use native.Mathlib.Omega.{arith}
use native.Mathlib.Decide.{dec_lt}
use native.Mathlib.Nat.{div-add-mod', div-lt_iff_lt-mul, mod-lt, mul-le-mul_left, mul-le-mul_right, suc-mul}
use lib.Arith.{digits_div, digits_mod, digits_lt}
use lib.ListN.{length, length-append, length-map}
use lib.Dec.{leb, ltb, eqb}
use borrow.Author.Tests.{eqb-true, eqb-false, eq-eqb, ne_eqb, not-true, leb-true, ltb-true, le-leb, lt-ltb}
use Rattle.lists.specs.Lists.{range, has, nodup, without}
use Rattle.lists.proofs.Tests.{Decided, decided, clash, or_cases, or_right, same_test, and_left, and_right}
use Rattle.lists.proofs.Collected.{keep_few}
use Rattle.lists.proofs.Members.{has_head, has_tail, has_append, has_keep, kept_passes, kept_has, range_in, in_range, range_nodup, nodup_head, nodup_tail, nodup_keep, nodup_append}
use Rattle.lists.proofs.Counts.{count_out}
use Rattle.grid.specs.Window.{line_before, line_after, around, low_at, high_at, block, neighbours, Sized, On}
use Rattle.lists.proofs.Rearranged.{count_all, length_range}
use Rattle.grid.proofs.Places.{few_cells, some_column}

-- ---- the rows, or the columns, around one of them

-- two rows, or two columns, that differ by at most one
pub record Near (i j : ℕ) : Type 0 where
  pub after : i ≤ j + 1
  pub before : j ≤ i + 1

-- or, without an edge, are the first and the last
abbrev pub NearOn : Bool → ℕ → ℕ → ℕ → Type 0
NearOn true size i j = (j ≡ i) ⊎ ((j ≡ line_after size i) ⊎ (i ≡ line_after size j))
NearOn false size i j = Near i j

-- how many stand around i
abbrev span : ℕ → ℕ → ℕ
span size i = min (i + 2) size - (i - 1)

-- ---- a side without an edge

-- the line before i and the line after it, by whether i is the first or the last
module _ (size i : ℕ) where
  abbrev Before : Type 0
  Before = ((i ≡ 0) × (line_before size i ≡ size - 1)) ⊎ ((i ≢ 0) × (line_before size i ≡ i - 1))

  abbrev After : Type 0
  After = ((i + 1 ≡ size) × (line_after size i ≡ 0)) ⊎ ((i + 1 ≢ size) × (line_after size i ≡ i + 1))

  before_cases : Before
  before_cases = go (decided (eqb i 0))
    where
      go : Decided (eqb i 0) → Before
      go (inl e) = inl (eqb-true i 0 e, rw e)
      go (inr e) = inr (eqb-false i 0 e, rw e)

  after_cases : After
  after_cases = go (decided (eqb (i + 1) size))
    where
      go : Decided (eqb (i + 1) size) → After
      go (inl e) = inl (eqb-true (i + 1) size e, rw e)
      go (inr e) = inr (eqb-false (i + 1) size e, rw e)

-- of at least 3 lines: each is the other's other way round, and the three lines are different lines of the side
module _ (size i : ℕ) (wide : 3 ≤ size) (on : i < size) where
  after_before : line_after size (line_before size i) ≡ i
  after_before = go (before_cases size i) (after_cases size (line_before size i))
    where
      go : Before size i → After size (line_before size i) → line_after size (line_before size i) ≡ i
      go (inl (z, e)) (inl (y, f)) = omega arith
      go (inl (z, e)) (inr (y, f)) = omega arith
      go (inr (z, e)) (inl (y, f)) = omega arith
      go (inr (z, e)) (inr (y, f)) = omega arith

  before_after : line_before size (line_after size i) ≡ i
  before_after = go (after_cases size i) (before_cases size (line_after size i))
    where
      go : After size i → Before size (line_after size i) → line_before size (line_after size i) ≡ i
      go (inl (z, e)) (inl (y, f)) = omega arith
      go (inl (z, e)) (inr (y, f)) = omega arith
      go (inr (z, e)) (inl (y, f)) = omega arith
      go (inr (z, e)) (inr (y, f)) = omega arith

  record Apart : Type 0 where
    before_below : line_before size i < size
    after_below : line_after size i < size
    before_other : line_before size i ≢ i
    after_other : i ≢ line_after size i
    before_after_other : line_before size i ≢ line_after size i

  lines_apart : Apart
  lines_apart = go (before_cases size i) (after_cases size i)
    where
      go : Before size i → After size i → Apart
      go (inl (z, e)) (inl (y, f)) = absurd (omega arith)
      go (inl (z, e)) (inr (y, f)) = record { before_below = omega arith; after_below = omega arith; before_other = λ w. omega arith; after_other = λ w. omega arith; before_after_other = λ w. omega arith }
      go (inr (z, e)) (inl (y, f)) = record { before_below = omega arith; after_below = omega arith; before_other = λ w. omega arith; after_other = λ w. omega arith; before_after_other = λ w. omega arith }
      go (inr (z, e)) (inr (y, f)) = record { before_below = omega arith; after_below = omega arith; before_other = λ w. omega arith; after_other = λ w. omega arith; before_after_other = λ w. omega arith }

-- what stands around i: nothing, or the three lines
abbrev Wraps : ℕ → ℕ → Type 0
Wraps size i = (around true size i ≡ []) ⊎ (((3 ≤ size) × (i < size)) × (around true size i ≡ line_before size i ∷ i ∷ line_after size i ∷ []))

wraps_cases : (size i : ℕ) → Wraps size i
unfolding around
wraps_cases size i = go (decided (leb 3 size)) (decided (ltb i size))
  where
    go : Decided (leb 3 size) → Decided (ltb i size) → Wraps size i
    go (inr a) b = inl (rw a)
    go (inl a) (inr b) = inl (rw (a, b))
    go (inl a) (inl b) = inr ((leb-true 3 size a, ltb-true i size b), rw (a, b))

three_cases : (a b c x : ℕ) → has (a ∷ b ∷ c ∷ []) x ≡ true → (x ≡ a) ⊎ ((x ≡ b) ⊎ (x ≡ c))
three_cases a b c x h = go (or_cases (eqb x a) (eqb x b || (eqb x c || false)) h)
  where
    last : (eqb x c ≡ true) ⊎ (false ≡ true) → x ≡ c
    last (inl e) = eqb-true x c e
    last (inr e) = clash false e refl

    go : (eqb x a ≡ true) ⊎ ((eqb x b || (eqb x c || false)) ≡ true) → (x ≡ a) ⊎ ((x ≡ b) ⊎ (x ≡ c))
    go (inl e) = inl (eqb-true x a e)
    go (inr e) = inr (next (or_cases (eqb x b) (eqb x c || false) e))
      where
        next : (eqb x b ≡ true) ⊎ ((eqb x c || false) ≡ true) → (x ≡ b) ⊎ (x ≡ c)
        next (inl w) = inl (eqb-true x b w)
        next (inr w) = inr (last (or_cases (eqb x c) false w))

pub around_in : (edgeless : Bool) (size i x : ℕ) → has (around edgeless size i) x ≡ true → (x < size) × NearOn edgeless size i x
unfolding around
around_in false size i x h =
    let bounds = range_in (i - 1) (span size i) x h in
    (omega arith, record { after = omega arith; before = omega arith })
around_in true size i x h = go (wraps_cases size i)
  where
    go : Wraps size i → (x < size) × NearOn true size i x
    go (inl e) = clash false (rw e at h) refl
    go (inr ((w, on), e)) = which (three_cases (line_before size i) i (line_after size i) x (rw e at h))
      where
        which : (x ≡ line_before size i) ⊎ ((x ≡ i) ⊎ (x ≡ line_after size i)) → (x < size) × NearOn true size i x
        which (inl y) = (rw y (lines_apart size i w on).before_below, inr (inr (rw y (sym (after_before size i w on)))))
        which (inr (inl y)) = (rw y on, inl y)
        which (inr (inr y)) = (rw y (lines_apart size i w on).after_below, inr (inl y))

-- and every line near i is around it; without an edge on a side of at least 3 lines, of which i is one
pub in_around : (edgeless : Bool) (size i x : ℕ) → (edgeless ≡ true → (3 ≤ size) × (i < size)) → x < size → NearOn edgeless size i x → has (around edgeless size i) x ≡ true
unfolding around
in_around false size i x wraps below near = in_range (i - 1) (span size i) x (omega (arith, near.after)) (omega (arith, near.before))
in_around true size i x wraps below near = let (w, on) = wraps refl in rw (le-leb 3 size w, lt-ltb i size on) (go w near)
  where
    third : (s t : Bool) → (s || (t || (true || false))) ≡ true
    third true t = refl
    third false true = refl
    third false false = refl

    go : 3 ≤ size → NearOn true size i x → has (line_before size i ∷ i ∷ line_after size i ∷ []) x ≡ true
    go w (inl y) = rw (eq-eqb x i y) (or_right (eqb x (line_before size i)) (true || (eqb x (line_after size i) || false)) refl)
    go w (inr (inl y)) = rw (eq-eqb x (line_after size i) y) (third (eqb x (line_before size i)) (eqb x i))
    go w (inr (inr y)) = rw (eq-eqb x (line_before size i) (rw y (sym (before_after size x w below))))

-- a line around i has i around it
pub around_mutual : (edgeless : Bool) (size i x : ℕ) → i < size → has (around edgeless size i) x ≡ true → has (around edgeless size x) i ≡ true
around_mutual edgeless size i x on h =
    let (below, near) = around_in edgeless size i x h in in_around edgeless size x i (λ e. (long e, below)) on (turned edgeless near)
  where
    long : edgeless ≡ true → 3 ≤ size
    long e = go (wraps_cases size i)
      where
        go : Wraps size i → 3 ≤ size
        go (inl none) = clash false (rw (e, none) at h) refl
        go (inr ((w, _), _)) = w

    turned : (k : Bool) → NearOn k size i x → NearOn k size x i
    turned false n = record { after = n.before; before = n.after }
    turned true (inl y) = inl (sym y)
    turned true (inr (inl y)) = inr (inr y)
    turned true (inr (inr y)) = inr (inl y)

around_nodup : (edgeless : Bool) (size i : ℕ) → nodup (around edgeless size i) ≡ true
unfolding around
around_nodup false size i = range_nodup (i - 1) (span size i)
around_nodup true size i = go (wraps_cases size i)
  where
    go : Wraps size i → nodup (around true size i) ≡ true
    go (inl e) = rw e
    go (inr ((w, on), e)) =
        let apart = lines_apart size i w on in
        rw (e, ne_eqb (line_before size i) i apart.before_other, ne_eqb (line_before size i) (line_after size i) apart.before_after_other, ne_eqb i (line_after size i) apart.after_other)

around_few : (edgeless : Bool) (size i : ℕ) → length (around edgeless size i) ≤ 3
unfolding around
around_few false size i = rw length_range (omega arith)
around_few true size i = go (wraps_cases size i)
  where
    go : Wraps size i → length (around true size i) ≤ 3
    go (inl e) = rw e (omega arith)
    go (inr (w, e)) = rw e (omega arith)

-- ---- the block of some rows and columns

-- a cell's number tells its row and its column
cell_eqb : (columns i j x : ℕ) → j < columns → eqb x (i * columns + j) ≡ (eqb (x / columns) i && eqb (x % columns) j)
cell_eqb columns i j x l =
    same_test
    _
    _
    (λ h. there (eqb-true x (i * columns + j) h))
    (λ h. back (eqb-true (x / columns) i (and_left _ (eqb (x % columns) j) h)) (eqb-true (x % columns) j (and_right (eqb (x / columns) i) _ h)))
  where
    there : x ≡ i * columns + j → (eqb (x / columns) i && eqb (x % columns) j) ≡ true
    there e = rw (e, digits_div i l, digits_mod i l, eq-eqb i i refl) (eq-eqb j j refl)

    back : x / columns ≡ i → x % columns ≡ j → eqb x (i * columns + j) ≡ true
    back d m = eq-eqb x (i * columns + j) (sym (div-add-mod' x columns) ∙ rw (d, m))

module _ (columns : ℕ) where
  row_has : (i x : ℕ) (js : List ℕ) → ((j : ℕ) → has js j ≡ true → j < columns)
      → has (map (λ (j : ℕ). i * columns + j) js) x ≡ (eqb (x / columns) i && has js (x % columns))
  row_has i x [] h = go (eqb (x / columns) i)
    where
      go : (e : Bool) → false ≡ (e && false)
      go true = refl
      go false = refl
  row_has i x (j ∷ js) h =
      rw (cell_eqb columns i j x (h j (has_head j js)), row_has i x js (λ k e. h k (has_tail j js k e)))
      (go (eqb (x / columns) i) (eqb (x % columns) j) (has js (x % columns)))
    where
      go : (a b c : Bool) → (a && b || a && c) ≡ (a && (b || c))
      go true b c = refl
      go false b c = refl

  in_row : (i x : ℕ) (js : List ℕ) → ((j : ℕ) → has js j ≡ true → j < columns) → has (map (λ (j : ℕ). i * columns + j) js) x ≡ true
      → (x / columns ≡ i) × (has js (x % columns) ≡ true)
  in_row i x js h e =
      let both = sym (row_has i x js h) ∙ e in
      (eqb-true (x / columns) i (and_left _ (has js (x % columns)) both), and_right (eqb (x / columns) i) _ both)

  block_has : (is js : List ℕ) → ((j : ℕ) → has js j ≡ true → j < columns) → (x : ℕ)
      → has (block columns is js) x ≡ (has is (x / columns) && has js (x % columns))
  block_has [] js h x = refl
  block_has (i ∷ is) js h x =
      has_append (map (λ (j : ℕ). i * columns + j) js) (block columns is js) x
      ∙ rw (row_has i x js h, block_has is js h x) (go (eqb (x / columns) i) (has is (x / columns)) (has js (x % columns)))
    where
      go : (a b c : Bool) → (a && c || b && c) ≡ ((a || b) && c)
      go true true true = refl
      go true true false = refl
      go true false true = refl
      go true false false = refl
      go false b c = refl

  row_nodup : (i : ℕ) (js : List ℕ) → ((j : ℕ) → has js j ≡ true → j < columns) → nodup js ≡ true → nodup (map (λ (j : ℕ). i * columns + j) js) ≡ true
  row_nodup i [] h n = refl
  row_nodup i (j ∷ js) h n = rw out (row_nodup i js others (nodup_tail j js n))
    where
      others : (k : ℕ) → has js k ≡ true → k < columns
      others k e = h k (has_tail j js k e)

      out : has (map (λ (k : ℕ). i * columns + k) js) (i * columns + j) ≡ false
      out = row_has i (i * columns + j) js others
          ∙ rw (digits_div i (h j (has_head j js)), digits_mod i (h j (has_head j js)), eq-eqb i i refl) (nodup_head j js n)

  block_nodup : (is js : List ℕ) → ((j : ℕ) → has js j ≡ true → j < columns) → nodup is ≡ true → nodup js ≡ true → nodup (block columns is js) ≡ true
  block_nodup [] js h a b = refl
  block_nodup (i ∷ is) js h a b =
      nodup_append (map (λ (j : ℕ). i * columns + j) js) (block columns is js) (row_nodup i js h b) (block_nodup is js h (nodup_tail i is a) b) apart
    where
      apart : (x : ℕ) → has (map (λ (j : ℕ). i * columns + j) js) x ≡ true → has (block columns is js) x ≡ false
      apart x e = let (row, column) = in_row i x js h e in block_has is js h x ∙ rw (row, nodup_head i is a)

  length_block : (is js : List ℕ) → length (block columns is js) ≡ length is * length js
  length_block [] js = omega arith
  length_block (i ∷ is) js =
      omega (
        arith,
        length-append (map (λ (j : ℕ). i * columns + j) js) (block columns is js),
        length-map js (λ (j : ℕ). i * columns + j),
        length_block is js,
        suc-mul (length is) (length js),
      )

-- ---- one number taken out

length_without : (c : ℕ) (l : List ℕ) → nodup l ≡ true → has l c ≡ true → length l ≡ length (without c l) + 1
length_without c l n h = omega (arith, rw h at (count_out (λ _. true) c l n), count_all l, count_all (without c l))

-- ---- the neighbours

-- a cell d on the board, other than c, whose row and column are near those of c
pub record Touch (edgeless : Bool) (rows columns c d : ℕ) : Type 0 where
  pub other : d ≢ c
  pub on_board : d / columns < rows
  pub near_rows : NearOn edgeless rows (c / columns) (d / columns)
  pub near_columns : NearOn edgeless columns (c % columns) (d % columns)

module _ (edgeless : Bool) (rows columns c : ℕ) where
  -- the cell and its neighbours
  abbrev window : List ℕ
  window = block columns (around edgeless rows (c / columns)) (around edgeless columns (c % columns))

  on_row : (j : ℕ) → has (around edgeless columns (c % columns)) j ≡ true → j < columns
  on_row j e = (around_in edgeless columns (c % columns) j e).0

  window_has : (d : ℕ) → has window d ≡ (has (around edgeless rows (c / columns)) (d / columns) && has (around edgeless columns (c % columns)) (d % columns))
  window_has d = block_has columns (around edgeless rows (c / columns)) (around edgeless columns (c % columns)) on_row d

  window_nodup : nodup window ≡ true
  window_nodup = block_nodup columns (around edgeless rows (c / columns)) (around edgeless columns (c % columns)) on_row
      (around_nodup edgeless rows (c / columns)) (around_nodup edgeless columns (c % columns))

  pub neighbours_has : (d : ℕ) → has (neighbours edgeless rows columns c) d
      ≡ (not (eqb d c) && (has (around edgeless rows (c / columns)) (d / columns) && has (around edgeless columns (c % columns)) (d % columns)))
  unfolding neighbours
  neighbours_has d = has_keep (λ x. not (eqb x c)) window d ∙ ap (λ (e : Bool). not (eqb d c) && e) (window_has d)

  pub neighbours_nodup : nodup (neighbours edgeless rows columns c) ≡ true
  unfolding neighbours
  neighbours_nodup = nodup_keep (λ x. not (eqb x c)) window window_nodup

  -- where the cells of the window are
  placed : (d : ℕ) → has window d ≡ true
      → ((d / columns < rows) × NearOn edgeless rows (c / columns) (d / columns)) × ((d % columns < columns) × NearOn edgeless columns (c % columns) (d % columns))
  placed d h =
      let both = sym (window_has d) ∙ h in (
        around_in edgeless rows (c / columns) (d / columns) (and_left (has (around edgeless rows (c / columns)) (d / columns)) _ both),
        around_in edgeless columns (c % columns) (d % columns) (and_right (has (around edgeless rows (c / columns)) (d / columns)) _ both),
      )

  -- a neighbour is a cell of the window, other than the cell itself
  in_window : (d : ℕ) → has (neighbours edgeless rows columns c) d ≡ true → has window d ≡ true
  unfolding neighbours
  in_window d h = kept_has (λ x. not (eqb x c)) window d h

  -- the neighbours touch
  pub neighbours_touch : (d : ℕ) → has (neighbours edgeless rows columns c) d ≡ true → Touch edgeless rows columns c d
  unfolding neighbours
  neighbours_touch d h =
      let (at_row, at_column) = placed d (in_window d h) in
      record {
        other = eqb-false d c (not-true (eqb d c) (kept_passes (λ x. not (eqb x c)) window d h));
        on_board = at_row.0;
        near_rows = at_row.1;
        near_columns = at_column.1;
      }

  pub neighbours_on : (d : ℕ) → has (neighbours edgeless rows columns c) d ≡ true → d < rows * columns
  neighbours_on d h =
      let (at_row, at_column) = placed d (in_window d h) in
      rw div-add-mod' at (digits_lt at_row.0 at_column.0)

-- and every cell that touches is a neighbour; without an edge on a board of at least 3 rows and columns, of which c is a cell
pub touch_neighbours : (edgeless : Bool) (rows columns c d : ℕ) → (edgeless ≡ true → (3 ≤ rows) × (3 ≤ columns) × (c < rows * columns)) → 0 < columns
    → Touch edgeless rows columns c d → has (neighbours edgeless rows columns c) d ≡ true
touch_neighbours edgeless rows columns c d wraps p t =
    neighbours_has edgeless rows columns c d
    ∙ rw (
      ne_eqb d c t.other,
      in_around edgeless rows (c / columns) (d / columns) (λ e. ((wraps e).0, (div-lt_iff_lt-mul p).1 (wraps e).2)) t.on_board t.near_rows,
      in_around edgeless columns (c % columns) (d % columns) (λ e. ((wraps e).1, mod-lt c p)) (mod-lt d p) t.near_columns,
    )

pub neighbours_mutual : (edgeless : Bool) (rows columns c d : ℕ) → c < rows * columns → has (neighbours edgeless rows columns c) d ≡ true
    → has (neighbours edgeless rows columns d) c ≡ true
neighbours_mutual edgeless rows columns c d l h =
    let p = some_column rows columns c l in
    let all = sym (neighbours_has edgeless rows columns c d) ∙ h in
    let lines = and_right (not (eqb d c)) _ all in
    let other : d ≢ c = eqb-false d c (not-true (eqb d c) (and_left (not (eqb d c)) _ all)) in
    neighbours_has edgeless rows columns d c
    ∙ rw (
      ne_eqb c d (λ e. other (sym e)),
      around_mutual edgeless rows (c / columns) (d / columns) ((div-lt_iff_lt-mul p).1 l) (and_left (has (around edgeless rows (c / columns)) (d / columns)) _ lines),
      around_mutual edgeless columns (c % columns) (d % columns) (mod-lt c p) (and_right (has (around edgeless rows (c / columns)) (d / columns)) _ lines),
    )

-- ---- at most eight, of every number: off the board, and on a side too short to wrap, there is one line around at most; else the cell itself is one of the
-- at most nine cells of its window, none of which stands there twice

-- the lines around a line are at most one, or the line is one of them
one_or_own : (edgeless : Bool) (size i : ℕ) → (length (around edgeless size i) ≤ 1) ⊎ (has (around edgeless size i) i ≡ true)
unfolding around
one_or_own false size i = go (dec_lt i size)
  where
    go : Dec (i < size) → (length (range (i - 1) (span size i)) ≤ 1) ⊎ (has (range (i - 1) (span size i)) i ≡ true)
    go (yes on) = inr (in_range (i - 1) (span size i) i (omega arith) (omega arith))
    go (no off) = inl (rw length_range (omega (arith, off)))
one_or_own true size i = go (wraps_cases size i)
  where
    go : Wraps size i → (length (around true size i) ≤ 1) ⊎ (has (around true size i) i ≡ true)
    go (inl e) = inl (rw e (omega arith))
    go (inr (w, e)) = inr (rw (e, eq-eqb i i refl) (or_right (eqb i (line_before size i)) (true || (eqb i (line_after size i) || false)) refl))

pub neighbours_few : (edgeless : Bool) (rows columns c : ℕ) → length (neighbours edgeless rows columns c) ≤ 8
unfolding neighbours
neighbours_few edgeless rows columns c = go (one_or_own edgeless rows (c / columns)) (one_or_own edgeless columns (c % columns))
  where
    above : List ℕ
    above = around edgeless rows (c / columns)

    beside : List ℕ
    beside = around edgeless columns (c % columns)

    go : (length above ≤ 1) ⊎ (has above (c / columns) ≡ true) → (length beside ≤ 1) ⊎ (has beside (c % columns) ≡ true)
        → length (without c (block columns above beside)) ≤ 8
    go (inl e) k =
        keep_few (λ x. not (eqb x c)) (block columns above beside)
        (omega (arith, length_block columns above beside, mul-le-mul_right (length beside) e, around_few edgeless columns (c % columns)))
    go (inr h) (inl e) =
        keep_few (λ x. not (eqb x c)) (block columns above beside)
        (omega (arith, length_block columns above beside, mul-le-mul_left (length above) e, around_few edgeless rows (c / columns)))
    go (inr h) (inr k) =
        omega (
          arith,
          length_without c (block columns above beside) (window_nodup edgeless rows columns c) (window_has edgeless rows columns c c ∙ rw (h, k)),
          length_block columns above beside,
          mul-le-mul_right (length beside) (around_few edgeless rows (c / columns)),
          mul-le-mul_left 3 (around_few edgeless columns (c % columns)),
        )

-- ---- the ends of a window

pub high_bound : (edgeless : Bool) (size i : ℕ) → i < size → (high_at edgeless size i ≤ size + size) × (high_at edgeless size i ≤ low_at edgeless size i + 3)
high_bound false size i on = (omega arith, omega arith)
high_bound true size i on = go (decided (leb 3 size)) (decided (eqb i 0))
  where
    go : Decided (leb 3 size) → Decided (eqb i 0) → (high_at true size i ≤ size + size) × (high_at true size i ≤ low_at true size i + 3)
    go (inl a) (inl b) = let w : 3 ≤ size = leb-true 3 size a in rw (a, b) (omega arith, omega arith)
    go (inl a) (inr b) = let w : 3 ≤ size = leb-true 3 size a in rw (a, b) (omega arith, omega arith)
    go (inr a) (inl b) = rw (a, b) (omega arith, omega arith)
    go (inr a) (inr b) = rw (a, b) (omega arith, omega arith)

-- ---- a row and a column on the board

-- their cell's number is below the size of the board, which is at most 1024
pub cell_on : (rows columns row column : ℕ) → Sized rows columns → On rows columns row column
    → (row * columns + column < rows * columns) × (rows * columns ≤ 1024)
cell_on rows columns row column sized on =
    (digits_lt on.in_rows on.in_columns, few_cells sized)
