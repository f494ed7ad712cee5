-- A cell of an inner row and an inner column has eight neighbours at fixed distances, with an edge or without: there no line is missing and none is folded.
-- Assumes nothing.
use Prim.Native.Nat.{ℕ, suc, ◌+◌, ◌-◌, ◌*◌, ◌≤◌, ◌<◌, min}
use mathlib.Core.Path.{◌≡◌, refl}
use mathlib.Core.Logic.{◌≢◌}
use mathlib.Core.Bool.{Bool, true, false}
use mathlib.Core.List.{[], ◌∷◌}
use native.Mathlib.Nat.{suc-mul, mul-le-mul_right}
use native.Mathlib.Omega.{arith}
use lib.Arith.{digits_div, digits_mod}
use lib.Dec.{ltb}
use borrow.Author.Tests.{eq-eqb, ne_eqb, le-leb, lt-ltb, ltb-true}
use Rattle.lists.specs.Lists.{without}
use Rattle.lists.proofs.Tests.{and_left, and_right}
use Rattle.grid.specs.Window.{around, neighbours, is_inner, eight_around, On}

-- an inner line has one before it and one after it
record Inner (size i : ℕ) : Type 0 where
  before : 0 < i
  after : i + 1 < size

is_inner_lem : (size i : ℕ) → is_inner size i ≡ true → Inner size i
is_inner_lem size i h =
    record { before = ltb-true 0 i (and_left (ltb 0 i) (ltb (i + 1) size) h); after = ltb-true (i + 1) size (and_right (ltb 0 i) (ltb (i + 1) size) h) }

inner_around : (edgeless : Bool) (size i : ℕ) → Inner size i → around edgeless size i ≡ (i - 1) ∷ i ∷ (i + 1) ∷ []
unfolding around
inner_around false size i inner =
    let three : min (i + 2) size - (i - 1) ≡ 3 = omega (arith, inner) in
    let own : suc (i - 1) ≡ i = omega (arith, inner) in
    let after : suc i ≡ i + 1 = omega arith in
    rw (three, own, after)
inner_around true size i inner =
    rw (le-leb 3 size (omega (arith, inner)), lt-ltb i size (omega (arith, inner)), ne_eqb i 0 (λ e. omega (arith, inner, e)), ne_eqb (i + 1) size (λ e. omega (arith, inner, e)))

-- the middle one of nine is left out
middle_out : (e : ℕ) {a b c d f g h i : ℕ} → a ≢ e → b ≢ e → c ≢ e → d ≢ e → f ≢ e → g ≢ e → h ≢ e → i ≢ e
    → without e (a ∷ b ∷ c ∷ d ∷ e ∷ f ∷ g ∷ h ∷ i ∷ []) ≡ a ∷ b ∷ c ∷ d ∷ f ∷ g ∷ h ∷ i ∷ []
middle_out e na nb nc nd nf ng nh ni =
    rw (ne_eqb _ _ na, ne_eqb _ _ nb, ne_eqb _ _ nc, ne_eqb _ _ nd, eq-eqb e e refl, ne_eqb _ _ nf, ne_eqb _ _ ng, ne_eqb _ _ nh, ne_eqb _ _ ni)

module _ (rows columns row column : ℕ) (on : On rows columns row column) (inner_row : is_inner rows row ≡ true) (inner_column : is_inner columns column ≡ true) where
  abbrev own : ℕ
  own = row * columns + column

  -- the rows above and below begin so many cells before and behind
  above : (row - 1) * columns ≡ row * columns - columns
  above = let next : suc (row - 1) ≡ row = omega (arith, (is_inner_lem rows row inner_row).before) in let e = rw next at (suc-mul (row - 1) columns) in omega (arith, e)

  below : (row + 1) * columns ≡ row * columns + columns
  below = let next : suc row ≡ row + 1 = omega arith in rw next at (suc-mul row columns)

  -- there are three columns at least
  inner_wide : 3 ≤ columns
  inner_wide = let inner = is_inner_lem columns column inner_column in omega (arith, inner)

  -- and the cell has a row and a cell before it
  row_full : columns ≤ row * columns
  row_full = omega (arith, mul-le-mul_right columns (is_inner_lem rows row inner_row).before)

  pub row_above : columns + 1 ≤ own
  row_above = omega (arith, row_full, (is_inner_lem columns column inner_column).before)

  pub inner_neighbours : (edgeless : Bool) → neighbours edgeless rows columns own ≡ eight_around columns own
  unfolding neighbours
  inner_neighbours edgeless =
      let is_row = inner_around edgeless rows row (is_inner_lem rows row inner_row) in
      let is_column = inner_around edgeless columns column (is_inner_lem columns column inner_column) in
      let column_before = (is_inner_lem columns column inner_column).before in
      let first : (row - 1) * columns + (column - 1) ≡ own - columns - 1 = omega (arith, above, row_full, column_before) in
      let second : (row - 1) * columns + column ≡ own - columns = omega (arith, above, row_full) in
      let third : (row - 1) * columns + (column + 1) ≡ own - columns + 1 = omega (arith, above, row_full) in
      let fourth : row * columns + (column - 1) ≡ own - 1 = omega (arith, column_before) in
      let sixth : row * columns + (column + 1) ≡ own + 1 = omega arith in
      let seventh : (row + 1) * columns + (column - 1) ≡ own + columns - 1 = omega (arith, below, column_before) in
      let eighth : (row + 1) * columns + column ≡ own + columns = omega (arith, below) in
      let ninth : (row + 1) * columns + (column + 1) ≡ own + columns + 1 = omega (arith, below) in
      let some : 0 < columns = omega (arith, on.in_columns) in
      rw (digits_div row on.in_columns, digits_mod row on.in_columns, is_row, is_column, first, second, third, fourth, sixth, seventh, eighth, ninth)
      (middle_out own (λ e. omega (arith, e, row_above)) (λ e. omega (arith, e, row_above, some)) (λ e. omega (arith, e, row_above, on.in_columns, inner_wide))
      (λ e. omega (arith, e, row_above)) (λ e. omega (arith, e)) (λ e. omega (arith, e, inner_wide)) (λ e. omega (arith, e, some)) (λ e. omega (arith, e)))
