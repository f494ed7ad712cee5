-- What each shape of the table is, in words of mines: a shape fits exactly where its words hold. Rows and columns in the words are counted from the anchor, and
-- the laws are of whatever stands at each place. The idea: a shape's test is a chain of tests of single cells, and two shapes that begin alike share the words of
-- the cells that they share. Rests on the laws of `all`. Assumes nothing.
use mathlib.Core.Path.{◌≡◌, refl, sym, ap, ◌∙◌}
use mathlib.Core.Logic.{◌⊎◌, inl, inr, ⊎_elim, ◌↔◌}
use mathlib.Core.Bool.{true, false, ◌||◌}
use mathlib.Core.List.{[], ◌∷◌, ◌++◌}
use Prim.Native.Nat.{ℕ, ◌+◌}
use native.Mathlib.Omega.{arith}
use lib.Dec.{eqb}
use borrow.Author.Tests.{eqb-true, eq-eqb}
use Rattle.lists.specs.Lists.{all}
use Rattle.lists.proofs.Tests.{clash, and_left, and_right, or_cases, or_left, or_right}
use Rattle.lists.proofs.All.{all_append}
use Rattle.patterns.specs.Shapes.{PatternCell, mine, safe, Shape, ring, two_columns, between_columns, two_rows, between_rows, four_corners, diagonals, top_left, top_right, bottom_left, bottom_right, asked, shape_at, found_at}

module _ (at : ℕ → ℕ → ℕ) (row column : ℕ) where
  -- so many rows down and columns across from the anchor stands a mine, or a safe cell
  abbrev pub Mine : ℕ → ℕ → Type 0
  Mine down across = at (row + down) (column + across) ≡ 255

  abbrev pub Safe : ℕ → ℕ → Type 0
  Safe down across = at (row + down) (column + across) ≡ 0

  -- ---- from tests to words

  -- what the cells of a list ask for is there
  abbrev Asks : Shape → Type 0
  Asks [] = Unit {0}
  Asks (p ∷ s) = (at (row + p.down) (column + p.across) ≡ p.wanted) × Asks s

  words : (s : Shape) → all (asked at row column) s ≡ true → Asks s
  words [] h = tt
  words (p ∷ s) h =
      let there = at (row + p.down) (column + p.across) in
      let rest = all (asked at row column) s in
      (eqb-true there p.wanted (and_left (eqb there p.wanted) rest h), words s (and_right (eqb there p.wanted) rest h))

  tests : (s : Shape) → Asks s → all (asked at row column) s ≡ true
  tests [] w = refl
  tests (p ∷ s) w = rw (eq-eqb _ _ w.0) (tests s w.1)

  anchor_place : at row column ≡ at (row + 0) (column + 0)
  anchor_place =
      let r : row ≡ row + 0 = omega arith in
      let c : column ≡ column + 0 = omega arith in
      ap (λ (x : ℕ). at x column) r ∙ ap (at (row + 0)) c

  fit_words : (s : Shape) → shape_at at row column s ≡ true → Mine 0 0 × Asks s
  fit_words s h =
      let anchor = eqb (at row column) 255 in
      let others = all (asked at row column) s in
      (sym anchor_place ∙ eqb-true (at row column) 255 (and_left anchor others h), words s (and_right anchor others h))

  words_fit : (s : Shape) → Mine 0 0 → Asks s → shape_at at row column s ≡ true
  words_fit s m w = rw (eq-eqb _ _ (anchor_place ∙ m)) (tests s w)

  -- two shapes that begin alike
  module _ (s x y : Shape) where
    parted : (z : Shape) → shape_at at row column (s ++ z) ≡ true → (Mine 0 0 × Asks s) × Asks z
    parted z h =
        let anchor = eqb (at row column) 255 in
        let test = all (asked at row column) in
        let both = sym (all_append (asked at row column) s z) ∙ and_right anchor (test (s ++ z)) h in
        (((fit_words (s ++ z) h).0, words s (and_left (test s) (test z) both)), words z (and_right (test s) (test z) both))

    joint : (z : Shape) → (Mine 0 0 × Asks s) × Asks z → shape_at at row column (s ++ z) ≡ true
    joint z w = rw (eq-eqb _ _ (anchor_place ∙ w.0.0), all_append (asked at row column) s z, tests s w.0.1) (tests z w.1)

    found_words : found_at at row column ((s ++ x) ∷ (s ++ y) ∷ []) ≡ true → (Mine 0 0 × Asks s) × (Asks x ⊎ Asks y)
    unfolding found_at
    found_words h = go (or_cases (shape_at at row column (s ++ x)) (shape_at at row column (s ++ y) || false) h)
      where
        go : (shape_at at row column (s ++ x) ≡ true) ⊎ ((shape_at at row column (s ++ y) || false) ≡ true) → (Mine 0 0 × Asks s) × (Asks x ⊎ Asks y)
        go (inl e) = let w = parted x e in (w.0, inl w.1)
        go (inr e) = ⊎_elim (λ f. let w = parted y f in (w.0, inr w.1)) (λ f. clash false f refl) (or_cases (shape_at at row column (s ++ y)) false e)

    words_found : Mine 0 0 → Asks s → Asks x ⊎ Asks y → found_at at row column ((s ++ x) ∷ (s ++ y) ∷ []) ≡ true
    unfolding found_at
    words_found m w (inl z) = or_left (shape_at at row column (s ++ x)) (shape_at at row column (s ++ y) || false) (joint x ((m, w), z))
    words_found m w (inr z) =
        or_right (shape_at at row column (s ++ x)) (shape_at at row column (s ++ y) || false) (or_left (shape_at at row column (s ++ y)) false (joint y ((m, w), z)))

  -- ---- 3 × 3: mines around a safe cell

  pub record Ring : Type 0 where
    pub top : Mine 0 0 × Mine 0 1 × Mine 0 2
    pub middle : Mine 1 0 × Safe 1 1 × Mine 1 2
    pub bottom : Mine 2 0 × Mine 2 1 × Mine 2 2

  pub ring_fits : (shape_at at row column ring ≡ true) ↔ Ring
  ring_fits = (there, back)
    where
      there : shape_at at row column ring ≡ true → Ring
      there h =
          let (m00, (m01, (m02, (m10, (m12, (m20, (m21, (m22, (s11, _))))))))) = fit_words ring h in
          record { top = (m00, m01, m02); middle = (m10, s11, m12); bottom = (m20, m21, m22) }

      back : Ring → shape_at at row column ring ≡ true
      back r =
          let (m00, m01, m02) = r.top in
          let (m10, s11, m12) = r.middle in
          let (m20, m21, m22) = r.bottom in
          words_fit ring m00 (m01, (m02, (m10, (m12, (m20, (m21, (m22, (s11, tt))))))))

  -- ---- 3 × 4: mines in the outer columns, and one mine between them in the middle row

  -- one of two cells is a mine, and the other is safe
  abbrev pub OneMine : ℕ → ℕ → ℕ → ℕ → Type 0
  OneMine d a e b = (Mine d a × Safe e b) ⊎ (Safe d a × Mine e b)

  pub record BetweenColumns : Type 0 where
    pub left : Mine 0 0 × Mine 1 0 × Mine 2 0
    pub right : Mine 0 3 × Mine 1 3 × Mine 2 3
    pub between : OneMine 1 1 1 2

  pub columns_fit : (found_at at row column between_columns ≡ true) ↔ BetweenColumns
  columns_fit = (there, back)
    where
      there : found_at at row column between_columns ≡ true → BetweenColumns
      there h =
          let ((m00, (m03, (m10, (m20, (m13, (m23, _)))))), middle) = found_words two_columns (mine 1 1 ∷ safe 1 2 ∷ []) (safe 1 1 ∷ mine 1 2 ∷ []) h in
          record {
            left = (m00, m10, m20);
            right = (m03, m13, m23);
            between = ⊎_elim (λ w. inl (w.0, w.1.0)) (λ w. inr (w.0, w.1.0)) middle;
          }

      back : BetweenColumns → found_at at row column between_columns ≡ true
      back c =
          let (m00, m10, m20) = c.left in
          let (m03, m13, m23) = c.right in
          words_found two_columns (mine 1 1 ∷ safe 1 2 ∷ []) (safe 1 1 ∷ mine 1 2 ∷ []) m00 (m03, (m10, (m20, (m13, (m23, tt)))))
          (⊎_elim (λ w. inl (w.0, (w.1, tt))) (λ w. inr (w.0, (w.1, tt))) c.between)

  -- ---- 4 × 4: mines at the corners, and in the middle two mines on a diagonal, the other two safe

  abbrev pub Corners : Type 0
  Corners = Mine 0 0 × Mine 0 3 × Mine 3 0 × Mine 3 3

  -- two shapes that begin with the corners
  with_corners : (x y : Shape) {X Y : Type 0} → (Asks x ↔ X) → (Asks y ↔ Y)
      → (found_at at row column ((four_corners ++ x) ∷ (four_corners ++ y) ∷ []) ≡ true) ↔ (Corners × (X ⊎ Y))
  with_corners x y {X} {Y} f g = (there, back)
    where
      there : found_at at row column ((four_corners ++ x) ∷ (four_corners ++ y) ∷ []) ≡ true → Corners × (X ⊎ Y)
      there h =
          let ((m00, (m03, (m30, (m33, _)))), middle) = found_words four_corners x y h in
          ((m00, m03, m30, m33), ⊎_elim (λ w. inl (f.0 w)) (λ w. inr (g.0 w)) middle)

      back : Corners × (X ⊎ Y) → found_at at row column ((four_corners ++ x) ∷ (four_corners ++ y) ∷ []) ≡ true
      back w =
          let (m00, m03, m30, m33) = w.0 in
          words_found four_corners x y m00 (m03, (m30, (m33, tt))) (⊎_elim (λ v. inl (f.1 v)) (λ v. inr (g.1 v)) w.1)

  -- the words of three cells, and of four
  module _ (p q r : PatternCell) where
    abbrev Has : PatternCell → Type 0
    Has t = at (row + t.down) (column + t.across) ≡ t.wanted

    three : Asks (p ∷ q ∷ r ∷ []) ↔ (Has p × Has q × Has r)
    three = (λ w. (w.0, w.1.0, w.1.1.0), λ w. (w.0, (w.1, (w.2, tt))))

    four : (t : PatternCell) → Asks (p ∷ q ∷ r ∷ t ∷ []) ↔ (Has p × Has q × Has r × Has t)
    four t = (λ w. (w.0, w.1.0, w.1.1.0, w.1.1.1.0), λ w. (w.0, (w.1, (w.2, (w.3, tt)))))

  pub diagonals_fit : (found_at at row column diagonals ≡ true)
      ↔ (Corners × ((Mine 1 1 × Safe 1 2 × Safe 2 1 × Mine 2 2) ⊎ (Safe 1 1 × Mine 1 2 × Mine 2 1 × Safe 2 2)))
  diagonals_fit = with_corners _ _ (four (mine 1 1) (safe 1 2) (safe 2 1) (mine 2 2)) (four (safe 1 1) (mine 1 2) (mine 2 1) (safe 2 2))

  -- ---- the same in a corner of the board, whose corner cell is free: 1,1 at the top left, 1,2 at the top right, 2,1 at the bottom left, 2,2 at the bottom right

  pub top_left_fit : (found_at at row column top_left ≡ true) ↔ (Corners × ((Safe 1 2 × Safe 2 1 × Mine 2 2) ⊎ (Mine 1 2 × Mine 2 1 × Safe 2 2)))
  top_left_fit = with_corners _ _ (three (safe 1 2) (safe 2 1) (mine 2 2)) (three (mine 1 2) (mine 2 1) (safe 2 2))

  pub top_right_fit : (found_at at row column top_right ≡ true) ↔ (Corners × ((Mine 1 1 × Safe 2 1 × Mine 2 2) ⊎ (Safe 1 1 × Mine 2 1 × Safe 2 2)))
  top_right_fit = with_corners _ _ (three (mine 1 1) (safe 2 1) (mine 2 2)) (three (safe 1 1) (mine 2 1) (safe 2 2))

  pub bottom_left_fit : (found_at at row column bottom_left ≡ true) ↔ (Corners × ((Mine 1 1 × Safe 1 2 × Mine 2 2) ⊎ (Safe 1 1 × Mine 1 2 × Safe 2 2)))
  bottom_left_fit = with_corners _ _ (three (mine 1 1) (safe 1 2) (mine 2 2)) (three (safe 1 1) (mine 1 2) (safe 2 2))

  pub bottom_right_fit : (found_at at row column bottom_right ≡ true) ↔ (Corners × ((Mine 1 1 × Safe 1 2 × Safe 2 1) ⊎ (Safe 1 1 × Mine 1 2 × Mine 2 1)))
  bottom_right_fit = with_corners _ _ (three (mine 1 1) (safe 1 2) (safe 2 1)) (three (safe 1 1) (mine 1 2) (mine 2 1))

-- ---- 4 × 3: the same as 3 × 4, with rows and columns exchanged

pub rows_fit : (at : ℕ → ℕ → ℕ) (row column : ℕ) → (found_at at row column between_rows ≡ true) ↔ BetweenColumns (λ i j. at j i) column row
rows_fit at row column = (there, back)
  where
    there : found_at at row column between_rows ≡ true → BetweenColumns (λ i j. at j i) column row
    there h =
        let ((m00, (m01, (m02, (m30, (m31, (m32, _)))))), middle) = found_words at row column two_rows (mine 1 1 ∷ safe 2 1 ∷ []) (safe 1 1 ∷ mine 2 1 ∷ []) h in
        record {
          left = (m00, m01, m02);
          right = (m30, m31, m32);
          between = ⊎_elim (λ w. inl (w.0, w.1.0)) (λ w. inr (w.0, w.1.0)) middle;
        }

    back : BetweenColumns (λ i j. at j i) column row → found_at at row column between_rows ≡ true
    back c =
        let (m00, m01, m02) = c.left in
        let (m30, m31, m32) = c.right in
        words_found at row column two_rows (mine 1 1 ∷ safe 2 1 ∷ []) (safe 1 1 ∷ mine 2 1 ∷ []) m00 (m01, (m02, (m30, (m31, (m32, tt)))))
        (⊎_elim (λ w. inl (w.0, (w.1, tt))) (λ w. inr (w.0, (w.1, tt))) c.between)
