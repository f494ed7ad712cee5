-- Cited by no public contract. What the functions that look for the shapes are told: the board laid out in 32 rows of 32, and tables, whose entries are the
-- cells of shapes one after another. An entry leads, for the case that its cell has something else than it asks for, past the shapes that ask for the same
-- cell. Assumes nothing.
use Rattle.std.specs.Prelude.{Bool, true, false, cond, ◌&&◌, ◌||◌, List, [], ◌∷◌, ◌≡◌, ℕ, ◌+◌, ◌-◌, ◌<◌, leb, ltb, eqb, length, get_or, drop}
use Rattle.lists.specs.Lists.{every, any}
use Rattle.patterns.specs.Shapes.{among_mines, PatternCell, Shape}

-- ---- the board

-- the cell at a row and a column of rows of cells
abbrev pub cell_at : List (List ℕ) → ℕ → ℕ → ℕ
cell_at g i j = get_or (get_or g i []) j 0

-- g is the board among mines, from its first row and column on
pub record Laid (rows columns : ℕ) (b : List ℕ) (g : List (List ℕ)) : Type 0 where
  pub cells : (i j : ℕ) → i < 32 → j < 32 → cell_at g i j ≡ among_mines rows columns b (i + 1) (j + 1)

-- what g has, counted from the frame, with a mine everywhere outside g and 1 beyond the frame
unfoldable pub laid_at : ℕ → ℕ → List (List ℕ) → ℕ → ℕ → ℕ
laid_at rows columns g row column =
    cond (leb row (rows + 1) && leb column (columns + 1))
    (cond ((leb 1 row && leb row 32) && (leb 1 column && leb column 32)) (cell_at g (row - 1) (column - 1)) 255)
    1

-- ---- the tables

-- the cell of an entry, which is rows down, columns across, what is asked for, 1 at the last cell of a shape, and the entry to go on with where that is not there
abbrev pub entry_cell : List ℕ → PatternCell
entry_cell e = record { down = get_or e 0 0; across = get_or e 1 0; wanted = get_or e 2 0 }

-- the entry to go on with
abbrev pub entry_next : List ℕ → ℕ
entry_next e = get_or e 4 0

-- a cell that comes before some shapes: a shape of its own where it is the last of one, else a cell of the first of them
abbrev pub with_cell : PatternCell → Bool → List Shape → List Shape
with_cell p true ss = (p ∷ []) ∷ ss
with_cell p false [] = []
with_cell p false (s ∷ ss) = (p ∷ s) ∷ ss

-- the shapes that a table lists
abbrev pub shapes_of : List (List ℕ) → List Shape
shapes_of [] = []
shapes_of (e ∷ es) = with_cell (entry_cell e) (eqb (get_or e 3 0) 1) (shapes_of es)

-- two cells are equal
abbrev pub same_cell : PatternCell → PatternCell → Bool
same_cell p q = eqb p.down q.down && (eqb p.across q.across && eqb p.wanted q.wanted)

-- two lists are equal, element by element by a test
abbrev pub same_by : {A : Type 0} → (A → A → Bool) → List A → List A → Bool
same_by eq [] [] = true
same_by eq [] (y ∷ k) = false
same_by eq (x ∷ l) [] = false
same_by eq (x ∷ l) (y ∷ k) = eq x y && same_by eq l k

-- two lists of shapes are equal
abbrev pub same_shapes : List Shape → List Shape → Bool
same_shapes = same_by (same_by same_cell)

-- the second list is the first without some shapes at its front that all have the cell p
abbrev pub passes : PatternCell → List Shape → List Shape → Bool
passes p [] past = same_shapes [] past
passes p (s ∷ ss) past = same_shapes (s ∷ ss) past || (any (same_cell p) s && passes p ss past)

-- the entry k leads on, and from the shapes after its own past some that all have its cell
abbrev pub link_right : List (List ℕ) → ℕ → Bool
link_right table k =
    passes (entry_cell (get_or table k [])) (drop 1 (shapes_of (drop k table))) (shapes_of (drop (entry_next (get_or table k [])) table))
    && (ltb k (entry_next (get_or table k [])) && leb (entry_next (get_or table k [])) (length table))

-- every entry of the table leads on rightly
unfoldable pub links_right : List (List ℕ) → Bool
links_right table = every (length table) (link_right table)
