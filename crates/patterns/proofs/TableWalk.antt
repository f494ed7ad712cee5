-- A walk over a table. Where the cell of an entry has what it asks for, the shapes listed from the next entry on answer for those listed from here on; where it has
-- something else, those listed from where the entry leads do, since every shape between asks for the same cell. The laws of one entry are of any test of cells;
-- the matcher's test is what stands at the cell. Assumes nothing.
use mathlib.Core.Path.{◌≡◌, refl, sym, ap, ◌∙◌}
use mathlib.Core.Logic.{◌⊎◌, inl, inr}
use mathlib.Core.Bool.{Bool, true, false, ◌&&◌, and-false}
use mathlib.Core.List.{List, [], ◌∷◌}
use Prim.Native.Nat.{ℕ, ◌+◌, ◌≤◌, ◌<◌}
use lib.Dec.{leb, ltb, eqb}
use lib.ListN.{length, get_or, drop}
use borrow.Author.Tests.{eqb-true, ltb-true, leb-true, eq-eqb, ne_eqb}
use Rattle.lists.specs.Lists.{any, all}
use Rattle.lists.proofs.Tests.{clash, and_left, and_right, or_cases, every_at}
use Rattle.lists.proofs.Arrays.{drop_more, drop_none}
use Rattle.patterns.specs.Shapes.{PatternCell, Shape, asked, found_at}
use Rattle.patterns.specs.Walk.{laid_at, entry_cell, entry_next, with_cell, shapes_of, same_cell, same_by, same_shapes, passes, link_right, links_right}
use Rattle.patterns.proofs.ListTests.{same_by_lem}

-- ---- shapes that are the same by their test are equal

-- a cell is told by its three numbers
cells_equal : (p q : PatternCell) → p.down ≡ q.down → p.across ≡ q.across → p.wanted ≡ q.wanted → p ≡ q
cells_equal p q d a w =
    let cell : ℕ → ℕ → ℕ → PatternCell = λ x y z. record { down = x; across = y; wanted = z } in
    ap (λ (x : ℕ). cell x p.across p.wanted) d ∙ ap (λ (y : ℕ). cell q.down y p.wanted) a ∙ ap (λ (z : ℕ). cell q.down q.across z) w

same_cell_lem : (p q : PatternCell) → same_cell p q ≡ true → p ≡ q
same_cell_lem p q h =
    let rest = eqb p.across q.across && eqb p.wanted q.wanted in
    let r = and_right (eqb p.down q.down) rest h in
    cells_equal
    p
    q
    (eqb-true p.down q.down (and_left (eqb p.down q.down) rest h))
    (eqb-true p.across q.across (and_left (eqb p.across q.across) (eqb p.wanted q.wanted) r))
    (eqb-true p.wanted q.wanted (and_right (eqb p.across q.across) (eqb p.wanted q.wanted) r))

same_shapes_lem : (l k : List Shape) → same_shapes l k ≡ true → l ≡ k
same_shapes_lem = same_by_lem (same_by same_cell) (same_by_lem same_cell same_cell_lem)

-- ---- one entry

module _ (f : PatternCell → Bool) where
  -- some shape has what it asks for in every cell
  abbrev pub some : List Shape → Bool
  some = any (all f)

  cell_fails : (p : PatternCell) (s : Shape) → f p ≡ false → any (same_cell p) s ≡ true → all f s ≡ false
  cell_fails p [] h e = clash false e refl
  cell_fails p (q ∷ s) h e = go (or_cases (same_cell p q) (any (same_cell p) s) e) (cell_fails p s h)
    where
      go : (same_cell p q ≡ true) ⊎ (any (same_cell p) s ≡ true) → (any (same_cell p) s ≡ true → all f s ≡ false) → (f q && all f s) ≡ false
      go (inl same) ih = rw (sym (same_cell_lem p q same), h)
      go (inr later) ih = rw (ih later) (and-false (f q))

  -- the shapes between ask for a cell that has something else
  passed : (p : PatternCell) (ss past : List Shape) → f p ≡ false → passes p ss past ≡ true → some ss ≡ some past
  passed p [] past h e = ap some (same_shapes_lem [] past e)
  passed p (s ∷ ss) past h e = go (or_cases (same_shapes (s ∷ ss) past) (any (same_cell p) s && passes p ss past) e) (passed p ss past h)
    where
      go : (same_shapes (s ∷ ss) past ≡ true) ⊎ ((any (same_cell p) s && passes p ss past) ≡ true) → (passes p ss past ≡ true → some ss ≡ some past) → some (s ∷ ss) ≡ some past
      go (inl same) ih = ap some (same_shapes_lem (s ∷ ss) past same)
      go (inr over) ih =
          rw (cell_fails p s h (and_left (any (same_cell p) s) (passes p ss past) over))
          (ih (and_right (any (same_cell p) s) (passes p ss past) over))

  -- the cell of an entry has what it asks for, and is the last of its shape
  last_hit : (p : PatternCell) (ss : List Shape) → f p ≡ true → some (with_cell p true ss) ≡ true
  last_hit p ss h = rw h

  -- or is not the last
  hit : (p : PatternCell) (ss : List Shape) → f p ≡ true → some (with_cell p false ss) ≡ some ss
  hit p [] h = refl
  hit p (s ∷ ss) h = rw h

  -- it has something else: the shape it is in is out
  miss : (p : PatternCell) (last : Bool) (ss : List Shape) → f p ≡ false → some (with_cell p last ss) ≡ some (drop 1 (with_cell p last ss))
  miss p true ss h = rw h
  miss p false [] h = refl
  miss p false (s ∷ ss) h = rw h

-- ---- the links of a table

module _ (table : List (List ℕ)) (right : links_right table ≡ true) (k : ℕ) (inside : k < length table) where
  abbrev next : ℕ
  next = entry_next (get_or table k [])

  abbrev leads : Bool
  leads = ltb k next && leb next (length table)

  abbrev over : Bool
  over = passes (entry_cell (get_or table k [])) (drop 1 (shapes_of (drop k table))) (shapes_of (drop next table))

  here : link_right table k ≡ true
  unfolding links_right
  here = every_at (length table) (link_right table) right k inside

  passes_over : over ≡ true
  passes_over = and_left over leads here

  pub leads_on : k < next
  leads_on = ltb-true k next (and_left (ltb k next) (leb next (length table)) (and_right over leads here))

  pub leads_within : next ≤ length table
  leads_within = leb-true next (length table) (and_right (ltb k next) (leb next (length table)) (and_right over leads here))

-- ---- the walk at an anchor of the laid board

module _ (rows columns : ℕ) (g : List (List ℕ)) (row column : ℕ) where
  -- the test of a cell at the anchor
  abbrev test : PatternCell → Bool
  test = asked (laid_at rows columns g) row column

  -- the shapes listed from the entry k on answer for all
  unfoldable pub Answers : List (List ℕ) → ℕ → Type 0
  Answers table k = some test (shapes_of (drop k table)) ≡ some test (shapes_of table)

  pub answers_start : (table : List (List ℕ)) → Answers table 0
  unfolding Answers
  answers_start table = refl

  -- an anchor that is no mine
  pub no_anchor : (ss : List Shape) → (laid_at rows columns g row column ≡ 255 → ⊥) → false ≡ found_at (laid_at rows columns g) row column ss
  unfolding found_at
  no_anchor [] h = refl
  no_anchor (s ∷ ss) h = rw (ne_eqb (laid_at rows columns g row column) 255 h) (no_anchor ss h)

  -- at an anchor that is a mine the other cells tell
  others : (ss : List Shape) → laid_at rows columns g row column ≡ 255 → some test ss ≡ found_at (laid_at rows columns g) row column ss
  unfolding found_at
  others [] h = refl
  others (s ∷ ss) h = rw (eq-eqb (laid_at rows columns g row column) 255 h, others ss h)

  module _ (table : List (List ℕ)) (mine : laid_at rows columns g row column ≡ 255) where
    -- no entry is left
    pub walk_ends : (k : ℕ) → length table ≤ k → Answers table k → false ≡ found_at (laid_at rows columns g) row column (shapes_of table)
    unfolding Answers
    walk_ends k end left = rw (drop_none table k end) at left ∙ others (shapes_of table) mine

    -- one turn: x and y are the entry's place, and v is what stands there
    module _ (right : links_right table ≡ true) (k : ℕ) (inside : k < length table) (x y v : ℕ) (down : x ≡ get_or (get_or table k []) 0 0)
        (across : y ≡ get_or (get_or table k []) 1 0) (stands : v ≡ laid_at rows columns g (row + x) (column + y)) (left : Answers table k) where
      abbrev entry : List ℕ
      entry = get_or table k []

      abbrev after : List Shape
      after = shapes_of (drop (k + 1) table)

      -- the entry's cell before the shapes that are listed after it
      listed : shapes_of (drop k table) ≡ with_cell (entry_cell entry) (eqb (get_or entry 3 0) 1) after
      listed = ap shapes_of (drop_more table k [] inside)

      here_is : v ≡ laid_at rows columns g (row + get_or entry 0 0) (column + get_or entry 1 0)
      here_is = rw (down, across) at stands

      as_asked : v ≡ get_or entry 2 0 → test (entry_cell entry) ≡ true
      as_asked h = eq-eqb _ _ (sym here_is ∙ h)

      not_asked : (v ≡ get_or entry 2 0 → ⊥) → test (entry_cell entry) ≡ false
      not_asked h = ne_eqb _ _ (λ e. h (here_is ∙ e))

      pub turn_ends : v ≡ get_or entry 2 0 → get_or entry 3 0 ≡ 1 → true ≡ found_at (laid_at rows columns g) row column (shapes_of table)
      unfolding Answers
      turn_ends h last =
          sym (last_hit test (entry_cell entry) after (as_asked h))
          ∙ (rw (listed, eq-eqb (get_or entry 3 0) 1 last) at left)
          ∙ others (shapes_of table) mine

      pub turn_further : v ≡ get_or entry 2 0 → (get_or entry 3 0 ≡ 1 → ⊥) → Answers table (k + 1)
      unfolding Answers
      turn_further h more = sym (hit test (entry_cell entry) after (as_asked h)) ∙ (rw (listed, ne_eqb (get_or entry 3 0) 1 more) at left)

      pub turn_past : (v ≡ get_or entry 2 0 → ⊥) → (n : ℕ) → n ≡ get_or entry 4 0 → Answers table n
      unfolding Answers
      turn_past h n is =
          let out = ap (some test) listed ∙ miss test (entry_cell entry) (eqb (get_or entry 3 0) 1) after (not_asked h) ∙ ap (λ (ss : List Shape). some test (drop 1 ss)) (sym listed) in
          rw is (sym (out ∙ passed test (entry_cell entry) (drop 1 (shapes_of (drop k table))) (shapes_of (drop (entry_next entry) table)) (not_asked h) (passes_over table right k inside)) ∙ left)
