-- A block's cells and equations between two places of the arrays, read forwards: the first, and those behind it. And the slots of an equation as the code
-- lists them. Rests on the laws of ranges. Assumes nothing.
use mathlib.Core.Path.{◌≡◌, refl, sym, ap, ◌∙◌}
use mathlib.Core.Bool.{Bool, true, false, cond}
use mathlib.Core.List.{List, [], ◌∷◌, map}
use Prim.Native.Nat.{ℕ, zero, suc, ◌+◌, ◌-◌, ◌*◌, ◌≤◌, ◌<◌}
use native.Mathlib.Omega.{arith}
use lib.Dec.{eqb, ltb}
use lib.ListN.{length, get_or, take, drop, length-take, length-map}
use borrow.Author.Tests.{lt-ltb}
use Rattle.lists.specs.Lists.{range, any, all}
use Rattle.lists.proofs.Members.{range_more, range_none}
use Rattle.lists.proofs.Rearranged.{length_range}
use Rattle.lists.proofs.PlacesAndRanges.{all_places}
use Rattle.lists.proofs.ReadBack.{range_made}
use Rattle.grid.specs.Window.{listed}
use Rattle.grid.specs.declared.window.UpToEight.{UpToEight}
use Rattle.blocks.specs.Blocks.{BlockEquation}
use Rattle.blocks.specs.BlockSets.{before, slot_cells, begin_at}
use Rattle.blocks.specs.Places.{marked, OnBoard, Slots, Cells, cells_from, equations_from}
use Rattle.blocks.proofs.EightCells.{cells_listed}

-- ---- cells

pub cells_more : (cells : List ℕ) (i end : ℕ) → i < end → cells_from cells i end ≡ get_or cells i 0 ∷ cells_from cells (i + 1) end
unfolding cells_from
cells_more cells i end h = ap (map (λ (k : ℕ). get_or cells k 0)) (range_more i end h)

pub cells_none : (cells : List ℕ) (i end : ℕ) → end ≤ i → cells_from cells i end ≡ []
unfolding cells_from
cells_none cells i end h = ap (map (λ (k : ℕ). get_or cells k 0)) (range_none i end h)

module _ (cells : List ℕ) (first end : ℕ) where
  pub length_cells : length (cells_from cells first end) ≡ end - first
  unfolding cells_from
  length_cells = length-map (range first (end - first)) (λ (k : ℕ). get_or cells k 0) ∙ length_range first (end - first)

  -- one of them, by its place among them
  pub cells_read : (k : ℕ) → k < length (cells_from cells first end) → get_or (cells_from cells first end) k 0 ≡ get_or cells (first + k) 0
  unfolding cells_from
  cells_read k h = range_made (λ (j : ℕ). get_or cells j 0) first (end - first) k 0 (omega (arith, length_cells))

  pub cell_place : (items : List ℕ) (k x : ℕ) → items ≡ cells_from cells first end → k < length items → x ≡ get_or items k 0
      → (first + k < end) × (x ≡ get_or cells (first + k) 0)
  cell_place items k x e h at =
      let inside : k < length (cells_from cells first end) = rw e at h in
      (omega (arith, length_cells), at ∙ ap (λ (l : List ℕ). get_or l k 0) e ∙ cells_read k inside)

  -- they are on the board
  pub cells_below : Cells cells end → all (λ c. ltb c 1024) (cells_from cells first end) ≡ true
  cells_below c =
      all_places (λ d. ltb d 1024) (cells_from cells first end) 0
      (λ k u. rw (cells_read k u) (lt-ltb (get_or cells (first + k) 0) 1024 (c.below (first + k) (omega (arith, length_cells)))))

-- ---- equations

module _ (slots rests : List ℕ) where
  -- the equation at a place
  abbrev pub equation_of : ℕ → BlockEquation
  equation_of e = record { cells = slot_cells slots e; rest = get_or rests e 0 }

  pub equations_more : (e end : ℕ) → e < end → equations_from slots rests e end ≡ equation_of e ∷ equations_from slots rests (e + 1) end
  unfolding equations_from
  equations_more e end h = ap (map equation_of) (range_more e end h)

  pub equations_none : (e end : ℕ) → end ≤ e → equations_from slots rests e end ≡ []
  unfolding equations_from
  equations_none e end h = ap (map equation_of) (range_none e end h)

-- ---- the slots of one equation

before_few : (x : ℕ) (l : List ℕ) → length (before x l) ≤ length l
before_few x [] = omega arith
before_few x (y ∷ l) = go (eqb y x) (before_few x l)
  where
    go : (t : Bool) → length (before x l) ≤ length l → length (cond t [] (y ∷ before x l)) ≤ length (y ∷ l)
    go true ih = omega arith
    go false ih = omega arith

pub slots_eight : (slots : List ℕ) (e : ℕ) → length (slot_cells slots e) ≤ 8
unfolding slot_cells
slots_eight slots e = omega (arith, before_few 65535 (take 8 (drop (e * 8) slots)), length-take 8 (drop (e * 8) slots))

module _ (near : UpToEight) (slots : List ℕ) (e : ℕ) (is : near ≡ listed (slot_cells slots e)) where
  pub listed_cells : take near.len near.cells ≡ slot_cells slots e
  listed_cells = cells_listed (slot_cells slots e) is

  pub listed_below : all (λ c. ltb c 1024) (slot_cells slots e) ≡ true → OnBoard near
  listed_below h = record { few = rw is (slots_eight slots e); below = rw listed_cells h }

  pub listed_on_board : (end : ℕ) → Slots slots end → e < end → OnBoard near
  listed_on_board end s h = listed_below (s.below e h)

  -- a cell of the equation is marked
  pub listed_marked : (marks : List ℕ) (t : Bool) → any (marked marks) (take near.len near.cells) ≡ t → any (marked marks) (slot_cells slots e) ≡ t
  listed_marked marks t h = ap (any (marked marks)) (sym listed_cells) ∙ h

-- ---- where a part begins

pub begin_first : (ends : List ℕ) (k : ℕ) → k ≡ 0 → 0 ≡ begin_at ends k
begin_first ends k e = sym (ap (begin_at ends) e)

pub begin_later : (ends : List ℕ) (k : ℕ) → (k ≡ 0 → ⊥) → get_or ends (k - 1) 0 ≡ begin_at ends k
begin_later ends zero h = absurd (h refl)
begin_later ends (suc k) h = let e : suc k - 1 ≡ k = omega arith in ap (λ (j : ℕ). get_or ends j 0) e
