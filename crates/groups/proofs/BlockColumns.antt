-- The columns of a block's cells, where the block stands between places of the arrays. A block that combine is given has cells and equations, so neither ends where
-- it begins; a cell that it hasn't stands in no equation; and the cells with the column of a cell are its group, of at most eight. Rests on the laws of groups.
-- Assumes nothing.
use mathlib.Core.Path.{◌≡◌, refl, sym, ap, ◌∙◌}
use mathlib.Core.Logic.{inl, inr}
use mathlib.Core.Bool.{Bool, true, false}
use mathlib.Core.List.{List, []}
use Prim.Native.Nat.{ℕ, ◌+◌, ◌-◌, ◌≤◌, ◌<◌}
use native.Mathlib.Decide.{dec_lt}
use native.Mathlib.Omega.{arith}
use lib.Dec.{leb, ltb}
use lib.ListN.{length, get_or}
use borrow.Author.Tests.{le-leb, ltb-true}
use Rattle.lists.specs.Lists.{range, count, all, empty, has, nodup, same}
use Rattle.lists.proofs.Tests.{Decided, decided, clash}
use Rattle.lists.proofs.All.{all_at, all_has, has_all}
use Rattle.lists.proofs.Members.{range_in}
use Rattle.lists.proofs.Counts.{count_ext, length_keep, count_le, count_zero}
use Rattle.lists.proofs.Kept.{keep_ext}
use Rattle.lists.proofs.Rearranged.{length_range}
use Rattle.lists.proofs.Unions.{mem_has}
use Rattle.lists.proofs.Occurrences.{not_empty}
use Rattle.lists.proofs.PassingElements.{not_passes}
use Rattle.lists.proofs.ReadBack.{range_made}
use Rattle.blocks.specs.Blocks.{BlockEquation, Block}
use Rattle.blocks.specs.BlockSets.{slot_cells}
use Rattle.blocks.specs.Places.{cells_from, equations_from, block_from}
use Rattle.blocks.specs.declared.Bounds.{Bounds}
use Rattle.blocks.proofs.Between.{equation_of, cells_none}
use Rattle.groups.specs.Groups.{no_cells, column, alike, firsts, group_of_cell}
use Rattle.groups.specs.Grouping.{Combinable}
use Rattle.groups.specs.Combining.{ColumnsAre, column_in, alike_by}
use Rattle.groups.proofs.GroupLaws.{size_is, group_of_below, group_of_column, combinable_column, size_small}
use Rattle.groups.proofs.PassedEquations.{length_equations}

-- ---- the equations by their places

module _ (slots rests : List ℕ) (first end : ℕ) where
  pub equation_read : (i : ℕ) (d : BlockEquation) → i < end - first → get_or (equations_from slots rests first end) i d ≡ equation_of slots rests (first + i)
  unfolding equations_from
  equation_read i d h = range_made (equation_of slots rests) first (end - first) i d h

  -- what passes a test of all equations
  pub equation_passes : (f : BlockEquation → Bool) → all f (equations_from slots rests first end) ≡ true → (i : ℕ) → i < end - first → f (equation_of slots rests (first + i)) ≡ true
  equation_passes f h i u =
      rw (equation_read i no_cells u) at (all_at f (equations_from slots rests first end) i no_cells h (omega (arith, length_equations slots rests first end)))

module _ (cells slots rests : List ℕ) (bounds : Bounds) where
  abbrev b : Block
  b = block_from cells slots rests bounds

  abbrev first : ℕ
  first = bounds.first_equation

  abbrev end : ℕ
  end = bounds.end_equation

  pub block_cells : b.cells ≡ cells_from cells bounds.first_cell bounds.end_cell
  unfolding block_from
  block_cells = refl

  pub block_equations : b.equations ≡ equations_from slots rests first end
  unfolding block_from
  block_equations = refl

  -- a cell's column
  pub column_is : (c : ℕ) → column b c ≡ column_in slots first (end - first) c
  unfolding block_from
  column_is c =
      rw (length_equations slots rests first end)
      (keep_ext (λ (i : ℕ). has (get_or (equations_from slots rests first end) i no_cells).cells c) (λ (i : ℕ). has (slot_cells slots (first + i)) c) (range 0 (end - first))
      (λ i e. let (l, u) = range_in 0 (end - first) i e in ap (λ (x : BlockEquation). has x.cells c) (equation_read slots rests first end i no_cells (omega arith))))

  -- ---- a block that combine is given

  module _ (h : Combinable b) where
    -- a cell of the block is on the board, and stands in one to eight equations
    on_board : (c : ℕ) → has b.cells c ≡ true → ltb c 1024 ≡ true
    on_board = all_has (λ d. ltb d 1024) b.cells h.below

    in_some : (c : ℕ) → has b.cells c ≡ true → (1 ≤ length (column_in slots first (end - first) c)) × (length (column_in slots first (end - first) c) ≤ 8)
    in_some c e = rw (← column_is c) (combinable_column b h c e)

    -- neither its cells nor its equations end where they begin
    pub cells_order : bounds.first_cell ≤ bounds.end_cell
    cells_order = go (dec_lt bounds.end_cell bounds.first_cell)
      where
        go : Dec (bounds.end_cell < bounds.first_cell) → bounds.first_cell ≤ bounds.end_cell
        go (yes u) =
            let none : b.cells ≡ [] = block_cells ∙ cells_none cells bounds.first_cell bounds.end_cell (omega arith) in
            clash true refl (sym (ap empty none) ∙ h.some)
        go (no u) = omega arith

    column_length : (c : ℕ) → length (column_in slots first (end - first) c) ≤ end - first
    column_length c =
        let f : ℕ → Bool = λ i. has (slot_cells slots (first + i)) c in
        omega (arith, length_keep f (range 0 (end - first)), count_le f (range 0 (end - first)), length_range 0 (end - first))

    pub equations_order : first ≤ end
    equations_order = let (c, m) = not_empty b.cells h.some in omega (arith, (in_some c (mem_has b.cells m)).0, column_length c)

    -- no cell stands twice in an equation
    pub equation_once : (e : ℕ) → first ≤ e → e < end → nodup (slot_cells slots e) ≡ true
    equation_once e l u =
        let at : first + (e - first) ≡ e = omega arith in
        rw at at (equation_passes slots rests first end (λ (x : BlockEquation). nodup x.cells) (rw block_equations at h.equations_once) (e - first) (omega arith))

    -- a cell of an equation is one of the block's
    equation_inside : (i c : ℕ) → i < end - first → has (slot_cells slots (first + i)) c ≡ true → has b.cells c ≡ true
    equation_inside i c u e =
        let every = equation_passes slots rests first end (λ (x : BlockEquation). all (has b.cells) x.cells) (rw block_equations at h.inside) i u in
        all_has (has b.cells) (slot_cells slots (first + i)) every c e

    -- so no column has more than eight places
    pub columns_few : (c : ℕ) → length (column_in slots first (end - first) c) ≤ 8
    columns_few c = go (decided (has b.cells c))
      where
        f : ℕ → Bool
        f i = has (slot_cells slots (first + i)) c

        none : has b.cells c ≡ false → (i : ℕ) → has (range 0 (end - first)) i ≡ true → f i ≡ false
        none e i w = not_passes (f i) (has b.cells c) (equation_inside i c (omega (arith, range_in 0 (end - first) i w))) e

        go : Decided (has b.cells c) → length (column_in slots first (end - first) c) ≤ 8
        go (inl e) = (in_some c e).1
        go (inr e) = omega (arith, length_keep f (range 0 (end - first)), count_zero f (range 0 (end - first)) (none e))

    -- ---- the groups

    module _ (columns : List ℕ) (are : ColumnsAre columns (column_in slots first (end - first))) where
      -- being alike by the columns in the array is being alike
      pub alike_agrees : (c d : ℕ) → ltb c 1024 ≡ true → ltb d 1024 ≡ true → alike_by columns c d ≡ alike b c d
      alike_agrees c d u v = rw (column_is c, column_is d, are.at c (ltb-true c 1024 u), are.at d (ltb-true d 1024 v))

      -- so the cells like a cell are those of its group
      group_small : (c : ℕ) → has b.cells c ≡ true → count (alike_by columns c) b.cells ≤ 8
      group_small c e =
          let g = group_of_cell b c in
          let below : g < length (firsts b) = group_of_below b c e in
          let same_cells : count (alike_by columns c) b.cells ≡ count (alike b (get_or (firsts b) g 0)) b.cells =
          count_ext (alike_by columns c) (alike b (get_or (firsts b) g 0)) b.cells
          (λ d w. alike_agrees c d (on_board c e) (on_board d w) ∙ ap (λ (l : List ℕ). same l (column b d)) (sym (group_of_column b c e))) in
          omega (arith, same_cells, size_is b g below, size_small b h g below)

      pub groups_eight : all (λ c. leb (count (alike_by columns c) b.cells) 8) b.cells ≡ true
      groups_eight = has_all (λ c. leb (count (alike_by columns c) b.cells) 8) b.cells (λ c e. le-leb (count (alike_by columns c) b.cells) 8 (group_small c e))
