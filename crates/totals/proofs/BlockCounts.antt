-- The mine counts of a block: the mines of what solves it add up as its row does, so the counts of its solutions are the sums of the listed rows.
-- Where a row has a mine in the group of a cell, or leaves a cell of that group free, something of the same count solves the block and has the cell
-- so: a mine moves within the group. For a block as it should be (`Proper`). Rests on GroupRows of the crate search and Groups of the crate fitting.
-- Assumes nothing.
use mathlib.Core.Path.{◌≡◌, refl, sym, ap, ◌∙◌}
use mathlib.Core.Logic.{inl, inr, ◌≢◌}
use mathlib.Core.Bool.{Bool, true, false}
use mathlib.Core.List.{List, [], ◌∷◌, map, Memᴰ}
use Prim.Native.Nat.{ℕ, ◌+◌, ◌≤◌, ◌<◌}
use native.Mathlib.Omega.{arith}
use native.Mathlib.Decide.{dec_lt}
use lib.Dec.{eqb}
use lib.ListN.{length, get_or}
use borrow.Author.Tests.{eqb-true, eq-eqb, ne_eqb}
use Rattle.lists.specs.Lists.{bit, count, has, joined}
use Rattle.lists.proofs.Tests.{Decided, decided, clash}
use Rattle.lists.proofs.Counts.{count_le, count_none, count_full, count_append, some_passes, some_fails}
use Rattle.lists.proofs.Occurrences.{any_in, in_any}
use Rattle.lists.proofs.PlacesAndRanges.{map_read}
use Rattle.fitting.specs.Equations.{Equation}
use Rattle.fitting.proofs.Groups.{times_has, move, Alike, exchange}
use Rattle.blocks.specs.Blocks.{Block}
use Rattle.blocks.proofs.ProperBlocks.{Proper, says_in, Solves}
use Rattle.groups.specs.Groups.{groups, group_of_cell, sizes}
use Rattle.groups.proofs.GroupLaws.{groups_many, size_at_lem, group_of_block, group_of_below, group_in_equation, in_own_group, groups_rearranged}
use Rattle.search.specs.Solutions.{sum, solutions}
use Rattle.search.proofs.GroupRows.{solution_listed, row_has_solution}
use Rattle.totals.specs.Totals.{possible_count}

-- ---- lists of numbers

-- counts of several lists add up to the count of all
sum_counts : (f : ℕ → Bool) (ls : List (List ℕ)) → sum (map (λ (l : List ℕ). count f l) ls) ≡ count f (joined ls)
sum_counts f [] = refl
sum_counts f (l ∷ ls) = omega (arith, sum_counts f ls, count_append f l (joined ls))

-- one of some cells is a mine: they have some
counts_some : (f : ℕ → Bool) (l : List ℕ) (c : ℕ) → has l c ≡ true → f c ≡ true → 0 < count f l
counts_some f l c h t =
    let some : count f l ≢ 0 = (λ e. clash (f c) t (count_none f l e c h)) in
    omega arith

-- one of them is free: not all are mines
counts_not_all : (f : ℕ → Bool) (l : List ℕ) (c : ℕ) → has l c ≡ true → f c ≡ false → count f l < length l
counts_not_all f l c h t = go (dec_lt (count f l) (length l))
  where
    go : Dec (count f l < length l) → count f l < length l
    go (yes e) = e
    go (no n) = clash (f c) (count_full f l (omega arith) c h) t

-- ---- rows

-- something that solves the block with t mines, and has the cell c as v says
abbrev pub SolutionWith : Block → ℕ → ℕ → Bool → Type 0
SolutionWith b t c v = (f : ℕ → Bool) × Solves f b × (count f b.cells ≡ t) × (f c ≡ v)

module _ (b : Block) where
  -- the mines of a placing, group by group
  abbrev pub row_of : (ℕ → Bool) → List ℕ
  row_of f = map (λ (g : List ℕ). count f g) (groups b)

  -- they add up to the mines on the block's cells
  pub row_sum : (f : ℕ → Bool) → sum (row_of f) ≡ count f b.cells
  row_sum f = sum_counts f (groups b) ∙ groups_rearranged b f

  module _ (c : ℕ) (here : has b.cells c ≡ true) where
    -- the cells of the cell's group
    abbrev group : List ℕ
    group = get_or (groups b) (group_of_cell b c) []

    row_at : (f : ℕ → Bool) → get_or (row_of f) (group_of_cell b c) 0 ≡ count f group
    row_at f = map_read (λ (g : List ℕ). count f g) (groups b) (group_of_cell b c) [] 0 (omega (arith, groups_many b, group_of_below b c here))

    -- a mine at the cell is one in its group
    pub mine_in_row : (f : ℕ → Bool) → f c ≡ true → 0 < get_or (row_of f) (group_of_cell b c) 0
    mine_in_row f x = omega (arith, row_at f, counts_some f group c (in_own_group b c here) x)

    -- and the cell free is a free cell in its group
    pub free_in_row : (f : ℕ → Bool) → f c ≡ false → get_or (row_of f) (group_of_cell b c) 0 < get_or (sizes b) (group_of_cell b c) 0
    free_in_row f x = omega (arith, row_at f, size_at_lem b (group_of_cell b c), counts_not_all f group c (in_own_group b c here) x)

-- ---- what solves a block

module _ (b : Block) (proper : Proper b) where
  -- the count of a solution is possible
  pub solution_possible : (f : ℕ → Bool) → Solves f b → possible_count b (count f b.cells) ≡ true
  unfolding possible_count
  solution_possible f s =
      in_any (λ (row : List ℕ). eqb (sum row) (count f b.cells)) (solutions b) (solution_listed b proper f s)
      (eq-eqb (sum (row_of b f)) (count f b.cells) (row_sum b f))

  -- and a possible count is that of a solution
  pub possible_solution : (t : ℕ) → possible_count b t ≡ true → (f : ℕ → Bool) × Solves f b × (count f b.cells ≡ t)
  unfolding possible_count
  possible_solution t h =
      let (row, m, e) = any_in (λ (r : List ℕ). eqb (sum r) t) (solutions b) h in
      let (f, s, w) = row_has_solution b proper row m in
      (f, s, sym (row_sum b f) ∙ ap sum w ∙ eqb-true (sum row) t e)

  -- so it is no more than the block's cells
  pub possible_at_most : (t : ℕ) → possible_count b t ≡ true → t ≤ length b.cells
  possible_at_most t h = let (f, s, e) = possible_solution t h in omega (arith, count_le f b.cells)

  module _ (c : ℕ) (here : has b.cells c ≡ true) where
    -- ---- a mine moves within the cell's group

    abbrev members : List ℕ
    members = group b c here

    -- two cells of the group stand in the same equations
    same_equations : (a d : ℕ) → has members a ≡ true → has members d ≡ true → Alike (says_in b) a d
    same_equations a d h k i =
        times_has a i.0.cells (proper.equations_once i.0 i.1)
        ∙ ap bit (group_in_equation b (group_of_cell b c) a h i.0 i.1 ∙ sym (group_in_equation b (group_of_cell b c) d k i.0 i.1))
        ∙ sym (times_has d i.0.cells (proper.equations_once i.0 i.1))

    -- so a mine moves from one to another, and the block's count stays
    moved : (f : ℕ → Bool) (a d : ℕ) → has members a ≡ true → has members d ≡ true → f a ≡ true → f d ≡ false
        → Solves f b → Solves (move a d f) b × (count (move a d f) b.cells ≡ count f b.cells)
    moved f a d h k x y s = (
      exchange (says_in b) f a d (same_equations a d h k) x y s,
      let kept : count (move a d f) b.cells + 0 ≡ count f b.cells = exchange whole f a d alike_whole x y (λ _. omega arith) tt in omega arith,
    )
      where
        -- all cells of the block as one equation
        whole : Unit {0} → Equation
        whole _ = record { cells = b.cells; known = 0; number = count f b.cells }

        alike_whole : Alike whole a d
        alike_whole _ =
            times_has a b.cells proper.once
            ∙ ap bit (group_of_block b (group_of_cell b c) a h ∙ sym (group_of_block b (group_of_cell b c) d k))
            ∙ sym (times_has d b.cells proper.once)

    -- ---- what the rows say of the cell

    module _ (row : List ℕ) (in_solutions : Memᴰ row (solutions b)) where
      -- a solution with these mine counts
      row_solution : (f : ℕ → Bool) × Solves f b × (count f b.cells ≡ sum row) × (count f members ≡ get_or row (group_of_cell b c) 0)
      row_solution =
          let (f, s, w) = row_has_solution b proper row in_solutions in
          (f, s, sym (row_sum b f) ∙ ap sum w, sym (row_at b c here f) ∙ ap (λ (r : List ℕ). get_or r (group_of_cell b c) 0) w)

      -- where the row has a mine in the cell's group, some solution of its sum has one at the cell
      pub row_mine : 0 < get_or row (group_of_cell b c) 0 → SolutionWith b (sum row) c true
      row_mine some = let (f, s, e, w) = row_solution in go f s e (omega arith) (decided (f c))
        where
          go : (f : ℕ → Bool) → Solves f b → count f b.cells ≡ sum row → 0 < count f members → Decided (f c) → SolutionWith b (sum row) c true
          go f s e l (inl x) = (f, s, e, x)
          go f s e l (inr x) =
              let (a, k, y) = some_passes f members (omega arith) in
              let (t, kept) = moved f a c k (in_own_group b c here) y x s in
              (move a c f, t, kept ∙ e, rw (eq-eqb c c refl))

      -- where it leaves a cell of the group free, some solution of its sum leaves this one free
      pub row_free : get_or row (group_of_cell b c) 0 < get_or (sizes b) (group_of_cell b c) 0 → SolutionWith b (sum row) c false
      row_free some = let (f, s, e, w) = row_solution in go f s e (omega (arith, size_at_lem b (group_of_cell b c))) (decided (f c))
        where
          go : (f : ℕ → Bool) → Solves f b → count f b.cells ≡ sum row → count f members < length members → Decided (f c)
              → SolutionWith b (sum row) c false
          go f s e l (inr x) = (f, s, e, x)
          go f s e l (inl x) =
              let (a, k, y) = some_fails f members (omega arith) in
              let (t, kept) = moved f c a (in_own_group b c here) k x y s in
              (move c a f, t, kept ∙ e, rw (ne_eqb c a (λ z. clash (f a) (rw z at x) y), eq-eqb c c refl))
