-- Enumeration of a block: a cell is free in all that solves its equations exactly where its group is without a mine in every row, and a mine in all
-- exactly where its group is full in every row; else some row, and so something that solves the equations, shows the contrary. So `safe_cells` and
-- `mine_cells` list exactly the cells of the block that are the same in all. For a block as it should be (`Proper`). Rests on GroupRows of the crate search. Assumes nothing.
use mathlib.Core.Path.{◌≡◌, sym, ap, ◌∙◌}
use mathlib.Core.Logic.{inl, inr, ◌↔◌}
use mathlib.Core.Bool.{Bool, true, false}
use mathlib.Core.List.{List, [], map}
use Prim.Native.Nat.{ℕ, ◌<◌}
use native.Mathlib.Omega.{arith}
use lib.Dec.{eqb}
use lib.ListN.{length, get_or}
use borrow.Author.Tests.{eqb-true, eqb-false, eq-eqb}
use Rattle.lists.specs.Lists.{range, keep, count, all, empty, has, joined}
use Rattle.lists.proofs.Tests.{Decided, decided, clash}
use Rattle.lists.proofs.Members.{kept_passes, has_kept, in_range}
use Rattle.lists.proofs.Counts.{any_at, any_of}
use Rattle.lists.proofs.Joined.{read_all}
use Rattle.lists.proofs.Unions.{all_of, has_joined_map}
use Rattle.lists.proofs.Occurrences.{all_in, empty_nothing, not_empty}
use Rattle.lists.proofs.Among.{Among, joined_keep_among}
use Rattle.lists.proofs.PlacesAndRanges.{map_read}
use Rattle.lists.proofs.PartedLists.{all_not}
use Rattle.fitting.proofs.Groups.{Row, row_solution, row_safe, row_mine, row_has_mine}
use Rattle.blocks.specs.Blocks.{Block}
use Rattle.blocks.proofs.ProperBlocks.{Proper, says_in, Solves}
use Rattle.groups.specs.Groups.{firsts, groups, group_of_cell, sizes}
use Rattle.groups.proofs.GroupLaws.{groups_many, size_at_lem, group_below, group_only, group_of_block, group_of_below, in_own_group, groups_rearranged}
use Rattle.search.specs.Solutions.{solutions}
use Rattle.search.proofs.EquationGroups.{block_groups}
use Rattle.search.proofs.GroupRows.{listed_row, row_of_groups, solution_listed, row_has_solution}
use Rattle.enumeration.specs.Enumeration.{cells_where, never_mined, always_mined, safe_cells, mine_cells}

module _ (b : Block) (proper : Proper b) where
  -- ---- some row, or none

  -- where there is no row, nothing solves the block
  pub no_row_no_solution : empty (solutions b) ≡ true → (f : ℕ → Bool) → Solves f b → ⊥
  no_row_no_solution h f s = empty_nothing (solutions b) h (solution_listed b proper f s)

  -- where something solves it, there is a row
  pub solved_row : (f : ℕ → Bool) → Solves f b → empty (solutions b) ≡ false
  solved_row f s = go (decided (empty (solutions b)))
    where
      go : Decided (empty (solutions b)) → empty (solutions b) ≡ false
      go (inl e) = absurd (no_row_no_solution e f s)
      go (inr e) = e

  -- and back
  pub row_solved : empty (solutions b) ≡ false → (f : ℕ → Bool) × Solves f b
  row_solved h = let (row, m) = not_empty (solutions b) h in let (f, s, w) = row_has_solution b proper row m in (f, s)

  -- ---- what the rows say of a cell of a group

  module _ (g c : ℕ) (here : has (get_or (groups b) g []) c ≡ true) where
    below : g < length (firsts b)
    below = group_below b g c here

    -- a group has v mines in every row
    every_row : (v : ℕ)
        → ((k : ℕ → ℕ) → Row (says_in b) (block_groups b proper) k → k g ≡ v) ↔ (all (λ (row : List ℕ). eqb (get_or row g 0) v) (solutions b) ≡ true)
    every_row v = (
      λ h. all_of (λ (row : List ℕ). eqb (get_or row g 0) v) (solutions b) (λ row m.
          eq-eqb (get_or row g 0) v (h (λ j. get_or row j 0) (row_of_groups b proper row (listed_row b proper row m)))),
      λ h k r.
          let (f, s, counts) = row_solution (says_in b) (block_groups b proper) k r in
          sym (counts g below)
          ∙ sym (map_read (λ (x : List ℕ). count f x) (groups b) g [] 0 (omega (arith, groups_many b, below)))
          ∙ eqb-true (get_or (map (λ (x : List ℕ). count f x) (groups b)) g 0) v
          (all_in (λ (row : List ℕ). eqb (get_or row g 0) v) (solutions b) h (solution_listed b proper f s)),
    )

    -- the cell is free in all that solves the block exactly where its group has no mine in every row
    pub never_mined_free : (never_mined b g ≡ true) ↔ ((f : ℕ → Bool) → Solves f b → f c ≡ false)
    never_mined_free = (
      λ h. (row_safe (says_in b) (block_groups b proper) g c below here).1 ((every_row 0).1 h),
      λ h. (every_row 0).0 ((row_safe (says_in b) (block_groups b proper) g c below here).0 h),
    )

    -- it is a mine in all exactly where its group is full in every row
    pub always_mined_mine : (always_mined b g ≡ true) ↔ ((f : ℕ → Bool) → Solves f b → f c ≡ true)
    always_mined_mine = (
      λ h. (row_mine (says_in b) (block_groups b proper) g c below here).1 (λ k r. (every_row (get_or (sizes b) g 0)).1 h k r ∙ size_at_lem b g),
      λ h. (every_row (get_or (sizes b) g 0)).0 (λ k r. (row_mine (says_in b) (block_groups b proper) g c below here).0 h k r ∙ sym (size_at_lem b g)),
    )

    -- where some row has a mine in the group, something that solves the block has one at the cell
    pub some_mined_mine : never_mined b g ≡ false → (f : ℕ → Bool) × Solves f b × (f c ≡ true)
    some_mined_mine h =
        let (row, m, e) = all_not (λ (r : List ℕ). eqb (get_or r g 0) 0) (solutions b) h in
        row_has_mine (says_in b) (block_groups b proper) g c below here (λ j. get_or row j 0) (row_of_groups b proper row (listed_row b proper row m))
        (eqb-false (get_or row g 0) 0 e)

  -- ---- the cells of some groups

  -- exactly the block's cells whose group passes
  pub cells_where_lem : (t : ℕ → Bool) (c : ℕ) → (has (cells_where b t) c ≡ true) ↔ ((has b.cells c ≡ true) × (t (group_of_cell b c) ≡ true))
  cells_where_lem t c = (there, back)
    where
      there : has (cells_where b t) c ≡ true → (has b.cells c ≡ true) × (t (group_of_cell b c) ≡ true)
      there h =
          let (g, k, e) = any_at (λ x. has (get_or (groups b) x []) c) (keep t (range 0 (length (firsts b))))
          (sym (has_joined_map (λ (x : ℕ). get_or (groups b) x []) (keep t (range 0 (length (firsts b)))) c) ∙ h) in
          (group_of_block b g c e, rw (group_only b g c e) (kept_passes t (range 0 (length (firsts b))) g k))

      back : (has b.cells c ≡ true) × (t (group_of_cell b c) ≡ true) → has (cells_where b t) c ≡ true
      back (h, e) =
          has_joined_map (λ (x : ℕ). get_or (groups b) x []) (keep t (range 0 (length (firsts b)))) c
          ∙ any_of (λ x. has (get_or (groups b) x []) c) (keep t (range 0 (length (firsts b)))) (group_of_cell b c)
          (has_kept t (range 0 (length (firsts b))) (group_of_cell b c) e
          (in_range 0 (length (firsts b)) (group_of_cell b c) (omega arith) (omega (arith, group_of_below b c h))))
          (in_own_group b c h)

  -- none more often than in the block
  pub cells_where_among : (t : ℕ → Bool) → Among (cells_where b t) b.cells
  cells_where_among t f =
      omega (
        arith,
        joined_keep_among (λ (x : ℕ). get_or (groups b) x []) t (range 0 (length (firsts b))) f,
        ap (λ (n : ℕ). count f (joined (map (λ (x : ℕ). get_or (groups b) x []) (range 0 n)))) (groups_many b),
        ap (λ (l : List (List ℕ)). count f (joined l)) (read_all (groups b) []),
        groups_rearranged b f,
      )

  -- ---- the two lists of a block

  -- `safe_cells` has exactly the cells that are free in all that solves the block
  pub safe_cell : (c : ℕ) → (has (safe_cells b) c ≡ true) ↔ ((has b.cells c ≡ true) × ((f : ℕ → Bool) → Solves f b → f c ≡ false))
  unfolding safe_cells
  safe_cell c = (
    λ h. let (k, t) = (cells_where_lem (never_mined b) c).0 h in (k, (never_mined_free (group_of_cell b c) c (in_own_group b c k)).0 t),
    λ (k, s). (cells_where_lem (never_mined b) c).1 (k, (never_mined_free (group_of_cell b c) c (in_own_group b c k)).1 s),
  )

  -- and `mine_cells` those that are mines in all
  pub mine_cell : (c : ℕ) → (has (mine_cells b) c ≡ true) ↔ ((has b.cells c ≡ true) × ((f : ℕ → Bool) → Solves f b → f c ≡ true))
  unfolding mine_cells
  mine_cell c = (
    λ h. let (k, t) = (cells_where_lem (always_mined b) c).0 h in (k, (always_mined_mine (group_of_cell b c) c (in_own_group b c k)).0 t),
    λ (k, s). (cells_where_lem (always_mined b) c).1 (k, (always_mined_mine (group_of_cell b c) c (in_own_group b c k)).1 s),
  )

  -- a cell of the block that is not in `safe_cells` has a mine in something that solves the block
  pub not_safe_cell : (c : ℕ) → has b.cells c ≡ true → has (safe_cells b) c ≡ false → (f : ℕ → Bool) × Solves f b × (f c ≡ true)
  unfolding safe_cells
  not_safe_cell c k h = some_mined_mine (group_of_cell b c) c (in_own_group b c k) (fails (decided (never_mined b (group_of_cell b c))))
    where
      fails : Decided (never_mined b (group_of_cell b c)) → never_mined b (group_of_cell b c) ≡ false
      fails (inl e) = clash (has (safe_cells b) c) ((cells_where_lem (never_mined b) c).1 (k, e)) h
      fails (inr e) = e

  pub safe_cells_among : Among (safe_cells b) b.cells
  unfolding safe_cells
  safe_cells_among = cells_where_among (never_mined b)

  pub mine_cells_among : Among (mine_cells b) b.cells
  unfolding mine_cells
  mine_cells_among = cells_where_among (always_mined b)
