-- The rows of the tree are the solutions of the block. In the order by weight they are the table itself, row by row; in any other order they are the same
-- solutions, so that a search with one group first, at some of its values, tells whether a solution gives it one of them. Needs a block without a
-- negative remainder, since what an equation needs is a number. Rests on TreeLaws, ReadingGroups and ListedSolutions. Assumes nothing.
use mathlib.Core.Path.{◌≡◌, refl, sym, ap, ◌∙◌}
use mathlib.Core.Logic.{inl, inr}
use mathlib.Core.Bool.{Bool, true, false, not, ◌&&◌}
use mathlib.Core.List.Memᴰ
use mathlib.Core.List.{List, [], ◌∷◌, map, Memᴰ}
use Prim.Native.Nat.{ℕ, suc, ◌+◌, ◌-◌, ◌≤◌, ◌<◌}
use native.Mathlib.Omega.{arith}
use native.Mathlib.Decide.{dec_lt}
use lib.Dec.{leb, ltb, eqb}
use lib.ListN.{length, get_or, take, drop, length-map, get_or-eq_default}
use lib.Seq.{drop-cons, get_or-take}
use borrow.Author.Tests.{eqb-true, eq-eqb, leb-true, ltb-true, ltb-false, le-leb, lt-ltb}
use Rattle.lists.specs.Lists.{keep, count, same, any, all, empty, first_place, pad, has}
use Rattle.lists.proofs.Tests.{Decided, decided, clash, and_left, and_right, same_test, every_at, every_of}
use Rattle.lists.proofs.All.{all_at}
use Rattle.lists.proofs.Members.{has_head}
use Rattle.lists.proofs.Arrays.{pad_take}
use Rattle.lists.proofs.Joined.{map_ext}
use Rattle.lists.proofs.Kept.{keep_map}
use Rattle.lists.proofs.Unions.{all_of, mem_at}
use Rattle.lists.proofs.Occurrences.{kept_in, in_kept, keep_agree, all_in, in_any, empty_nil, not_empty}
use Rattle.lists.proofs.PlacesAndRanges.{all_places}
use Rattle.blocks.specs.Blocks.{BlockEquation, Block}
use Rattle.blocks.specs.BlockSets.{slot_cells}
use Rattle.blocks.proofs.ProperBlocks.{Proper}
use Rattle.groups.specs.Groups.{no_cells, firsts, sizes, groups_in}
use Rattle.groups.specs.Grouping.{Combinable, grouped}
use Rattle.groups.proofs.GroupLaws.{sizes_long, firsts_some, combinable_proper}
use Rattle.search.specs.Trees.{branches, tree}
use Rattle.search.specs.Solutions.{sum, meets_rest, solves, vectors, weighed, by_group, solutions}
use Rattle.search.specs.TableRows.{read_at}
use Rattle.search.specs.Searching.{tree_at, tree_from}
use Rattle.search.proofs.Vectors.{within_length, within_read, first_from}
use Rattle.search.proofs.TreeLaws.{added_up, fills, branches_row_length, tree_row_length, tree_vectors, branches_vectors}
use Rattle.search.proofs.Orders.{EachOnce, each_below, by_group_read, by_group_of_read, added_by_group}
use Rattle.search.proofs.ReadingGroups.{groups_read, sizes_read, needs_read, needs_long, equation_groups, no_groups_past, searchable}
use Rattle.search.proofs.ListedSolutions.{values_in, values_long, values_within, row_values, solved_rows_once, weighed_each_once, in_solutions, solutions_in, solutions_once}

-- the groups of an order
abbrev pub groups_of : Block → List ℕ → List ℕ
groups_of b order = take (grouped b).groups order

-- a group's size, as the array has it
abbrev pub size_at : Block → ℕ → ℕ
size_at b g = get_or (grouped b).sizes g 0

-- values in an order solve the block, by group
abbrev pub solves_in : Block → List ℕ → List ℕ → Bool
solves_in b order values = solves b (by_group order values)

-- the tree of a block's groups in an order
abbrev pub searched : Block → List ℕ → List (List ℕ)
searched b order = tree_at order (grouped b).groups (grouped b).sizes (grouped b).columns 0 (grouped b).needs (grouped b).rooms

-- with the first of them at k values from v up
abbrev pub searched_from : Block → List ℕ → ℕ → ℕ → List (List ℕ)
searched_from b order v k = tree_from order (grouped b).groups (grouped b).sizes (grouped b).columns 0 v k (grouped b).needs (grouped b).rooms

-- the array with the order by weight begins with it
pub weighed_front : (b : Block) → Combinable b → take (grouped b).groups (pad 1024 0 (weighed b)) ≡ weighed b
weighed_front b c =
    ap (λ (n : ℕ). take n (pad 1024 0 (weighed b))) (groups_read b ∙ sym (weighed_each_once b (combinable_proper b c)).long) ∙ pad_take 1024 0 (weighed b)

module _ (b : Block) (c : Combinable b) (positive : (grouped b).negative ≡ false) where
  proper : Proper b
  proper = combinable_proper b c

  -- no remainder is negative
  rest_some : (e : ℕ) → e < length b.equations → 8 ≤ (get_or b.equations e no_cells).rest
  unfolding grouped
  rest_some e l = go (decided (ltb (get_or b.equations e no_cells).rest 8))
    where
      go : Decided (ltb (get_or b.equations e no_cells).rest 8) → 8 ≤ (get_or b.equations e no_cells).rest
      go (inl h) =
          clash (any (λ (q : BlockEquation). ltb q.rest 8) b.equations)
          (in_any (λ (q : BlockEquation). ltb q.rest 8) b.equations (mem_at b.equations e no_cells l) h) positive
      go (inr h) = ltb-false (get_or b.equations e no_cells).rest 8 h

  module _ (order : List ℕ) (o : EachOnce order (length (firsts b))) where
    -- values in an order fill the equations exactly where they solve the block, by group
    pub fills_solves : (values : List ℕ) → length values ≡ length (firsts b)
        → fills (slot_cells (grouped b).columns) order (grouped b).needs values ≡ solves b (by_group order values)
    fills_solves values h =
        same_test (fills (slot_cells (grouped b).columns) order (grouped b).needs values) (solves b (by_group order values))
        (λ f. all_places (meets_rest b (by_group order values)) b.equations no_cells (λ e l.
        eq-eqb (total e + 8) (get_or b.equations e no_cells).rest
        (omega (
          arith,
          eqb-true (added e) (get_or (grouped b).needs e 0)
              (every_at (length (grouped b).needs) (λ d. eqb (added d) (get_or (grouped b).needs d 0)) f e (omega (arith, needs_long b c, c.few_equations))),
          added_total e l,
          needs_read b e,
          rest_some e l,
        ))))
        (λ s. every_of (length (grouped b).needs) (λ e. eqb (added e) (get_or (grouped b).needs e 0)) (λ e _.
        eq-eqb (added e) (get_or (grouped b).needs e 0) (filled s e (dec_lt e (length b.equations)))))
      where
        -- what the groups of an equation get, in the order and by group
        added : ℕ → ℕ
        added e = added_up (λ g. has (slot_cells (grouped b).columns g) e) order values

        total : ℕ → ℕ
        total e = sum (map (λ (g : ℕ). get_or (by_group order values) g 0) (groups_in b (get_or b.equations e no_cells)))

        added_total : (e : ℕ) → e < length b.equations → added e ≡ total e
        added_total e l =
            added_by_group order (length (firsts b)) o (λ g. has (slot_cells (grouped b).columns g) e) values h
            ∙ ap (λ (gs : List ℕ). sum (map (λ (g : ℕ). get_or (by_group order values) g 0) gs)) (equation_groups b c e l)

        added_none : (e : ℕ) → length b.equations ≤ e → added e ≡ 0
        added_none e l =
            added_by_group order (length (firsts b)) o (λ g. has (slot_cells (grouped b).columns g) e) values h
            ∙ ap (λ (gs : List ℕ). sum (map (λ (g : ℕ). get_or (by_group order values) g 0) gs)) (no_groups_past b c e l)

        filled : solves b (by_group order values) ≡ true → (e : ℕ) → Dec (e < length b.equations) → added e ≡ get_or (grouped b).needs e 0
        filled s e (yes l) =
            omega (
              arith,
              eqb-true (total e + 8) (get_or b.equations e no_cells).rest (all_at (meets_rest b (by_group order values)) b.equations e no_cells s l),
              added_total e l,
              needs_read b e,
            )
        filled s e (no l) =
            added_none e (omega arith)
            ∙ sym (needs_read b e ∙ ap (λ (q : BlockEquation). q.rest - 8) (get_or-eq_default b.equations no_cells (omega arith)))

    same_sizes : map (size_at b) order ≡ map (λ (g : ℕ). get_or (sizes b) g 0) order
    same_sizes = map_ext (size_at b) (λ (g : ℕ). get_or (sizes b) g 0) order (λ g _. sizes_read b g)

    -- the rows of the tree are the values in the order that solve the block
    pub tree_solved : tree (size_at b) (slot_cells (grouped b).columns) order (grouped b).needs (grouped b).rooms
        ≡ keep (solves_in b order) (values_in b order)
    tree_solved =
        tree_vectors (size_at b) (slot_cells (grouped b).columns) order (grouped b).needs (grouped b).rooms (searchable b c order o)
        ∙ ap (λ (ns : List ℕ). keep (fills (slot_cells (grouped b).columns) order (grouped b).needs) (vectors ns)) same_sizes
        ∙ keep_agree (fills (slot_cells (grouped b).columns) order (grouped b).needs) (solves_in b order) (values_in b order)
        (λ values m. fills_solves values (values_long b order o values m))

  -- and those of k branches from v up are those of them that give the first group one of these values
  branches_solved : (g : ℕ) (gs : List ℕ) → EachOnce (g ∷ gs) (length (firsts b)) → (v k : ℕ) → v + k ≤ suc (size_at b g)
      → branches (size_at b) (slot_cells (grouped b).columns)
      (tree (size_at b) (slot_cells (grouped b).columns) gs) g v k (grouped b).needs (grouped b).rooms
      ≡ keep (solves_in b (g ∷ gs)) (keep (first_from v k) (values_in b (g ∷ gs)))
  branches_solved g gs o v k h =
      branches_vectors (size_at b) (slot_cells (grouped b).columns) g gs (grouped b).needs (grouped b).rooms
      (searchable b c (g ∷ gs) o) v k h
      ∙ ap (λ (ns : List ℕ). keep (fills (slot_cells (grouped b).columns) (g ∷ gs) (grouped b).needs) (keep (first_from v k) (vectors ns)))
      (same_sizes (g ∷ gs) o)
      ∙ keep_agree (fills (slot_cells (grouped b).columns) (g ∷ gs) (grouped b).needs) (solves_in b (g ∷ gs)) (keep (first_from v k) (values_in b (g ∷ gs)))
      (λ values m. fills_solves (g ∷ gs) o values (values_long b (g ∷ gs) o values (kept_in (first_from v k) (values_in b (g ∷ gs)) values m).0))

  -- ---- the table

  -- in the order by weight the rows of the tree are the solutions, row by row
  pub tree_solutions : map (by_group (weighed b)) (searched b (pad 1024 0 (weighed b))) ≡ solutions b
  unfolding tree_at solutions
  tree_solutions =
      ap (λ (gs : List ℕ). map (by_group (weighed b)) (tree (size_at b) (slot_cells (grouped b).columns) gs (grouped b).needs (grouped b).rooms)) (weighed_front b c)
      ∙ ap (map (by_group (weighed b))) (tree_solved (weighed b) (weighed_each_once b proper))
      ∙ sym (keep_map (by_group (weighed b)) (solves b) (values_in b (weighed b)))

  -- so there are as many
  pub tree_solutions_length : length (searched b (pad 1024 0 (weighed b))) ≡ length (solutions b)
  tree_solutions_length =
      sym (length-map (searched b (pad 1024 0 (weighed b))) (by_group (weighed b))) ∙ ap (λ (l : List (List ℕ)). length l) tree_solutions

  -- ---- any order

  module _ (order : List ℕ) (o : EachOnce (take (grouped b).groups order) (grouped b).groups) where
    each_group : EachOnce (groups_of b order) (length (firsts b))
    unfolding grouped
    each_group = o

    groups_some : 0 < (grouped b).groups
    groups_some = omega (arith, groups_read b, firsts_some b c.some)

    first_apart : groups_of b order ≡ get_or order 0 0 ∷ drop 1 (groups_of b order)
    first_apart =
        drop-cons (groups_of b order) 0 0 (omega (arith, groups_some, o.long))
        ∙ ap (λ (g : ℕ). g ∷ drop 1 (groups_of b order)) (get_or-take (grouped b).groups order 0 0 groups_some)

    -- the first group's value is the first of the values
    first_value : (values : List ℕ) → get_or (by_group (groups_of b order) values) (get_or order 0 0) 0 ≡ get_or values 0 0
    first_value values =
        by_group_read (groups_of b order) (length (firsts b)) each_group values (get_or order 0 0)
        (each_below (groups_of b order) (length (firsts b)) each_group (get_or order 0 0)
        (rw first_apart (has_head (get_or order 0 0) (drop 1 (groups_of b order)))))
        ∙ ap (λ (gs : List ℕ). get_or values (first_place (eqb (get_or order 0 0)) gs) 0) first_apart
        ∙ rw (eq-eqb (get_or order 0 0) (get_or order 0 0) refl)

    -- values within the sizes that solve give a solution
    solved_values : (values : List ℕ) → Memᴰ values (values_in b (groups_of b order)) → solves b (by_group (groups_of b order) values) ≡ true
        → Memᴰ (by_group (groups_of b order) values) (solutions b)
    solved_values values m s =
        in_solutions b proper (by_group (groups_of b order) values) (values_within b (groups_of b order) each_group values m) s

    -- the rows of the tree
    pub searched_solved : searched b order
        ≡ keep (solves_in b (groups_of b order)) (values_in b (groups_of b order))
    unfolding tree_at
    searched_solved = tree_solved (groups_of b order) each_group

    -- each has a value for each group
    pub row_long : (row : List ℕ) → Memᴰ row (searched b order) → length row ≡ (grouped b).groups
    unfolding tree_at
    row_long row m = tree_row_length (size_at b) (slot_cells (grouped b).columns) (groups_of b order) (grouped b).needs (grouped b).rooms row m ∙ o.long

    -- they give each row within the sizes that solves once, and no other: the same rows in any order
    pub rows_any_order : (row : List ℕ) → count (same row) (map (by_group (groups_of b order)) (searched b order)) ≡ count (same row) (solutions b)
    rows_any_order row =
        ap (λ (rows : List (List ℕ)). count (same row) (map (by_group (groups_of b order)) rows)) searched_solved
        ∙ ap (count (same row)) (sym (keep_map (by_group (groups_of b order)) (solves b) (values_in b (groups_of b order))))
        ∙ solved_rows_once b (groups_of b order) each_group row
        ∙ sym (solutions_once b proper row)

    -- each gives a solution
    pub searched_solution : (row : List ℕ) → Memᴰ row (searched b order) → Memᴰ (by_group (groups_of b order) row) (solutions b)
    searched_solution row m =
        let (n, s) = kept_in (solves_in b (groups_of b order)) (values_in b (groups_of b order)) row
        (rw searched_solved at m) in
        solved_values row n s

    -- and each solution is one
    pub solution_searched : (row : List ℕ) → Memᴰ row (solutions b) → Memᴰ (read_at (groups_of b order) row) (searched b order)
    solution_searched row m =
        let (w, s) = solutions_in b proper row m in
        rw searched_solved
        (in_kept (solves_in b (groups_of b order)) (values_in b (groups_of b order))
        (row_values b (groups_of b order) each_group row w)
        (rw (by_group_of_read (groups_of b order) (length (firsts b)) each_group row (within_length (sizes b) row w ∙ sizes_long b)) s))

    module _ (v k : ℕ) (h : v + k ≤ suc (size_at b (get_or order 0 0))) where
      -- the rows of the tree with the first group at k values from v up
      pub searched_from_solved : searched_from b order v k
          ≡ keep (solves_in b (groups_of b order)) (keep (first_from v k) (values_in b (groups_of b order)))
      unfolding tree_from
      searched_from_solved =
          branches_solved (get_or order 0 0) (drop 1 (groups_of b order)) (rw first_apart at each_group) v k h
          ∙ ap (λ (gs : List ℕ). keep (solves_in b gs) (keep (first_from v k) (values_in b gs))) (sym first_apart)

      -- each has a value for each group
      pub branch_long : (row : List ℕ) → Memᴰ row (searched_from b order v k) → length row ≡ (grouped b).groups
      unfolding tree_from
      branch_long row m =
          branches_row_length (size_at b) (slot_cells (grouped b).columns)
          (tree (size_at b) (slot_cells (grouped b).columns) (drop 1 (groups_of b order))) (get_or order 0 0) (length (drop 1 (groups_of b order)))
          (tree_row_length (size_at b) (slot_cells (grouped b).columns) (drop 1 (groups_of b order))) v k (grouped b).needs (grouped b).rooms row m
          ∙ ap (λ (l : List ℕ). length l) (sym first_apart)
          ∙ o.long

      -- each gives a solution in which that group has one of the values
      pub branch_solution : (row : List ℕ) → Memᴰ row (searched_from b order v k)
          → Memᴰ (by_group (groups_of b order) row) (solutions b)
          × (v ≤ get_or (by_group (groups_of b order) row) (get_or order 0 0) 0)
          × (get_or (by_group (groups_of b order) row) (get_or order 0 0) 0 < v + k)
      branch_solution row m =
          let (n, s) = kept_in (solves_in b (groups_of b order)) (keep (first_from v k) (values_in b (groups_of b order))) row
          (rw searched_from_solved at m) in
          let (p, f) = kept_in (first_from v k) (values_in b (groups_of b order)) row n in (
            solved_values row p s,
            omega (arith, first_value row, leb-true v (get_or row 0 0) (and_left (leb v (get_or row 0 0)) (ltb (get_or row 0 0) (v + k)) f)),
            omega (arith, first_value row, ltb-true (get_or row 0 0) (v + k) (and_right (leb v (get_or row 0 0)) (ltb (get_or row 0 0) (v + k)) f)),
          )

      -- and each such solution is one
      pub solution_branch : (row : List ℕ) → Memᴰ row (solutions b) → v ≤ get_or row (get_or order 0 0) 0 → get_or row (get_or order 0 0) 0 < v + k
          → Memᴰ (read_at (groups_of b order) row) (searched_from b order v k)
      solution_branch row m l u =
          let (w, s) = solutions_in b proper row m in
          let back : by_group (groups_of b order) (read_at (groups_of b order) row) ≡ row =
          by_group_of_read (groups_of b order) (length (firsts b)) each_group row (within_length (sizes b) row w ∙ sizes_long b) in
          let first : get_or (read_at (groups_of b order) row) 0 0 ≡ get_or row (get_or order 0 0) 0 =
          sym (first_value (read_at (groups_of b order) row)) ∙ ap (λ (r : List ℕ). get_or r (get_or order 0 0) 0) back in
          rw searched_from_solved
          (in_kept (solves_in b (groups_of b order)) (keep (first_from v k) (values_in b (groups_of b order)))
          (in_kept (first_from v k) (values_in b (groups_of b order)) (row_values b (groups_of b order) each_group row w)
          (rw (first, le-leb v (get_or row (get_or order 0 0) 0) l, lt-ltb (get_or row (get_or order 0 0) 0) (v + k) u)))
          (rw back s))

      -- so where there is no row, no solution gives that group one of the values
      pub no_branch : searched_from b order v k ≡ [] → (row : List ℕ) → Memᴰ row (solutions b)
          → v ≤ get_or row (get_or order 0 0) 0 → get_or row (get_or order 0 0) 0 < v + k → ⊥
      no_branch e row m l u = Memᴰ.not-nil (rw e at (solution_branch row m l u))

    -- ---- what enumeration asks

    -- where a test on the first group's value fails exactly at the values searched: it passes in all solutions if no row is found
    pub test_in_all : (v k : ℕ) → v + k ≤ suc (size_at b (get_or order 0 0)) → (test : ℕ → Bool)
        → ((x : ℕ) → x ≤ size_at b (get_or order 0 0) → test x ≡ not (leb v x && ltb x (v + k)))
        → empty (searched_from b order v k) ≡ all (λ (row : List ℕ). test (get_or row (get_or order 0 0) 0)) (solutions b)
    test_in_all v k h test fails =
        same_test (empty (searched_from b order v k)) (all (λ (row : List ℕ). test (value row)) (solutions b))
        (λ e. all_of (λ (row : List ℕ). test (value row)) (solutions b) (λ row m.
        fails (value row) (at_most row m) ∙ ap not (outside e row m (decided (leb v (value row))) (decided (ltb (value row) (v + k))))))
        (λ t. nothing t (decided (empty (searched_from b order v k))))
      where
        value : List ℕ → ℕ
        value row = get_or row (get_or order 0 0) 0

        at_most : (row : List ℕ) → Memᴰ row (solutions b) → value row ≤ size_at b (get_or order 0 0)
        at_most row m = omega (arith, within_read (sizes b) row (solutions_in b proper row m).0 (get_or order 0 0), sizes_read b (get_or order 0 0))

        outside : empty (searched_from b order v k) ≡ true → (row : List ℕ) → Memᴰ row (solutions b)
            → Decided (leb v (value row)) → Decided (ltb (value row) (v + k))
            → (leb v (value row) && ltb (value row) (v + k)) ≡ false
        outside e row m (inl l) (inl u) =
            absurd (no_branch v k h (empty_nil (searched_from b order v k) e) row m (leb-true v (value row) l) (ltb-true (value row) (v + k) u))
        outside e row m (inl l) (inr u) = rw (l, u)
        outside e row m (inr l) u = rw l

        nothing : all (λ (row : List ℕ). test (value row)) (solutions b) ≡ true → Decided (empty (searched_from b order v k))
            → empty (searched_from b order v k) ≡ true
        nothing t (inl e) = e
        nothing t (inr e) =
            let (values, n) = not_empty (searched_from b order v k) e in
            let (m, l, u) = branch_solution v k h values n in
            clash (test (value (by_group (groups_of b order) values)))
            (all_in (λ (r : List ℕ). test (value r)) (solutions b) t m)
            (fails (value (by_group (groups_of b order) values)) (at_most (by_group (groups_of b order) values) m)
            ∙ rw (le-leb v (value (by_group (groups_of b order) values)) l, lt-ltb (value (by_group (groups_of b order) values)) (v + k) u))
