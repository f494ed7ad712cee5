-- What a search for one solution answers: a row for the groups still unset, noted with the values of the settled ones, or that there is none (`Answered`); and a
-- question that is asked unless its answer is marked already (`Question`). The idea: with the settled groups first, the rows of the tree over all groups are
-- those that the search goes over, each behind the settled values, so what it finds is a solution and every solution has the settled values. So what is
-- marked some solution shows, and all that some solution shows is marked: of the settled groups after one search for any solution, of another after its two
-- questions. Rests on the laws of the search tree in any order and of values held. Assumes nothing.
use mathlib.Core.Path.{◌≡◌, refl, sym, ap, ◌∙◌}
use mathlib.Core.Logic.{inl, inr}
use mathlib.Core.Bool.{true, false, not}
use mathlib.Core.List.Memᴰ
use mathlib.Core.List.{List, [], ◌∷◌, ◌++◌, map, map-append, Memᴰ}
use Prim.Native.Nat.{ℕ, suc, ◌+◌, ◌-◌, ◌≤◌, ◌<◌}
use native.Mathlib.Omega.{arith}
use lib.Dec.{eqb, ltb}
use lib.ListN.{length, get_or, take, drop, length-map, take-append-drop}
use lib.Seq.{take-take, take_at, drop_at}
use borrow.Author.Tests.{eqb-true, eqb-false, eq-eqb, ltb-true, ltb-false, lt-ltb, ne_eqb}
use Rattle.lists.specs.Lists.{empty, has, first_place}
use Rattle.lists.proofs.Tests.{Decided, decided, clash, or_left}
use Rattle.lists.proofs.All.{all_has}
use Rattle.lists.proofs.Members.{has_append}
use Rattle.lists.proofs.Joined.{map_ext}
use Rattle.lists.proofs.TurnedRound.{nodup_apart}
use Rattle.lists.proofs.Unions.{all_of}
use Rattle.lists.proofs.Occurrences.{empty_nothing, all_in}
use Rattle.blocks.specs.Blocks.{Block}
use Rattle.blocks.specs.BlockSets.{slot_cells}
use Rattle.groups.specs.Groups.{firsts, sizes}
use Rattle.groups.specs.Grouping.{Combinable, grouped}
use Rattle.groups.specs.declared.Grouped.{Grouped}
use Rattle.groups.proofs.GroupLaws.{combinable_proper}
use Rattle.search.specs.Trees.{tree}
use Rattle.search.specs.Solutions.{by_group, solutions}
use Rattle.search.specs.TableRows.{read_at}
use Rattle.search.specs.Searching.{Kept, OrderOf, unset_of, tree_at, tree_from, tree_of, tree_of_values}
use Rattle.search.specs.declared.Unmet.{Unmet}
use Rattle.search.proofs.Vectors.{within_read}
use Rattle.search.proofs.Orders.{EachOnce, ordered_each_once, place_read, values_by_group}
use Rattle.search.proofs.OrderedGroups.{Group, group_at, group_below, unset_more}
use Rattle.search.proofs.HeldValues.{from_in_tree, tree_in_from}
use Rattle.search.proofs.ListedSolutions.{solutions_in}
use Rattle.search.proofs.ReadingGroups.{groups_read, sizes_read}
use Rattle.search.proofs.TreeSolutions.{groups_of, size_at, searched, searched_solution, solution_searched}
use Rattle.enumeration.specs.Enumeration.{never_mined, always_mined}
use Rattle.enumeration.specs.Asking.{mine_in, free_in, Noted, Answered, OverGroups, ShownOnly, Told, SettledTold, Stays}
use Rattle.enumeration.specs.declared.asking.Shown.{Shown}
use Rattle.enumeration.proofs.NotedMarks.{noted_there, noted_stay, only_noted, stay_same}

-- ---- what is answered

module _ (combined : Grouped) (at : ℕ) (order settled : List ℕ) (rows : List (List ℕ)) (before : Shown) where
  -- a row was found
  pub answered_one : {after : Shown} (values : List ℕ) → Kept (unset_of combined order at) settled values
      → Memᴰ (map (λ (g : ℕ). get_or values g 0) (unset_of combined order at)) rows
      → Noted combined.groups (mine_in values) before.mined after.mined → Noted combined.groups (free_in combined.sizes values) before.unfilled after.unfilled
      → Answered combined at order settled rows before after
  answered_one values kept m n k = record { none = λ e. absurd (empty_nothing rows e m); one = λ e. (values, kept, m, n, k) }

  -- none was
  pub answered_none : (1 - length rows ≡ 0 → ⊥) → Answered combined at order settled rows before before
  answered_none h = record { none = λ e. refl; one = λ e. clash (empty rows) (nothing rows h) e }
    where
      nothing : (l : List (List ℕ)) → (1 - length l ≡ 0 → ⊥) → empty l ≡ true
      nothing [] h = refl
      nothing (x ∷ l) h = absurd (h (omega arith))

  -- no mark is taken away
  pub answered_stay : {after : Shown} → Answered combined at order settled rows before after → Stays before after
  answered_stay {after} a = go (decided (empty rows))
    where
      go : Decided (empty rows) → Stays before after
      go (inl e) = rw (a.none e) record { mines = stay_same before.mined; frees = stay_same before.unfilled }
      go (inr e) = let (values, kept, m, n, k) = a.one e in record { mines = noted_stay n; frees = noted_stay k }

-- ---- solutions and marks

module _ (b : Block) (row : List ℕ) (m : Memᴰ row (solutions b)) (g : ℕ) where
  -- a solution that has a mine in a group
  some_mine_lem : 0 < get_or row g 0 → not (never_mined b g) ≡ true
  some_mine_lem h = go (decided (never_mined b g))
    where
      go : Decided (never_mined b g) → not (never_mined b g) ≡ true
      go (inl e) = clash (eqb (get_or row g 0) 0) (all_in (λ (r : List ℕ). eqb (get_or r g 0) 0) (solutions b) e m) (ne_eqb (get_or row g 0) 0 (λ w. omega (arith, w)))
      go (inr e) = rw e

  -- one that leaves a cell of it free
  some_free_lem : get_or row g 0 < size_at b g → not (always_mined b g) ≡ true
  some_free_lem h = go (decided (always_mined b g))
    where
      go : Decided (always_mined b g) → not (always_mined b g) ≡ true
      go (inl e) =
          clash (eqb (get_or row g 0) (get_or (sizes b) g 0)) (all_in (λ (r : List ℕ). eqb (get_or r g 0) (get_or (sizes b) g 0)) (solutions b) e m)
          (ne_eqb (get_or row g 0) (get_or (sizes b) g 0) (λ w. omega (arith, w, sizes_read b g)))
      go (inr e) = rw e

-- where no solution has a mine in a group, and where each fills it
none_mined : (b : Block) (g : ℕ) → ((row : List ℕ) → Memᴰ row (solutions b) → get_or row g 0 ≡ 0) → never_mined b g ≡ true
none_mined b g h = all_of (λ (row : List ℕ). eqb (get_or row g 0) 0) (solutions b) (λ row m. eq-eqb (get_or row g 0) 0 (h row m))

all_mined : (b : Block) (g : ℕ) → ((row : List ℕ) → Memᴰ row (solutions b) → get_or row g 0 ≡ size_at b g) → always_mined b g ≡ true
all_mined b g h =
    all_of (λ (row : List ℕ). eqb (get_or row g 0) (get_or (sizes b) g 0)) (solutions b)
    (λ row m. eq-eqb (get_or row g 0) (get_or (sizes b) g 0) (omega (arith, h row m, sizes_read b g)))

-- a solution gives a group at most as many mines as it has cells
at_most : (b : Block) → Combinable b → (row : List ℕ) → Memᴰ row (solutions b) → (g : ℕ) → get_or row g 0 ≤ size_at b g
at_most b k row m g = omega (arith, within_read (sizes b) row (solutions_in b (combinable_proper b k) row m).0 g, sizes_read b g)

-- the values that were found are a solution's, and are noted
record Solved (b : Block) (before after : Shown) : Type 0 where
  row : List ℕ
  solution : Memᴰ row (solutions b)
  values : List ℕ
  agree : (g : ℕ) → g < length (firsts b) → get_or values g 0 ≡ get_or row g 0
  mines : Noted (length (firsts b)) (mine_in values) before.mined after.mined
  frees : Noted (length (firsts b)) (free_in (grouped b).sizes values) before.unfilled after.unfilled

module _ {b : Block} {before after : Shown} (f : Solved b before after) where
  -- what is marked some solution shows
  solved_shown : ShownOnly b before → ShownOnly b after
  solved_shown s =
      record {
        mines = only_noted f.mines (λ g. not (never_mined b g))
            (λ g h t. some_mine_lem b f.row f.solution g (omega (arith, ltb-true 0 (get_or f.values g 0) t, f.agree g h)))
            s.mines;
        frees = only_noted f.frees (λ g. not (always_mined b g))
            (λ g h t. some_free_lem b f.row f.solution g (omega (arith, ltb-true (get_or f.values g 0) (size_at b g) t, f.agree g h)))
            s.frees;
      }

  -- and what this one shows is marked
  solved_mine : (g : ℕ) → g < length (firsts b) → 0 < get_or f.row g 0 → get_or after.mined g 0 ≡ 1
  solved_mine g h l = noted_there f.mines g h (lt-ltb 0 (get_or f.values g 0) (omega (arith, f.agree g h)))

  solved_free : (g : ℕ) → g < length (firsts b) → get_or f.row g 0 < size_at b g → get_or after.unfilled g 0 ≡ 1
  solved_free g h l = noted_there f.frees g h (lt-ltb (get_or f.values g 0) (size_at b g) (omega (arith, f.agree g h)))

-- ---- behind the settled groups

module _ {b : Block} {combined : Grouped} {values : List ℕ} {unmet : Unmet} (order : List ℕ) (at : ℕ)
    (over : OverGroups b combined (take at order) values unmet) (ordered : OrderOf combined order) (within : at ≤ combined.groups) where
  is_groups : combined.groups ≡ (grouped b).groups
  is_groups = ap (λ (x : Grouped). x.groups) over.is

  is_sizes : combined.sizes ≡ (grouped b).sizes
  is_sizes = ap (λ (x : Grouped). x.sizes) over.is

  is_columns : combined.columns ≡ (grouped b).columns
  is_columns = ap (λ (x : Grouped). x.columns) over.is

  each : EachOnce (groups_of b order) (grouped b).groups
  each = rw is_groups at (ordered_each_once order combined.groups combined.equations combined.sizes combined.columns ordered (omega (arith, ordered.whole_order, ordered.few)))

  parted : take combined.groups order ≡ take at order ++ unset_of combined order at
  parted = sym (take-append-drop at (take combined.groups order)) ∙ ap (λ (l : List ℕ). l ++ drop at (take combined.groups order)) (take-take at combined.groups order within)

  -- the rows of the tree over all groups
  behind : searched b order ≡ map (λ (row : List ℕ). read_at (take at order) values ++ row) (tree_of combined order at unmet)
  unfolding tree_at
  behind =
      rw (← is_groups, ← is_sizes, ← is_columns)
      (ap (λ (gs : List ℕ). tree (λ (g : ℕ). get_or combined.sizes g 0) (slot_cells combined.columns) gs (grouped b).needs (grouped b).rooms) parted
      ∙ over.settles.rows (unset_of combined order at))

  -- all groups read, the settled ones first
  read_parted : (row : List ℕ) → read_at (groups_of b order) row ≡ read_at (take at order) row ++ read_at (unset_of combined order at) row
  read_parted row =
      ap (λ (n : ℕ). read_at (take n order) row) (sym is_groups)
      ∙ ap (λ (gs : List ℕ). read_at gs row) parted
      ∙ map-append (λ (g : ℕ). get_or row g 0) (take at order) (unset_of combined order at)

  -- the search leaves the settled groups as they are
  settled_kept : (after : List ℕ) → Kept (unset_of combined order at) values after → read_at (take at order) after ≡ read_at (take at order) values
  settled_kept after k =
      map_ext (λ (g : ℕ). get_or after g 0) (λ (g : ℕ). get_or values g 0) (take at order)
      (λ g m. k.others g (nodup_apart (take at order) (unset_of combined order at) (rw parted at ordered.once) g m))

  -- a row that the search finds is a solution's
  found_solution : (after : List ℕ) → Kept (unset_of combined order at) values after
      → Memᴰ (read_at (unset_of combined order at) after) (tree_of combined order at unmet)
      → Memᴰ (by_group (groups_of b order) (read_at (groups_of b order) after)) (solutions b)
  found_solution after k m =
      let is = read_parted after ∙ ap (λ (l : List ℕ). l ++ read_at (unset_of combined order at) after) (settled_kept after k) in
      searched_solution b over.combinable over.positive order each (read_at (groups_of b order) after)
      (rw (behind, is) (Memᴰ.map (λ (row : List ℕ). read_at (take at order) values ++ row) m))

  -- and every solution has the settled values, and its others are a row
  solution_row : (row : List ℕ) → Memᴰ row (solutions b)
      → (read_at (take at order) row ≡ read_at (take at order) values) × Memᴰ (read_at (unset_of combined order at) row) (tree_of combined order at unmet)
  solution_row row m =
      let (r, n, e) = Memᴰ.of_map (λ (l : List ℕ). read_at (take at order) values ++ l) (tree_of combined order at unmet)
      (rw behind at (solution_searched b over.combinable over.positive order each row m)) in
      let whole = sym (e ∙ read_parted row) in
      let long = length-map (take at order) (λ (g : ℕ). get_or row g 0) in
      let same_long = length-map (take at order) (λ (g : ℕ). get_or values g 0) in
      let back : read_at (unset_of combined order at) row ≡ r =
      sym (drop_at (read_at (take at order) row) (read_at (unset_of combined order at) row) (length (take at order)) long)
      ∙ ap (drop (length (take at order))) whole ∙ drop_at (read_at (take at order) values) r (length (take at order)) same_long in (
        sym (take_at (read_at (take at order) row) (read_at (unset_of combined order at) row) (length (take at order)) long)
            ∙ ap (take (length (take at order))) whole
            ∙ take_at (read_at (take at order) values) r (length (take at order)) same_long,
        rw back n,
      )

  -- so at a settled group
  settled_value : (row : List ℕ) → Memᴰ row (solutions b) → (g : ℕ) → has (take at order) g ≡ true → get_or row g 0 ≡ get_or values g 0
  settled_value row m g h =
      sym (place_read (λ (x : ℕ). get_or row x 0) (take at order) g h)
      ∙ ap (λ (l : List ℕ). get_or l (first_place (eqb g) (take at order)) 0) (solution_row row m).0
      ∙ place_read (λ (x : ℕ). get_or values x 0) (take at order) g h

  -- ---- a search over some rows of the tree

  module _ (rows : List (List ℕ)) (inside : (row : List ℕ) → Memᴰ row rows → Memᴰ row (tree_of combined order at unmet))
      {before after : Shown} (a : Answered combined at order values rows before after) where
    -- the values found are those of one of the rows
    solved : empty rows ≡ false
        → (f : Solved b before after) × Memᴰ (read_at (unset_of combined order at) f.values) rows
    solved e =
        let (found, kept, m, n, k) = a.one e in
        let row = by_group (groups_of b order) (read_at (groups_of b order) found) in
        let agree : (g : ℕ) → g < length (firsts b) → get_or found g 0 ≡ get_or row g 0 = λ g h.
        values_by_group (groups_of b order) (grouped b).groups each found (read_at (groups_of b order) found) refl g (omega (arith, h, groups_read b)) in
        let few = is_groups ∙ groups_read b in (
          record {
            row = row;
            solution = found_solution found kept (inside (read_at (unset_of combined order at) found) m);
            values = found;
            agree = agree;
            mines = rw few at n;
            frees = rw (few, is_sizes) at k;
          },
          m,
        )

    -- so what is marked some solution shows
    pub answered_shown : ShownOnly b before → ShownOnly b after
    answered_shown s = go (decided (empty rows))
      where
        go : Decided (empty rows) → ShownOnly b after
        go (inl e) = rw (a.none e) s
        go (inr e) = solved_shown (solved e).0 s

  -- ---- a search for any solution

  -- after it all that some solution shows of the settled groups is marked
  pub any_told : {before after : Shown} → Answered combined at order values (tree_of combined order at unmet) before after → SettledTold b (take at order) after
  any_told {before} {after} a =
      record { told = λ g h. record { mine = λ e. mine g h e (decided (empty rows)); free = λ e. free g h e (decided (empty rows)) } }
    where
      rows : List (List ℕ)
      rows = tree_of combined order at unmet

      -- no row, no solution
      nothing : empty rows ≡ true → (row : List ℕ) → Memᴰ row (solutions b) → ⊥
      nothing e row m = empty_nothing rows e (solution_row row m).1

      below : (g : ℕ) → has (take at order) g ≡ true → g < length (firsts b)
      below g h =
          let few = is_groups ∙ groups_read b in
          rw few at
          (ltb-true g combined.groups (all_has (λ x. ltb x combined.groups) (take combined.groups order) ordered.below g (rw parted (has_append (take at order) (unset_of combined order at) g ∙ or_left (has (take at order) g) (has (unset_of combined order at) g) h))))

      mine : (g : ℕ) → has (take at order) g ≡ true → never_mined b g ≡ false → Decided (empty rows) → get_or after.mined g 0 ≡ 1
      mine g h e (inl none) = clash (never_mined b g) (none_mined b g (λ row m. absurd (nothing none row m))) e
      mine g h e (inr some) = go (decided (eqb (get_or f.row g 0) 0))
        where
          f : Solved b before after
          f = (solved rows (λ row m. m) a some).0

          go : Decided (eqb (get_or f.row g 0) 0) → get_or after.mined g 0 ≡ 1
          go (inl z) =
              clash (never_mined b g)
              (none_mined b g (λ row m. settled_value row m g h ∙ sym (settled_value f.row f.solution g h) ∙ eqb-true (get_or f.row g 0) 0 z)) e
          go (inr z) = solved_mine f g (below g h) (omega (arith, eqb-false (get_or f.row g 0) 0 z))

      free : (g : ℕ) → has (take at order) g ≡ true → always_mined b g ≡ false → Decided (empty rows) → get_or after.unfilled g 0 ≡ 1
      free g h e (inl none) = clash (always_mined b g) (all_mined b g (λ row m. absurd (nothing none row m))) e
      free g h e (inr some) = go (decided (ltb (get_or f.row g 0) (size_at b g)))
        where
          f : Solved b before after
          f = (solved rows (λ row m. m) a some).0

          go : Decided (ltb (get_or f.row g 0) (size_at b g)) → get_or after.unfilled g 0 ≡ 1
          go (inl l) = solved_free f g (below g h) (ltb-true (get_or f.row g 0) (size_at b g) l)
          go (inr l) =
              clash (always_mined b g)
              (all_mined b g (λ row m. omega (
                arith,
                settled_value row m g h,
                settled_value f.row f.solution g h,
                ltb-false (get_or f.row g 0) (size_at b g) l,
                at_most b over.combinable f.row f.solution g,
              )))
              e

  -- ---- the questions about the next group

  module _ (some : at < combined.groups) where
    -- the group at the place
    abbrev next : ℕ
    next = get_or order at 0

    here : Group order combined.groups combined.equations combined.sizes combined.columns at next
    here = group_at at next ordered some refl

    next_below : next < length (firsts b)
    next_below = omega (arith, group_below here, is_groups, groups_read b)

    next_size : get_or combined.sizes next 0 ≡ size_at b next
    next_size = ap (λ (l : List ℕ). get_or l next 0) is_sizes

    first_read : (row : List ℕ) → get_or (read_at (unset_of combined order at) row) 0 0 ≡ get_or row next 0
    first_read row = ap (λ (gs : List ℕ). get_or (read_at gs row) 0 0) (unset_more here)

    module _ (v k : ℕ) (fits : v + k ≤ suc (get_or combined.sizes next 0)) {before after : Shown}
        (a : Answered combined at order values (tree_from order combined.groups combined.sizes combined.columns at v k unmet.needs unmet.rooms) before after) where
      held : (row : List ℕ) → Memᴰ row (tree_from order combined.groups combined.sizes combined.columns at v k unmet.needs unmet.rooms) → Memᴰ row (tree_of combined order at unmet)
      held row m = (from_in_tree here unmet.needs unmet.rooms v k fits row m).0

      -- what is marked some solution shows
      question_shown : ShownOnly b before → ShownOnly b after
      question_shown = answered_shown (tree_from order combined.groups combined.sizes combined.columns at v k unmet.needs unmet.rooms) held a

      -- where some solution gives the group one of the values, one that does is noted
      question_solved : (row : List ℕ) → Memᴰ row (solutions b) → v ≤ get_or row next 0 → get_or row next 0 < v + k
          → (f : Solved b before after) × (v ≤ get_or f.row next 0) × (get_or f.row next 0 < v + k)
      question_solved row m low high = go (decided (empty (tree_from order combined.groups combined.sizes combined.columns at v k unmet.needs unmet.rooms)))
        where
          there : Memᴰ (read_at (unset_of combined order at) row) (tree_from order combined.groups combined.sizes combined.columns at v k unmet.needs unmet.rooms)
          there = tree_in_from here unmet.needs unmet.rooms v k (read_at (unset_of combined order at) row) (solution_row row m).1 (omega (arith, first_read row)) (omega (arith, first_read row))

          go : Decided (empty (tree_from order combined.groups combined.sizes combined.columns at v k unmet.needs unmet.rooms))
              → (f : Solved b before after) × (v ≤ get_or f.row next 0) × (get_or f.row next 0 < v + k)
          go (inl e) = absurd (empty_nothing (tree_from order combined.groups combined.sizes combined.columns at v k unmet.needs unmet.rooms) e there)
          go (inr e) =
              let (f, n) = solved (tree_from order combined.groups combined.sizes combined.columns at v k unmet.needs unmet.rooms) held a e in
              let bounds = from_in_tree here unmet.needs unmet.rooms v k fits (read_at (unset_of combined order at) f.values) n in
              let value = first_read f.values ∙ f.agree next next_below in
              (f, omega (arith, bounds.1, value), omega (arith, bounds.2, value))

    -- where some solution has a mine in the group, it is marked
    pub answered_mine : {before after : Shown}
        → Answered combined at order values (tree_from order combined.groups combined.sizes combined.columns at 1 (get_or combined.sizes next 0) unmet.needs unmet.rooms) before after
        → never_mined b next ≡ false → get_or after.mined next 0 ≡ 1
    answered_mine {after = after} a e = go (decided (eqb (get_or after.mined next 0) 1))
      where
        go : Decided (eqb (get_or after.mined next 0) 1) → get_or after.mined next 0 ≡ 1
        go (inl h) = eqb-true (get_or after.mined next 0) 1 h
        go (inr h) = clash (never_mined b next) (none_mined b next (λ row m. zero row m (decided (eqb (get_or row next 0) 0)))) e
          where
            zero : (row : List ℕ) → Memᴰ row (solutions b) → Decided (eqb (get_or row next 0) 0) → get_or row next 0 ≡ 0
            zero row m (inl z) = eqb-true (get_or row next 0) 0 z
            zero row m (inr z) =
                let (f, low, high) = question_solved 1 (get_or combined.sizes next 0) (omega arith) a row m (omega (arith, eqb-false (get_or row next 0) 0 z))
                (omega (arith, at_most b over.combinable row m next, next_size)) in
                absurd (eqb-false (get_or after.mined next 0) 1 h (solved_mine f next next_below (omega arith)))

    -- and where some solution leaves a cell of it free
    pub answered_free : {before after : Shown}
        → Answered combined at order values (tree_from order combined.groups combined.sizes combined.columns at 0 (get_or combined.sizes next 0) unmet.needs unmet.rooms) before after
        → always_mined b next ≡ false → get_or after.unfilled next 0 ≡ 1
    answered_free {after = after} a e = go (decided (eqb (get_or after.unfilled next 0) 1))
      where
        go : Decided (eqb (get_or after.unfilled next 0) 1) → get_or after.unfilled next 0 ≡ 1
        go (inl h) = eqb-true (get_or after.unfilled next 0) 1 h
        go (inr h) = clash (always_mined b next) (all_mined b next (λ row m. full row m (decided (ltb (get_or row next 0) (size_at b next))))) e
          where
            full : (row : List ℕ) → Memᴰ row (solutions b) → Decided (ltb (get_or row next 0) (size_at b next)) → get_or row next 0 ≡ size_at b next
            full row m (inl l) =
                let (f, low, high) = question_solved 0 (get_or combined.sizes next 0) (omega arith) a row m (omega arith)
                (omega (arith, ltb-true (get_or row next 0) (size_at b next) l, next_size)) in
                absurd (eqb-false (get_or after.unfilled next 0) 1 h (solved_free f next next_below (omega (arith, next_size))))
            full row m (inr l) = omega (arith, at_most b over.combinable row m next, ltb-false (get_or row next 0) (size_at b next) l)

-- ---- questions

-- a search is made unless its answer is marked already
pub record Question (combined : Grouped) (at : ℕ) (order settled : List ℕ) (rows : List (List ℕ)) (mark : ℕ) (before after : Shown) : Type 0 where
  pub known : mark ≡ 1 → after ≡ before
  pub asked : (mark ≡ 1 → ⊥) → Answered combined at order settled rows before after

module _ {combined : Grouped} {at : ℕ} {order settled : List ℕ} {rows : List (List ℕ)} {mark : ℕ} {before after : Shown} where
  -- it is asked
  pub question_asked : (mark ≡ 1 → ⊥) → Answered combined at order settled rows before after → Question combined at order settled rows mark before after
  question_asked h a = record { known = λ e. absurd (h e); asked = λ _. a }

  -- it is not
  pub question_known : mark ≡ 1 → after ≡ before → Question combined at order settled rows mark before after
  question_known h same = record { known = λ _. same; asked = λ n. absurd (n h) }

  -- no mark is taken away
  pub question_stay : Question combined at order settled rows mark before after → Stays before after
  question_stay q = go (decided (eqb mark 1))
    where
      go : Decided (eqb mark 1) → Stays before after
      go (inl e) = rw (q.known (eqb-true mark 1 e)) record { mines = stay_same before.mined; frees = stay_same before.unfilled }
      go (inr e) = answered_stay combined at order settled rows before (q.asked (eqb-false mark 1 e))

-- ---- the two questions about the group at a place of the order

module _ {b : Block} {combined : Grouped} {values : List ℕ} {unmet : Unmet} (order : List ℕ) (at : ℕ)
    (over : OverGroups b combined (take at order) values unmet) (ordered : OrderOf combined order) (some : at < combined.groups)
    (positive : 0 < get_or combined.sizes (get_or order at 0) 0) {before between after : Shown}
    (first : Question combined at order values (tree_of_values combined order at 1 (get_or combined.sizes (get_or order at 0) 0) unmet) (get_or before.mined (get_or order at 0) 0) before between)
    (second : Question combined at order values (tree_of_values combined order at 0 (get_or combined.sizes (get_or order at 0) 0 - 1) unmet) (get_or between.unfilled (get_or order at 0) 0) between after) where
  abbrev group : ℕ
  group = get_or order at 0

  abbrev size : ℕ
  size = get_or combined.sizes group 0

  within : at ≤ combined.groups
  within = omega arith

  -- the rows of a number of values from one up
  abbrev from : ℕ → List (List ℕ)
  from v = tree_from order combined.groups combined.sizes combined.columns at v size unmet.needs unmet.rooms

  mine_asked : (get_or before.mined group 0 ≡ 1 → ⊥) → Answered combined at order values (from 1) before between
  mine_asked h = let up : suc size - 1 ≡ size = omega arith in rw up at (first.asked h)

  free_asked : (get_or between.unfilled group 0 ≡ 1 → ⊥) → Answered combined at order values (from 0) between after
  free_asked h = let down : suc (size - 1) - 0 ≡ size = omega arith in rw down at (second.asked h)

  -- what is marked some solution shows, and of the group all that some solution shows is marked
  pub group_told : ShownOnly b before → ShownOnly b after × Told b after group
  group_told shown = (
    later (decided (eqb (get_or between.unfilled group 0) 1)) (earlier (decided (eqb (get_or before.mined group 0) 1))),
    record {
      mine = λ e. (question_stay second).mines.at group (mine e (decided (eqb (get_or before.mined group 0) 1)));
      free = λ e. free e (decided (eqb (get_or between.unfilled group 0) 1));
    },
  )
    where
      earlier : Decided (eqb (get_or before.mined group 0) 1) → ShownOnly b between
      earlier (inl e) = rw (first.known (eqb-true (get_or before.mined group 0) 1 e)) shown
      earlier (inr e) = question_shown order at over ordered within some 1 size (omega arith) (mine_asked (eqb-false (get_or before.mined group 0) 1 e)) shown

      later : Decided (eqb (get_or between.unfilled group 0) 1) → ShownOnly b between → ShownOnly b after
      later (inl e) s = rw (second.known (eqb-true (get_or between.unfilled group 0) 1 e)) s
      later (inr e) s = question_shown order at over ordered within some 0 size (omega arith) (free_asked (eqb-false (get_or between.unfilled group 0) 1 e)) s

      mine : never_mined b group ≡ false → Decided (eqb (get_or before.mined group 0) 1) → get_or between.mined group 0 ≡ 1
      mine e (inl h) = (question_stay first).mines.at group (eqb-true (get_or before.mined group 0) 1 h)
      mine e (inr h) = answered_mine order at over ordered within some (mine_asked (eqb-false (get_or before.mined group 0) 1 h)) e

      free : always_mined b group ≡ false → Decided (eqb (get_or between.unfilled group 0) 1) → get_or after.unfilled group 0 ≡ 1
      free e (inl h) = (question_stay second).frees.at group (eqb-true (get_or between.unfilled group 0) 1 h)
      free e (inr h) = answered_free order at over ordered within some (free_asked (eqb-false (get_or between.unfilled group 0) 1 h)) e
