-- What the arrays of `grouped` read for a block that is combinable: the sizes and columns of its groups, and what its equations need and have room for. An
-- equation has room for its groups, so any order that has each group once can be searched. Rests on EquationGroups, on Orders, and on the laws of slots.
-- Assumes nothing.
use mathlib.Core.Path.{◌≡◌, refl, ap, ◌∙◌}
use mathlib.Core.Logic.{inl, inr}
use mathlib.Core.Bool.{true, false}
use mathlib.Core.List.{List, [], map}
use Prim.Native.Nat.{ℕ, ◌-◌, ◌≤◌, ◌<◌}
use native.Mathlib.Omega.{arith}
use native.Mathlib.Decide.{dec_lt}
use lib.Dec.{eqb, ltb}
use lib.ListN.{length, get_or, take, length-map, get_or-map, get_or-eq_default}
use borrow.Author.Tests.{eq-eqb, le-leb, lt-ltb}
use Rattle.lists.specs.Lists.{range, keep, all, has, joined, pad}
use Rattle.lists.proofs.Tests.{Decided, decided}
use Rattle.lists.proofs.All.{has_all}
use Rattle.lists.proofs.Members.{range_in}
use Rattle.lists.proofs.Unions.{mem_at}
use Rattle.lists.proofs.Kept.{keep_ext, keep_none}
use Rattle.lists.proofs.Joined.{map_ext, length_joined, joined_map_map}
use Rattle.lists.proofs.Arrays.{pad_read, length_pad}
use Rattle.lists.proofs.StoredAndKept.{all_mapped}
use Rattle.blocks.specs.Blocks.{BlockEquation, Block}
use Rattle.blocks.specs.BlockSets.{slots_of, slot_cells, small_equation}
use Rattle.blocks.proofs.Slots.{slot_cells_lem}
use Rattle.groups.specs.Groups.{no_cells, column, firsts, sizes, groups_in}
use Rattle.groups.specs.Grouping.{Combinable, grouped}
use Rattle.groups.proofs.GroupLaws.{column_has, column_below, column_once, first_of_block, firsts_few, combinable_column, combinable_equation, combinable_proper, size_small}
use Rattle.search.specs.Solutions.{sum}
use Rattle.search.specs.Searching.{Ordered, State}
use Rattle.search.proofs.TreeLaws.{Searchable}
use Rattle.search.proofs.Orders.{EachOnce, each_below, each_sum}
use Rattle.search.proofs.EquationGroups.{equation_room}

-- ---- the arrays

module _ (b : Block) where
  pub groups_read : (grouped b).groups ≡ length (firsts b)
  unfolding grouped
  groups_read = refl

  pub equations_read : (grouped b).equations ≡ length b.equations
  unfolding grouped
  equations_read = refl

  pub sizes_read : (g : ℕ) → get_or (grouped b).sizes g 0 ≡ get_or (sizes b) g 0
  unfolding grouped
  sizes_read g = pad_read 1024 0 (sizes b) g

  pub needs_read : (e : ℕ) → get_or (grouped b).needs e 0 ≡ (get_or b.equations e no_cells).rest - 8
  unfolding grouped
  needs_read e =
      pad_read 1024 0 (map (λ (q : BlockEquation). q.rest - 8) b.equations) e
      ∙ get_or-map (λ (q : BlockEquation). q.rest - 8) b.equations e no_cells

  pub rooms_read : (e : ℕ) → get_or (grouped b).rooms e 0 ≡ length (get_or b.equations e no_cells).cells
  unfolding grouped
  rooms_read e =
      pad_read 1024 0 (map (λ (q : BlockEquation). length q.cells) b.equations) e
      ∙ get_or-map (λ (q : BlockEquation). length q.cells) b.equations e no_cells

module _ (b : Block) (k : Combinable b) where
  pub needs_long : length (grouped b).needs ≡ 1024
  unfolding grouped
  needs_long =
      length_pad 1024 0 (map (λ (q : BlockEquation). q.rest - 8) b.equations)
      (omega (arith, k.few_equations, length-map b.equations (λ (q : BlockEquation). q.rest - 8)))

  pub rooms_long : length (grouped b).rooms ≡ 1024
  unfolding grouped
  rooms_long =
      length_pad 1024 0 (map (λ (q : BlockEquation). length q.cells) b.equations)
      (omega (arith, k.few_equations, length-map b.equations (λ (q : BlockEquation). length q.cells)))

  pub groups_few : length (firsts b) ≤ 1024
  groups_few = omega (arith, firsts_few b, k.few_cells)

  pub columns_long : length (grouped b).columns ≡ 8192
  unfolding grouped
  columns_long =
      length_pad 8192 65535 (joined (map (λ (c : ℕ). pad 8 65535 (column b c)) (firsts b)))
      (omega (arith, groups_few, length_joined (λ (c : ℕ). pad 8 65535 (column b c)) 8 (firsts b) eights))
    where
      eights : all (λ c. eqb (length (pad 8 65535 (column b c))) 8) (firsts b) ≡ true
      eights = has_all (λ c. eqb (length (pad 8 65535 (column b c))) 8) (firsts b) (λ c m.
          eq-eqb (length (pad 8 65535 (column b c))) 8 (length_pad 8 65535 (column b c) (combinable_column b k c (first_of_block b c m)).1))

  -- a group's column is that of its first cell
  pub columns_read : (g : ℕ) → g < length (firsts b) → slot_cells (grouped b).columns g ≡ column b (get_or (firsts b) g 0)
  unfolding grouped
  columns_read g h =
      ap (λ (l : List ℕ). slot_cells (pad 8192 65535 l) g) (joined_map_map slots_of column_of (firsts b))
      ∙ slot_cells_lem (map column_of (firsts b)) small g (column_of 0) (omega (arith, length-map (firsts b) column_of))
      ∙ ap (λ (q : BlockEquation). q.cells) (get_or-map column_of (firsts b) g 0)
    where
      column_of : ℕ → BlockEquation
      column_of c = record { cells = column b c; rest = 0 }

      small : all small_equation (map column_of (firsts b)) ≡ true
      small =
          all_mapped (λ c. small_equation (column_of c)) small_equation column_of (firsts b) (λ _ e. e)
          (has_all (λ c. small_equation (column_of c)) (firsts b) (λ c m.
          rw (
            le-leb (length (column b c)) 8 (combinable_column b k c (first_of_block b c m)).1,
            has_all (λ e. ltb e 1024) (column b c) (λ e n. lt-ltb e 1024 (omega (arith, column_below b c e n, k.few_equations))),
          )))

  -- ---- what the search is told

  -- the groups whose column has an equation are the equation's groups
  pub equation_groups : (e : ℕ) → e < length b.equations
      → keep (λ g. has (slot_cells (grouped b).columns g) e) (range 0 (length (firsts b))) ≡ groups_in b (get_or b.equations e no_cells)
  unfolding groups_in
  equation_groups e l =
      keep_ext (λ g. has (slot_cells (grouped b).columns g) e) (λ g. has (get_or b.equations e no_cells).cells (get_or (firsts b) g 0))
      (range 0 (length (firsts b)))
      (λ g m. rw (columns_read g (omega (arith, range_in 0 (length (firsts b)) g m))) (column_has b (get_or (firsts b) g 0) e l))

  -- past the equations there are none
  pub no_groups_past : (e : ℕ) → length b.equations ≤ e → keep (λ g. has (slot_cells (grouped b).columns g) e) (range 0 (length (firsts b))) ≡ []
  no_groups_past e h =
      keep_ext (λ g. has (slot_cells (grouped b).columns g) e) (λ _. false) (range 0 (length (firsts b)))
      (λ g m. rw (columns_read g (omega (arith, range_in 0 (length (firsts b)) g m)))
      (out (get_or (firsts b) g 0) (decided (has (column b (get_or (firsts b) g 0)) e))))
      ∙ keep_none (range 0 (length (firsts b)))
    where
      out : (c : ℕ) → Decided (has (column b c) e) → has (column b c) e ≡ false
      out c (inl m) = absurd (omega (arith, column_below b c e m))
      out c (inr m) = m

  -- any order that has each group once can be searched
  pub searchable : (order : List ℕ) → EachOnce order (length (firsts b))
      → Searchable (λ (g : ℕ). get_or (grouped b).sizes g 0) (slot_cells (grouped b).columns) order (grouped b).needs (grouped b).rooms
  searchable order o = record {
    once = λ g m. rw (columns_read g (each_below order (length (firsts b)) o g m)) (column_once b (get_or (firsts b) g 0));
    below = λ g m. rw (columns_read g (each_below order (length (firsts b)) o g m), needs_long)
        (has_all (λ e. ltb e 1024) (column b (get_or (firsts b) g 0))
        (λ e h. lt-ltb e 1024 (omega (arith, column_below b (get_or (firsts b) g 0) e h, k.few_equations))));
    enough = λ e _. omega (
      arith,
      each_sum order (length (firsts b)) o (λ g. has (slot_cells (grouped b).columns g) e) (λ g. get_or (grouped b).sizes g 0),
      rooms_read b e,
      room e (dec_lt e (length b.equations)),
    );
  }
    where
      room : (e : ℕ) → Dec (e < length b.equations)
          → sum (map (λ (g : ℕ). get_or (grouped b).sizes g 0) (keep (λ g. has (slot_cells (grouped b).columns g) e) (range 0 (length (firsts b)))))
          ≤ length (get_or b.equations e no_cells).cells
      room e (yes l) =
          rw (equation_groups e l)
          (omega (
            arith,
            equation_room b (combinable_proper b k) (get_or b.equations e no_cells) (mem_at b.equations e no_cells l),
            ap sum (map_ext (λ g. get_or (grouped b).sizes g 0) (λ g. get_or (sizes b) g 0) (groups_in b (get_or b.equations e no_cells)) (λ g _. sizes_read b g)),
          ))
      room e (no l) = rw (no_groups_past e (omega arith)) (omega arith)

  -- ---- the arrays as the search asks for them

  -- an equation has at most eight cells and needs at most eight mines; past the equations nothing is needed
  small_at : (e : ℕ) → (length (get_or b.equations e no_cells).cells ≤ 8) × ((get_or b.equations e no_cells).rest ≤ 16)
  small_at e = go (dec_lt e (length b.equations))
    where
      go : Dec (e < length b.equations) → (length (get_or b.equations e no_cells).cells ≤ 8) × ((get_or b.equations e no_cells).rest ≤ 16)
      go (yes l) = combinable_equation b k (get_or b.equations e no_cells) (mem_at b.equations e no_cells l)
      go (no l) =
          let e : get_or b.equations e no_cells ≡ no_cells = get_or-eq_default b.equations no_cells (omega arith) in
          rw e (omega arith, omega arith)

  pub grouped_state : State (grouped b).equations (grouped b).needs (grouped b).rooms
  grouped_state = record {
    whole_needs = needs_long;
    whole_rooms = rooms_long;
    needs_small = λ e. omega (arith, needs_read b e, small_at e);
    rooms_small = λ e. omega (arith, rooms_read b e, small_at e);
    past = λ e h. needs_read b e ∙ ap (λ (q : BlockEquation). q.rest - 8) (get_or-eq_default b.equations no_cells (omega (arith, equations_read b)));
  }

  -- a group has at most eight cells
  pub group_small : (g : ℕ) → g < length (firsts b) → get_or (grouped b).sizes g 0 ≤ 8
  group_small g h = omega (arith, sizes_read b g, size_small b k g h)

  -- an order that has each group once
  pub grouped_ordered : (order : List ℕ) → length order ≡ 1024 → EachOnce (take (grouped b).groups order) (grouped b).groups
      → Ordered order (grouped b).groups (grouped b).equations (grouped b).sizes (grouped b).columns
  grouped_ordered order whole o = record {
    whole_order = whole;
    whole_columns = columns_long;
    few = omega (arith, groups_read b, groups_few);
    few_equations = omega (arith, equations_read b, k.few_equations);
    below = o.below;
    once = o.once;
    small = λ g h. group_small g (omega (arith, groups_read b));
    column_below = λ g h. rw (columns_read g (omega (arith, groups_read b)), equations_read b)
        (has_all (λ e. ltb e (length b.equations)) (column b (get_or (firsts b) g 0))
        (λ e m. lt-ltb e (length b.equations) (column_below b (get_or (firsts b) g 0) e m)));
    column_once = λ g h. rw (columns_read g (omega (arith, groups_read b))) (column_once b (get_or (firsts b) g 0));
  }
