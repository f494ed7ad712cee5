-- The table of a block, from what combine and weigh answer of it: the rows that the search writes in the order by weight are the solutions, by group. So what
-- the caller sees is the block's table in each case: a negative remainder and so no solution, rows that have room and are written, and too many rows.
-- Rests on WeighedGroups and on TreeSolutions of the crate search. Assumes nothing.
use mathlib.Core.Path.{◌≡◌, sym, ap, ◌∙◌}
use mathlib.Core.Bool.{true, false}
use mathlib.Core.List.{List, map, Memᴰ}
use Prim.Native.Nat.{ℕ, ◌+◌, ◌*◌, ◌≤◌, ◌<◌}
use native.Mathlib.Omega.{arith}
use native.Mathlib.Nat.{zero-mul, zero-add}
use lib.Dec.{leb}
use lib.ListN.{length, get_or, take}
use lib.Seq.{sets}
use borrow.Author.Tests.{leb-true, le-leb}
use Rattle.lists.specs.Lists.{joined, pad}
use Rattle.lists.proofs.TurnedRound.{map_agree}
use Rattle.refusals.specs.declared.Refusal.TheVariants as refusal
use Rattle.blocks.specs.Blocks.{Block}
use Rattle.groups.specs.Groups.{firsts}
use Rattle.groups.specs.Grouping.{Combinable, grouped}
use Rattle.groups.specs.declared.Grouped.{Grouped}
use Rattle.groups.proofs.GroupLaws.{firsts_some, combinable_proper}
use Rattle.search.specs.Solutions.{by_weight, weighed, by_group, solutions}
use Rattle.search.specs.Searching.{Ordered, State, unset, tree_at, placed}
use Rattle.search.proofs.Orders.{placed_by_group}
use Rattle.search.proofs.ReadingGroups.{groups_read, equations_read, groups_few, grouped_state}
use Rattle.search.proofs.ListedSolutions.{negative_none, weighed_each_once}
use Rattle.search.proofs.TreeSolutions.{searched, row_long, tree_solutions, tree_solutions_length, weighed_front}
use Rattle.tables.specs.Tables.{table_with, table_seen, table_of}
use Rattle.std.specs.Prelude.{Err}
use Rattle.tables.proofs.WeighedGroups.{weighed_by_columns, weighed_few, weighed_front_once, weighed_ordered}

-- the rows of the tree as they are written: by group, over the values that stood there
abbrev written_rows : Grouped → List ℕ → List ℕ → List (List ℕ)
written_rows r order values =
    map (λ (w : List ℕ). take r.groups (placed values (unset order r.groups 0) w))
    (tree_at order r.groups r.sizes r.columns 0 r.needs r.rooms)

-- how many rows there are
abbrev row_count : Grouped → List ℕ → ℕ
row_count r order = length (tree_at order r.groups r.sizes r.columns 0 r.needs r.rooms)

-- ---- the rows that are written

module _ (b : Block) (k : Combinable b) (positive : (grouped b).negative ≡ false) where
  rows_solutions : (values : List ℕ) → length values ≡ 1024 → written_rows (grouped b) (pad 1024 0 (weighed b)) values ≡ solutions b
  rows_solutions values whole =
      map_agree (λ (w : List ℕ). take (grouped b).groups (placed values (unset (pad 1024 0 (weighed b)) (grouped b).groups 0) w)) (by_group (weighed b))
      (searched b (pad 1024 0 (weighed b))) by_group_lem
      ∙ tree_solutions b k positive
    where
      by_group_lem : (w : List ℕ) → Memᴰ w (searched b (pad 1024 0 (weighed b)))
          → take (grouped b).groups (placed values (unset (pad 1024 0 (weighed b)) (grouped b).groups 0) w) ≡ by_group (weighed b) w
      by_group_lem w m =
          let long = row_long b k positive (pad 1024 0 (weighed b)) (weighed_front_once b k) w m in
          rw (weighed_front b k, groups_read b)
          (placed_by_group values (weighed b) w (length (firsts b)) (weighed_each_once b (combinable_proper b k)) (omega (arith, groups_few b k))
          (long ∙ groups_read b))

-- ---- what combine and weigh answer

module _ (b : Block) (k : Combinable b) {r : Grouped} (is : r ≡ grouped b) where
  pub groups_are : r.groups ≡ length (firsts b)
  groups_are = rw is (groups_read b)

  pub groups_some : 0 < r.groups
  groups_some = omega (arith, groups_are, firsts_some b k.some)

  pub weigh_room : (r.groups ≤ 1024) × (r.equations ≤ 1024)
  weigh_room = rw is (omega (arith, groups_read b, groups_few b k), omega (arith, equations_read b, k.few_equations))

  pub weigh_few : length (by_weight (λ (g : ℕ). get_or r.columns (g * 8) 0) r.groups r.equations) ≤ 1024
  weigh_few = rw (is, weighed_by_columns b k) (weighed_few b k)

  pub table_state : State r.equations r.needs r.rooms
  table_state = rw is (grouped_state b k)

  -- a negative remainder
  pub table_negative : (t : List ℕ) → r.negative ≡ true → table_seen (table_with 0 r.groups) t ≡ table_of b t
  unfolding table_of
  table_negative t negative =
      rw (negative_none b (rw is at negative), zero-mul, le-leb 0 (length t) (omega arith)) (ap (λ (n : ℕ). table_seen (table_with 0 n) t) groups_are)

  module _ {order : List ℕ} (by : order ≡ pad 1024 0 (by_weight (λ (g : ℕ). get_or r.columns (g * 8) 0) r.groups r.equations)) where
    order_is : order ≡ pad 1024 0 (weighed b)
    order_is = by ∙ rw (is, weighed_by_columns b k)

    pub table_ordered : Ordered order r.groups r.equations r.sizes r.columns
    table_ordered = rw (order_is, is) (weighed_ordered b k)

    module _ (positive : r.negative ≡ false) where
      rows_are : (values : List ℕ) → length values ≡ 1024 → written_rows r order values ≡ solutions b
      rows_are values whole = rw (order_is, is) (rows_solutions b k (rw is at positive) values whole)

      count_is : row_count r order ≡ length (solutions b)
      count_is = rw (order_is, is) (tree_solutions_length b k (rw is at positive))

      same_room : row_count r order * r.groups ≡ length (solutions b) * length (firsts b)
      same_room = rw (count_is, groups_are)

      -- room for the rows
      pub rows_room : (room : ℕ) → leb (row_count r order * r.groups) room ≡ true → (0 + row_count r order) * r.groups ≤ room
      rows_room room h = rw zero-add (leb-true (row_count r order * r.groups) room h)

      -- the rows have room
      pub table_listed : (t values : List ℕ) → length values ≡ 1024 → leb (row_count r order * r.groups) (length t) ≡ true
          → {n : ℕ} → n ≡ 0 + row_count r order → {after : List ℕ} → after ≡ sets t (0 * r.groups) (joined (written_rows r order values))
          → table_seen (table_with n r.groups) after ≡ table_of b t
      unfolding table_of
      table_listed t values whole h {n} counted {after} wrote =
          let many : n ≡ length (solutions b) = omega (arith, counted, count_is) in
          rw (sym same_room, h) (rw (many, groups_are, wrote, zero-mul, rows_are values whole))

      -- they have none
      pub table_refused_lem : (t : List ℕ) → leb (row_count r order * r.groups) (length t) ≡ false → table_seen (Err refusal.Table) t ≡ table_of b t
      unfolding table_of
      table_refused_lem t h = rw (sym same_room, h)
