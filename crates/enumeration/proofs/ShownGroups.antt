-- What `shown_by` needs of a block and gathers about its groups: each cell's group is one of the groups, no group is empty, and the equations of a group's column are
-- the block's; what is marked of the groups already told stays told; and where all are told, the marks are what `shown` says. Rests on the laws of
-- the arrays of `grouped` and of marks. Assumes nothing.
use mathlib.Core.Path.{◌≡◌, refl, sym, ap, ◌∙◌}
use mathlib.Core.Logic.{inl, inr}
use mathlib.Core.Bool.{true, false, not, cond}
use mathlib.Core.List.{List, [], map}
use Prim.Native.Nat.{ℕ, ◌+◌, ◌-◌, ◌≤◌, ◌<◌}
use native.Mathlib.Nat.{not-suc-le-zero}
use native.Mathlib.Omega.{arith}
use lib.Dec.{ltb, eqb}
use lib.ListN.{length, get_or, take, replicate, length-map}
use lib.Seq.{length-take-le}
use borrow.Author.Tests.{eqb-true, eqb-false, lt-ltb, not-true}
use Rattle.lists.specs.Lists.{range, bit, all, has, nodup, pad}
use Rattle.lists.proofs.Tests.{Decided, decided, clash}
use Rattle.lists.proofs.All.{has_all}
use Rattle.lists.proofs.Rearranged.{length_range}
use Rattle.blocks.specs.Blocks.{Block}
use Rattle.blocks.specs.BlockSets.{slot_cells}
use Rattle.blocks.specs.Places.{Arrays, block_from, equations_from}
use Rattle.blocks.specs.declared.Bounds.{Bounds}
use Rattle.groups.specs.declared.Grouped.{Grouped}
use Rattle.groups.specs.Groups.{column, firsts, group_of_cell, sizes}
use Rattle.groups.specs.Grouping.{Combinable, grouped}
use Rattle.groups.proofs.GroupLaws.{group_of_below, size_positive, firsts_some, column_below, column_once}
use Rattle.search.specs.Solutions.{solutions}
use Rattle.search.specs.Searching.{State, OrderOf}
use Rattle.search.specs.declared.Unmet.{Unmet}
use Rattle.search.proofs.Orders.{EachOnce}
use Rattle.search.proofs.ReadingGroups.{groups_few, groups_read, equations_read, columns_read, sizes_read, group_small, grouped_ordered, grouped_state}
use Rattle.search.proofs.ListedSolutions.{negative_none}
use Rattle.orders.specs.Ordering.{Reach}
use Rattle.orders.specs.WholeOrders.{in_order}
use Rattle.settling.specs.Settling.{Columns}
use Rattle.settling.specs.SettledGroups.{SettledFrom}
use Rattle.settling.specs.declared.Settled.{Settled}
use Rattle.enumeration.specs.Enumeration.{never_mined, always_mined}
use Rattle.enumeration.specs.Asking.{shown, OverGroups, ShownOnly, Told, SettledTold, Stays}
use Rattle.enumeration.specs.declared.asking.Shown.{Shown}
use Rattle.enumeration.proofs.NotedMarks.{only_none, only_whole, stays_same, stays_twice}
use Rattle.lists.proofs.StoredAndKept.{all_mapped}

-- ---- the groups of a block

module _ (b : Block) (k : Combinable b) where
  -- each cell's group is one of the groups
  pub groups_of_below : all (λ g. ltb g (grouped b).groups) (grouped b).group_of ≡ true
  unfolding grouped
  groups_of_below =
      all_mapped (λ _. true) (λ g. ltb g (length (firsts b))) (λ (c : ℕ). cond (has b.cells c) (group_of_cell b c) 0) (range 0 1024)
      (λ c _. go c (decided (has b.cells c))) (has_all (λ _. true) (range 0 1024) (λ c _. refl))
    where
      go : (c : ℕ) → Decided (has b.cells c) → ltb (cond (has b.cells c) (group_of_cell b c) 0) (length (firsts b)) ≡ true
      go c (inl e) = rw e (lt-ltb (group_of_cell b c) (length (firsts b)) (group_of_below b c e))
      go c (inr e) = rw e (lt-ltb 0 (length (firsts b)) (firsts_some b k.some))

  -- a group has its first cell
  pub group_some : (g : ℕ) → g < (grouped b).groups → 0 < get_or (grouped b).sizes g 0
  group_some g h = let here : g < length (firsts b) = omega (arith, groups_read b) in omega (arith, sizes_read b g, size_positive b g here)

-- the equations of a group's column are those of the block, in the arrays
module _ (cells slots rests : List ℕ) (bounds : Bounds) (arrays : Arrays cells slots rests bounds) where
  equations_many : length (block_from cells slots rests bounds).equations ≡ bounds.end_equation - bounds.first_equation
  unfolding block_from equations_from
  equations_many =
      length-map (range bounds.first_equation (bounds.end_equation - bounds.first_equation)) (λ (e : ℕ). record { cells = slot_cells slots e; rest = get_or rests e 0 })
      ∙ length_range bounds.first_equation (bounds.end_equation - bounds.first_equation)

  pub columns_reach : Combinable (block_from cells slots rests bounds) → (g : ℕ) → g < (grouped (block_from cells slots rests bounds)).groups
      → Reach slots bounds.first_equation (slot_cells (grouped (block_from cells slots rests bounds)).columns g)
  columns_reach k g h =
      let b = block_from cells slots rests bounds in
      let here : g < length (firsts b) = omega (arith, groups_read b) in
      let first = get_or (firsts b) g 0 in
      record {
        end = bounds.end_equation;
        in_slots = arrays.in_slots;
        below = rw (columns_read b k g here)
            (has_all (λ e. ltb (bounds.first_equation + e) bounds.end_equation) (column b first)
            (λ e m. lt-ltb (bounds.first_equation + e) bounds.end_equation (omega (arith, column_below b first e m, equations_many))));
      }

-- ---- what is told

-- nothing is marked
pub shown_start : (b : Block) → ShownOnly b record { mined = replicate 1024 0; unfilled = replicate 1024 0 }
shown_start b =
    record {
      mines = only_none (length (firsts b)) (λ (g : ℕ). not (never_mined b g));
      frees = only_none (length (firsts b)) (λ (g : ℕ). not (always_mined b g));
    }

module _ (b : Block) {marks : Shown} where
  -- with more marks a group is still told
  pub told_stay : {after : Shown} (g : ℕ) → Stays marks after → Told b marks g → Told b after g
  told_stay g stays t = record { mine = λ e. stays.mines.at g (t.mine e); free = λ e. stays.frees.at g (t.free e) }

  module _ (s : ShownOnly b marks) where
    -- with both marks it is told
    pub told_both : (g : ℕ) → 2 ≤ get_or marks.mined g 0 + get_or marks.unfilled g 0 → Told b marks g
    told_both g h = record { mine = λ e. omega (arith, s.mines.bits g, s.frees.bits g); free = λ e. omega (arith, s.mines.bits g, s.frees.bits g) }

    -- where all groups are told, the marks are what the solutions show
    pub shown_whole : length (firsts b) ≤ 1024 → ((g : ℕ) → g < length (firsts b) → Told b marks g) → marks ≡ shown b
    unfolding shown
    shown_whole few told =
        ap (λ (l : List ℕ). record { mined = l; unfilled = marks.unfilled })
        (only_whole (length (firsts b)) (λ (g : ℕ). not (never_mined b g)) marks.mined s.mines few (λ g h t. (told g h).mine (not-true (never_mined b g) t)))
        ∙ ap (λ (l : List ℕ). record { mined = pad 1024 0 (map (λ (g : ℕ). bit (not (never_mined b g))) (range 0 (length (firsts b)))); unfilled = l })
        (only_whole (length (firsts b)) (λ (g : ℕ). not (always_mined b g)) marks.unfilled s.frees few (λ g h t. (told g h).free (not-true (always_mined b g) t)))

    -- of a block with a negative remainder nothing is to be told
    pub shown_negative : Combinable b → (grouped b).negative ≡ true → marks ≡ shown b
    shown_negative k e =
        let none : solutions b ≡ [] = negative_none b e in
        shown_whole (groups_few b k)
        (λ g _. record {
          mine = λ h. clash (never_mined b g) (ap (all (λ (row : List ℕ). eqb (get_or row g 0) 0)) none) h;
          free = λ h. clash (always_mined b g) (ap (all (λ (row : List ℕ). eqb (get_or row g 0) (get_or (sizes b) g 0))) none) h;
        })

-- ---- while the groups are gone through

-- the arrays that combine answers, before any group is settled
module _ (b : Block) (k : Combinable b) where
  pub start_columns : Columns (grouped b)
  start_columns =
      record {
        few = omega (arith, groups_read b, groups_few b k);
        at = λ g h.
            let here : g < length (firsts b) = omega (arith, groups_read b) in
            let first = get_or (firsts b) g 0 in
            record {
              small = group_small b k g here;
              below = rw (columns_read b k g here)
                  (has_all (λ e. ltb e 1024) (column b first) (λ e m. lt-ltb e 1024 (omega (arith, column_below b first e m, k.few_equations))));
              once = rw (columns_read b k g here) (column_once b first);
            };
      }

  pub start_state : State 1024 (grouped b).needs (grouped b).rooms
  start_state =
      let s = grouped_state b k in
      record {
        whole_needs = s.whole_needs;
        whole_rooms = s.whole_rooms;
        needs_small = s.needs_small;
        rooms_small = s.rooms_small;
        past = λ e h. s.past e (omega (arith, equations_read b, k.few_equations));
      }

-- and with some settled
pub over_grouped : (b : Block) (r : Grouped) → r ≡ grouped b → Combinable b → r.negative ≡ false → (s : Settled) → SettledFrom r r.needs r.rooms s
    → OverGroups b r (in_order s.begun) s.values s.unmet
over_grouped b r e k positive s settles =
    let equations_is = ap (λ (x : Grouped). x.equations) e in
    let needs_is = ap (λ (x : Grouped). x.needs) e in
    let rooms_is = ap (λ (x : Grouped). x.rooms) e in
    record {
      combinable = k;
      positive = sym (ap (λ (x : Grouped). x.negative) e) ∙ positive;
      is = e;
      state = record {
        whole_needs = s.state.whole_needs;
        whole_rooms = s.state.whole_rooms;
        needs_small = s.state.needs_small;
        rooms_small = s.state.rooms_small;
        past = λ i h. omega (arith, rw needs_is at (settles.less i), (grouped_state b k).past i (rw equations_is at h));
      };
      settles = rw (needs_is, rooms_is) at settles;
    }

-- of the block whose groups these are only what some solution shows is marked, if it was at the start; no mark is taken away; and the groups before g are told,
-- if the settled ones were
pub record Telling (combined : Grouped) (settled values : List ℕ) (unmet : Unmet) (start marks : Shown) (g : ℕ) : Type 0 where
  pub only : (b : Block) → OverGroups b combined settled values unmet → ShownOnly b start → ShownOnly b marks
  pub stays : Stays start marks
  pub told : (b : Block) → OverGroups b combined settled values unmet → ShownOnly b start → SettledTold b settled start → (j : ℕ) → j < g → Told b marks j

pub telling_start : (combined : Grouped) (settled values : List ℕ) (unmet : Unmet) (marks : Shown) → Telling combined settled values unmet marks marks 0
telling_start combined settled values unmet marks =
    record { only = λ b over s. s; stays = stays_same marks; told = λ b over s t j h. absurd (not-suc-le-zero h) }

module _ {combined : Grouped} {settled values : List ℕ} {unmet : Unmet} {start marks : Shown} {g : ℕ} (t : Telling combined settled values unmet start marks g) where
  -- the next group is told, with more marks or as they are
  telling_next : (after : Shown) → Stays marks after → ((b : Block) → OverGroups b combined settled values unmet → ShownOnly b start → ShownOnly b after)
      → ((b : Block) → OverGroups b combined settled values unmet → ShownOnly b start → SettledTold b settled start → Told b after g)
      → Telling combined settled values unmet start after (g + 1)
  telling_next after stays only here =
      record {
        only = only;
        stays = stays_twice t.stays stays;
        told = λ b over s k j below. next b over s k j below (decided (eqb j g));
      }
    where
      next : (b : Block) → OverGroups b combined settled values unmet → ShownOnly b start → SettledTold b settled start → (j : ℕ) → j < g + 1 → Decided (eqb j g) → Told b after j
      next b over s k j below (inl e) = rw (eqb-true j g e) (here b over s k)
      next b over s k j below (inr e) = told_stay b j stays (t.told b over s k j (omega (arith, eqb-false j g e)))

  -- it is settled
  pub telling_settled : has settled g ≡ true → Telling combined settled values unmet start marks (g + 1)
  telling_settled h = telling_next marks (stays_same marks) t.only (λ b over s k. told_stay b g t.stays (k.told g h))

  -- it has both marks
  pub telling_known : 2 ≤ get_or marks.mined g 0 + get_or marks.unfilled g 0 → Telling combined settled values unmet start marks (g + 1)
  telling_known h = telling_next marks (stays_same marks) t.only (λ b over s k. told_both b (t.only b over s) g h)

  -- it is asked for
  pub telling_asked : (after : Shown) → Stays marks after → ((b : Block) → OverGroups b combined settled values unmet → ShownOnly b marks → ShownOnly b after × Told b after g)
      → Telling combined settled values unmet start after (g + 1)
  telling_asked after stays asked = telling_next after stays (λ b over s. (asked b over (t.only b over s)).0) (λ b over s k. (asked b over (t.only b over s)).1)

-- ---- what the groups of a block let the functions be asked

module _ {b : Block} {combined : Grouped} {settled values : List ℕ} {unmet : Unmet} (over : OverGroups b combined settled values unmet) where
  pub over_groups : combined.groups ≡ length (firsts b)
  over_groups = ap (λ (x : Grouped). x.groups) over.is ∙ groups_read b

  pub over_few : combined.groups ≤ 1024
  over_few = omega (arith, over_groups, groups_few b over.combinable)

  pub over_some : (g : ℕ) → g < combined.groups → 0 < get_or combined.sizes g 0
  over_some g h = rw over.is (group_some b over.combinable g (rw over.is at h))

  pub over_ordered : (order : List ℕ) → length order ≡ 1024 → all (λ g. ltb g combined.groups) (take combined.groups order) ≡ true → nodup (take combined.groups order) ≡ true
      → OrderOf combined order
  over_ordered order whole below once =
      let each : EachOnce (take combined.groups order) combined.groups = record { long = length-take-le combined.groups order (omega (arith, over_few)); below = below; once = once } in
      rw over.is (grouped_ordered b over.combinable order whole (rw over.is at each))
