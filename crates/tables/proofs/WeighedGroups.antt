-- The order by weight, as the arrays of a combinable block give it: a group's first equation is the first number of its column, so the groups weighed by the
-- columns are the groups weighed by the block; and that order, behind which the array is filled up, has each group once, so the search takes it. Rests on
-- ReadingGroups and ListedSolutions of the crate search. Assumes nothing.
use mathlib.Core.Path.{◌≡◌, refl, sym, ap, ◌∙◌}
use mathlib.Core.Logic.{inl, inr}
use mathlib.Core.List.{List, [], ◌∷◌, reverse}
use Prim.Native.Nat.{ℕ, ◌+◌, ◌*◌, ◌≤◌, ◌<◌}
use native.Mathlib.Omega.{arith}
use lib.Dec.{eqb}
use lib.ListN.{length, get_or, take, drop}
use lib.Seq.{get_or-take, get_or-drop}
use Rattle.lists.specs.Lists.{range, keep, joined, pad}
use Rattle.lists.proofs.Tests.{Decided, decided}
use Rattle.lists.proofs.Members.{range_in, get_d_has}
use Rattle.lists.proofs.Kept.{keep_ext}
use Rattle.lists.proofs.Joined.{map_ext}
use Rattle.lists.proofs.Arrays.{length_pad}
use Rattle.search.proofs.TreeSolutions.{weighed_front}
use Rattle.blocks.specs.Blocks.{Block}
use Rattle.blocks.specs.BlockSets.{before, slot_cells}
use Rattle.groups.specs.Groups.{column, firsts}
use Rattle.groups.specs.Grouping.{Combinable, grouped}
use Rattle.groups.proofs.GroupLaws.{first_of_block, combinable_column, combinable_proper}
use Rattle.search.specs.Solutions.{by_weight, weighed}
use Rattle.search.specs.Searching.{Ordered}
use Rattle.search.proofs.Orders.{EachOnce}
use Rattle.search.proofs.ReadingGroups.{groups_read, equations_read, groups_few, columns_read, grouped_ordered}
use Rattle.search.proofs.ListedSolutions.{weighed_each_once}

-- ---- the first number in eight slots

before_first : (x : ℕ) (l : List ℕ) → 1 ≤ length (before x l) → get_or l 0 0 ≡ get_or (before x l) 0 0
before_first x [] h = refl
before_first x (y ∷ l) h = go (decided (eqb y x))
  where
    go : Decided (eqb y x) → y ≡ get_or (before x (y ∷ l)) 0 0
    go (inl e) = absurd (omega (arith, rw e at h))
    go (inr e) = rw e

slot_first : (slots : List ℕ) (g : ℕ) → 1 ≤ length (slot_cells slots g) → get_or slots (g * 8) 0 ≡ get_or (slot_cells slots g) 0 0
unfolding slot_cells
slot_first slots g h =
    let here : g * 8 + 0 ≡ g * 8 = omega arith in
    sym (get_or-take 8 (drop (g * 8) slots) 0 0 (omega arith) ∙ get_or-drop (g * 8) slots 0 0 ∙ ap (λ (i : ℕ). get_or slots i 0) here)
    ∙ before_first 65535 (take 8 (drop (g * 8) slots)) h

-- ---- the order

module _ (b : Block) (k : Combinable b) where
  -- a group's first equation
  first_read : (g : ℕ) → g < length (firsts b) → get_or (grouped b).columns (g * 8) 0 ≡ get_or (column b (get_or (firsts b) g 0)) 0 0
  first_read g h =
      let is = columns_read b k g h in
      let some = (combinable_column b k (get_or (firsts b) g 0) (first_of_block b (get_or (firsts b) g 0) (get_d_has (firsts b) g 0 h))).0 in
      slot_first (grouped b).columns g (rw is some) ∙ ap (λ (l : List ℕ). get_or l 0 0) is

  -- weighed by the columns and by the block
  pub weighed_by_columns : by_weight (λ (g : ℕ). get_or (grouped b).columns (g * 8) 0) (grouped b).groups (grouped b).equations ≡ weighed b
  unfolding weighed
  weighed_by_columns =
      rw (groups_read b, equations_read b)
      (ap joined
      (map_ext (λ (e : ℕ). keep (λ (g : ℕ). eqb (get_or (grouped b).columns (g * 8) 0) e) (range 0 (length (firsts b))))
      (λ (e : ℕ). keep (λ (g : ℕ). eqb (get_or (column b (get_or (firsts b) g 0)) 0 0) e) (range 0 (length (firsts b))))
      (reverse (range 0 (length b.equations)))
      (λ e _. keep_ext (λ (g : ℕ). eqb (get_or (grouped b).columns (g * 8) 0) e) (λ (g : ℕ). eqb (get_or (column b (get_or (firsts b) g 0)) 0 0) e)
      (range 0 (length (firsts b)))
      (λ g m. ap (λ (n : ℕ). eqb n e) (first_read g (omega (arith, range_in 0 (length (firsts b)) g m)))))))

  -- it has as many groups as the block
  pub weighed_few : length (weighed b) ≤ 1024
  weighed_few = omega (arith, (weighed_each_once b (combinable_proper b k)).long, groups_few b k)

  -- the array's front has each group once
  pub weighed_front_once : EachOnce (take (grouped b).groups (pad 1024 0 (weighed b))) (grouped b).groups
  weighed_front_once = rw (weighed_front b k, groups_read b) (weighed_each_once b (combinable_proper b k))

  -- so the search takes it
  pub weighed_ordered : Ordered (pad 1024 0 (weighed b)) (grouped b).groups (grouped b).equations (grouped b).sizes (grouped b).columns
  weighed_ordered = grouped_ordered b k (pad 1024 0 (weighed b)) (length_pad 1024 0 (weighed b) weighed_few) weighed_front_once
