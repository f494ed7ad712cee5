-- The group at a place of the order, as the search reads it: it is one of the groups, the first of those still unset there, and not among those after it; its
-- size is small, and its column, as the code lists it, has places of the state's arrays, none twice. Rests on the laws of counted elements. Assumes nothing.
use mathlib.Core.Path.{◌≡◌, refl}
use mathlib.Core.Bool.{true, false}
use mathlib.Core.List.{List, [], ◌∷◌}
use Prim.Native.Nat.{ℕ, ◌+◌, ◌≤◌, ◌<◌}
use native.Mathlib.Omega.{arith}
use lib.Dec.{ltb}
use lib.ListN.{length, get_or, take}
use borrow.Author.Tests.{ltb-true, lt-ltb}
use Rattle.lists.specs.Lists.{all, has, nodup}
use Rattle.lists.proofs.Members.{nodup_head}
use Rattle.lists.proofs.All.{all_implied}
use Rattle.lists.proofs.Counted.{rest_more, rest_below, counted_none}
use Rattle.grid.specs.Window.{listed}
use Rattle.grid.specs.declared.window.UpToEight.{UpToEight}
use Rattle.blocks.specs.BlockSets.{slot_cells}
use Rattle.blocks.specs.Places.{OnBoard}
use Rattle.blocks.proofs.Between.{slots_eight, listed_cells}
use Rattle.search.specs.Searching.{Ordered, unset}
use Rattle.search.proofs.ListLaws.{nodup_drop}

-- g is the group at place `at`
pub record Group (order : List ℕ) (groups equations : ℕ) (sizes columns : List ℕ) (at g : ℕ) : Type 0 where
  pub ordered : Ordered order groups equations sizes columns
  pub inside : at < groups
  pub is : g ≡ get_or order at 0

pub group_at : {order : List ℕ} {groups equations : ℕ} {sizes columns : List ℕ} (at g : ℕ)
    → Ordered order groups equations sizes columns → at < groups → g ≡ get_or order at 0 → Group order groups equations sizes columns at g
group_at at g o h e = record { ordered = o; inside = h; is = e }

-- past the groups none is unset
pub unset_none : (order : List ℕ) (groups at : ℕ) → at ≡ groups → unset order groups at ≡ []
unset_none order groups at e = counted_none order groups at (omega arith)

module _ {order : List ℕ} {groups equations : ℕ} {sizes columns : List ℕ} {at g : ℕ} (h : Group order groups equations sizes columns at g) where
  whole : groups ≤ length order
  whole = omega (arith, h.ordered.few, h.ordered.whole_order)

  pub group_below : g < groups
  group_below = rest_below order groups at g whole h.inside h.is groups h.ordered.below

  pub group_place : g < 1024
  group_place = omega (arith, group_below, h.ordered.few)

  pub group_small : get_or sizes g 0 ≤ 8
  group_small = h.ordered.small g group_below

  pub unset_more : unset order groups at ≡ g ∷ unset order groups (at + 1)
  unset_more = rest_more order groups at g whole h.inside h.is

  pub group_once : has (unset order groups (at + 1)) g ≡ false
  group_once = nodup_head g (unset order groups (at + 1)) (rw unset_more at (nodup_drop at (take groups order) h.ordered.once))

  -- its column, as the code lists it
  module _ (list : UpToEight) (l : list ≡ listed (slot_cells columns g)) where
    pub column_is : take list.len list.cells ≡ slot_cells columns g
    column_is = listed_cells list columns g l

    pub column_below : (n : ℕ) → n ≡ 1024 → all (λ e. ltb e n) (take list.len list.cells) ≡ true
    column_below n w =
        rw column_is
        (all_implied (λ e. ltb e equations) (λ e. ltb e n) (slot_cells columns g) (λ e t. lt-ltb e n (omega (arith, w, ltb-true e equations t, h.ordered.few_equations)))
        (h.ordered.column_below g group_below))

    pub column_on_board : OnBoard list
    column_on_board = record { few = rw l (slots_eight columns g); below = column_below 1024 refl }

    pub column_once : nodup (take list.len list.cells) ≡ true
    column_once = rw column_is (h.ordered.column_once g group_below)
