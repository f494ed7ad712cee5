-- A list of at most eight cells as the code holds it, `listed l`, read from its first slot on: before the count the slot has the next cell of the list,
-- and from the count on nothing of the list is left. The laws `listed-..` are of any list, and `near-..` of a cell's neighbours, as `neighbours_of` gives
-- them. Rests on the laws of `pad`. Assumes nothing.
use Prim.Native.Nat.{ℕ, ◌+◌, ◌*◌, ◌≤◌, ◌<◌}
use mathlib.Core.Path.{◌≡◌, ◌∙◌}
use mathlib.Core.Bool.{Bool, true}
use mathlib.Core.List.{List, [], ◌∷◌}
use lib.ListN.{length, get_or, drop, take}
use Rattle.lists.specs.Lists.{has}
use Rattle.lists.proofs.Members.{get_d_has}
use Rattle.lists.proofs.Arrays.{pad_read, pad_take, drop_more, drop_none}
use Rattle.grid.specs.declared.window.UpToEight.{UpToEight}
use Rattle.grid.specs.Window.{neighbours, listed, On}
use Rattle.grid.proofs.Neighbours.{neighbours_on, neighbours_few}

module _ (near : UpToEight) (l : List ℕ) (is : near ≡ listed l) where
  -- x is what the slot t has, before the count
  module _ (t x : ℕ) (before : t < near.len) (at : x ≡ get_or near.cells t 0) where
    inside : t < length l
    inside = rw is at before

    same : x ≡ get_or l t 0
    same = at ∙ rw is (pad_read 8 0 l t)

    pub listed_has : has l x ≡ true
    listed_has = rw same (get_d_has l t 0 inside)

    pub listed_more : drop t l ≡ x ∷ drop (t + 1) l
    listed_more = rw same (drop_more l t 0 inside)

  -- as a slice it is the list
  pub listed_items : take near.len near.cells ≡ l
  listed_items = rw is (pad_take 8 0 l)

  pub listed_none : (t : ℕ) → near.len ≤ t → drop t l ≡ []
  listed_none t h = drop_none l t (rw is at h)

-- ---- the neighbours of a cell

module _ (edgeless : Bool) (rows columns row column : ℕ) (near : UpToEight) (on : On rows columns row column) (is : near ≡ listed (neighbours edgeless rows columns (row * columns + column))) where
  abbrev cells : List ℕ
  cells = neighbours edgeless rows columns (row * columns + column)

  pub near_few : near.len ≤ 8
  near_few = rw is (neighbours_few edgeless rows columns (row * columns + column))

  module _ (t x : ℕ) (before : t < near.len) (at : x ≡ get_or near.cells t 0) where
    pub near_on : x < rows * columns
    near_on = neighbours_on edgeless rows columns (row * columns + column) x (listed_has near cells is t x before at)

    pub near_more : drop t cells ≡ x ∷ drop (t + 1) cells
    near_more = listed_more near cells is t x before at

  pub near_items : take near.len near.cells ≡ cells
  near_items = listed_items near cells is

  -- an element of the slice is on the board
  pub near_item_on : (items : List ℕ) (t x : ℕ) → items ≡ take near.len near.cells → t < length items → x ≡ get_or items t 0 → x < rows * columns
  near_item_on items t x e before at =
      let same : items ≡ cells = e ∙ near_items in
      neighbours_on edgeless rows columns (row * columns + column) x (rw (at, same) (get_d_has cells t 0 (rw same at before)))

  pub near_none : (t : ℕ) → near.len ≤ t → drop t cells ≡ []
  near_none = listed_none near cells is
