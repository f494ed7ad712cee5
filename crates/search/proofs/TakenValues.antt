-- A value that the equations of the next group can take, as the search knows it: the group's column as the code lists it, and the state before it is lowered.
-- Lowering cuts nothing off and leaves a state; and what is raised again, where nothing else changed, is as it was. Rests on the laws of lowering. Assumes nothing.
use mathlib.Core.Path.{◌≡◌, refl, ap, ◌∙◌}
use mathlib.Core.Bool.{true}
use mathlib.Core.List.{List}
use Prim.Native.Nat.{ℕ, ◌≤◌}
use lib.ListN.{length, get_or, take}
use Rattle.lists.specs.Lists.{nodup}
use Rattle.grid.specs.Window.{listed}
use Rattle.grid.specs.declared.window.UpToEight.{UpToEight}
use Rattle.blocks.specs.BlockSets.{slot_cells}
use Rattle.blocks.specs.Places.{OnBoard}
use Rattle.search.specs.Trees.{lowered, possible}
use Rattle.search.specs.declared.Unmet.{Unmet}
use Rattle.search.specs.Searching.{raised, State}
use Rattle.search.proofs.Lowering.{Enough, raised_lowered, possible_needs, possible_rooms, state_lowered}
use Rattle.search.proofs.OrderedGroups.{Group, column_is, column_below, column_on_board, column_once}

-- the places of a list
abbrev pub places : UpToEight → List ℕ
places list = take list.len list.cells

-- group g of the order can get v mines
pub record Taken (order : List ℕ) (groups equations : ℕ) (sizes columns : List ℕ) (at g : ℕ) (needs rooms : List ℕ) (v to : ℕ) (list : UpToEight) : Type 0 where
  pub here : Group order groups equations sizes columns at g
  pub state : State equations needs rooms
  pub within : v ≤ to
  pub column : list ≡ listed (slot_cells columns g)
  pub can : possible (get_or sizes g 0) (places list) needs rooms v ≡ true

module _ {order : List ℕ} {groups equations : ℕ} {sizes columns : List ℕ} {at g : ℕ} {needs rooms : List ℕ} {v to : ℕ} {list : UpToEight}
    (k : Taken order groups equations sizes columns at g needs rooms v to list) where
  pub taken_on_board : OnBoard list
  taken_on_board = column_on_board k.here list k.column

  pub taken_once : nodup (places list) ≡ true
  taken_once = column_once k.here list k.column

  pub taken_column : places list ≡ slot_cells columns g
  taken_column = column_is k.here list k.column

  pub taken_needs : Enough v (places list) needs
  taken_needs = possible_needs (get_or sizes g 0) (places list) needs rooms v k.can

  pub taken_rooms : Enough (get_or sizes g 0) (places list) rooms
  taken_rooms = possible_rooms (get_or sizes g 0) (places list) needs rooms v k.can

  -- the state once it is lowered
  pub taken_state : {needs_below rooms_below : List ℕ} → needs_below ≡ lowered v (places list) needs → rooms_below ≡ lowered (get_or sizes g 0) (places list) rooms → State equations needs_below rooms_below
  taken_state n r = rw (n, r) (state_lowered v (get_or sizes g 0) (places list) k.state)

  back_needs : {low same up : List ℕ} → low ≡ lowered v (places list) needs → same ≡ low → up ≡ raised v (places list) same → up ≡ needs
  back_needs l s b =
      b ∙ ap (raised v (places list)) (s ∙ l) ∙ raised_lowered v (places list) needs taken_once taken_needs (column_below k.here list k.column (length needs) k.state.whole_needs)

  back_rooms : {low same up : List ℕ} → low ≡ lowered (get_or sizes g 0) (places list) rooms → same ≡ low → up ≡ raised (get_or sizes g 0) (places list) same → up ≡ rooms
  back_rooms l s b =
      b ∙ ap (raised (get_or sizes g 0) (places list)) (s ∙ l)
      ∙ raised_lowered (get_or sizes g 0) (places list) rooms taken_once taken_rooms (column_below k.here list k.column (length rooms) k.state.whole_rooms)

-- what is unmet is what the equations need and how many cells they have
same_unmet : {a b : Unmet} → a.needs ≡ b.needs → a.rooms ≡ b.rooms → a ≡ b
same_unmet n r = rw (n, r) refl

-- lowered and raised again, where nothing else changed, it is as it was
pub back : {order : List ℕ} {groups equations : ℕ} {sizes columns : List ℕ} {at g v to : ℕ} {list : UpToEight} {unmet low same up : Unmet}
    → Taken order groups equations sizes columns at g unmet.needs unmet.rooms v to list
    → low.needs ≡ lowered v (places list) unmet.needs → low.rooms ≡ lowered (get_or sizes g 0) (places list) unmet.rooms → same ≡ low
    → up.needs ≡ raised v (places list) same.needs → up.rooms ≡ raised (get_or sizes g 0) (places list) same.rooms → up ≡ unmet
back k n r s m q = same_unmet (back_needs k n (ap (λ (u : Unmet). u.needs) s) m) (back_rooms k r (ap (λ (u : Unmet). u.rooms) s) q)

-- a state of which nothing changed
pub same_state : {equations : ℕ} {before after : Unmet} → State equations before.needs before.rooms → after ≡ before → State equations after.needs after.rooms
same_state s e = rw e s
