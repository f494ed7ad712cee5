-- What the slots tell once a position is read: they hold cells of the board; two sources' slots meet exactly where the sources share a closed cell; and then
-- the sources are near each other, for both touch that cell. Rests on the laws of neighbours. Assumes nothing.
use mathlib.Core.Path.{◌≡◌, refl, ◌∙◌}
use mathlib.Core.Logic.{◌⊎◌, inl, inr}
use mathlib.Core.Bool.{Bool, true, false}
use mathlib.Core.List.{List, []}
use Prim.Native.Nat.{ℕ, suc, ◌+◌, ◌*◌, ◌/◌, ◌%◌, ◌≤◌, ◌<◌}
use native.Mathlib.Decide.{dec_lt}
use native.Mathlib.Nat.{div-add-mod', mul-le-mul_right, suc-mul}
use native.Mathlib.Omega.{arith}
use lib.Dec.{ltb}
use lib.ListN.{length}
use borrow.Author.Tests.{ltb-true, lt-ltb, le-leb}
use Rattle.lists.specs.Lists.{range, all, has}
use Rattle.lists.proofs.Tests.{Decided, decided, clash, and_left}
use Rattle.lists.proofs.Members.{kept_has, kept_passes, range_in}
use Rattle.lists.proofs.Unions.{meets_at}
use Rattle.lists.proofs.All.{has_all}
use Rattle.grid.specs.Window.{neighbours, Board}
use Rattle.grid.proofs.Places.{few_cells}
use Rattle.grid.proofs.Neighbours.{Touch, neighbours_touch}
use Rattle.fitting.specs.Equations.{is_closed}
use Rattle.blocks.specs.BlockSets.{slot_cells}
use Rattle.blocks.proofs.SlotLaws.{slots_none}
use Rattle.sources.specs.Sources.{closed_beside, is_source, sources, shares}
use Rattle.sources.specs.Reading.{slots_meet, near_enough, Read, Slots}
use Rattle.sources.proofs.SourceLaws.{source_below, closed_on}

-- ---- two cells that touch a third

-- the number of a cell whose row and column are at most two more
two_more : (columns c d : ℕ) → c / columns ≤ suc (suc (d / columns)) → c % columns ≤ d % columns + 2 → c ≤ d + (2 * columns + 2)
two_more columns c d row column =
    omega (
      arith,
      div-add-mod' c columns,
      div-add-mod' d columns,
      mul-le-mul_right columns row,
      suc-mul (suc (d / columns)) columns,
      suc-mul (d / columns) columns,
    )

touch_near : (edgeless : Bool) (rows columns c d x : ℕ) → Touch edgeless rows columns c x → Touch edgeless rows columns d x → near_enough edgeless columns c d ≡ true
touch_near true rows columns c d x a b = refl
touch_near false rows columns c d x a b =
    let r = a.near_rows in
    let s = b.near_rows in
    let i = a.near_columns in
    let j = b.near_columns in
    rw (
      le-leb d (c + (2 * columns + 2)) (two_more columns d c (omega arith) (omega arith)),
      le-leb c (d + (2 * columns + 2)) (two_more columns c d (omega arith) (omega arith)),
    )

-- ---- the slots of a position that is read

module _ (edgeless : Bool) {rows columns : ℕ} {p slots list : List ℕ} {len : ℕ} (board : Board p rows columns)
    (read : Read (neighbours edgeless rows columns) p (rows * columns) slots list len) where
  abbrev near : ℕ → List ℕ
  near = neighbours edgeless rows columns

  -- a source of the board
  abbrev is_read : ℕ → Bool
  is_read = source_below near p (rows * columns)

  read_below : (c : ℕ) → is_read c ≡ true → c < rows * columns
  read_below c h = ltb-true c (rows * columns) (and_left (ltb c (rows * columns)) (is_source near p c) h)

  -- a source's slots hold its closed neighbours
  pub read_held : (c : ℕ) → is_read c ≡ true → slot_cells slots c ≡ closed_beside near p c
  read_held c h = read.beside c (omega (arith, read_below c h, few_cells board.sized)) ∙ rw h

  -- the slots at any other place hold nothing
  held_or_none : (c : ℕ) → (slot_cells slots c ≡ []) ⊎ (is_read c ≡ true)
  held_or_none c = go (dec_lt c 1024) (decided (is_read c))
    where
      go : Dec (c < 1024) → Decided (is_read c) → (slot_cells slots c ≡ []) ⊎ (is_read c ≡ true)
      go w (inl e) = inr e
      go (yes h) (inr e) = inl (read.beside c h ∙ rw e)
      go (no h) (inr e) = inl (slots_none slots c read.wide (omega arith))

  on_board : (c : ℕ) → all (λ d. ltb d 1024) (slot_cells slots c) ≡ true
  on_board c = go (held_or_none c)
    where
      go : (slot_cells slots c ≡ []) ⊎ (is_read c ≡ true) → all (λ d. ltb d 1024) (slot_cells slots c) ≡ true
      go (inl e) = rw e
      go (inr h) = rw (read_held c h) (closed_on edgeless board c)

  -- a cell in the slots touches the cell whose slots they are
  touches : (c x : ℕ) → has (slot_cells slots c) x ≡ true → Touch edgeless rows columns c x
  touches c x e = go (held_or_none c)
    where
      go : (slot_cells slots c ≡ []) ⊎ (is_read c ≡ true) → Touch edgeless rows columns c x
      go (inl none) = clash false (rw none at e) refl
      go (inr h) =
          neighbours_touch edgeless rows columns c x (kept_has (is_closed p) (near c) x (rw (read_held c h) at e))

  pub read_slots : Slots edgeless columns slots
  read_slots =
      record {
        few_columns = board.sized.few_columns;
        held = record { wide = read.wide; on_board = on_board };
        reach = λ c d h.
            let (x, a, b) = meets_at (slot_cells slots c) (slot_cells slots d) h in
            touch_near edgeless rows columns c d x (touches c x a) (touches d x b);
      }

  pub read_meets : (c d : ℕ) → is_read c ≡ true → is_read d ≡ true → slots_meet slots c d ≡ shares near p c d
  read_meets c d a b = rw (read_held c a, read_held d b)

  pub all_read : all is_read (sources near p) ≡ true
  unfolding sources
  all_read = has_all is_read (sources near p) (λ c h. rw (below c h, kept_passes (is_source near p) (range 0 (length p)) c h))
    where
      below : (c : ℕ) → has (sources near p) c ≡ true → ltb c (rows * columns) ≡ true
      below c h = lt-ltb c (rows * columns) (omega (arith, (range_in 0 (length p) c (kept_has (is_source near p) (range 0 (length p)) c h)).1, board.whole))
