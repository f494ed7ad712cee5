-- The turns of the loops behind inside_cell: what the next cell adds to the count, and whether it is open. The code reads a cell of the position as 0
-- where there is none, and `shows` as 255; on the board they agree. Assumes nothing.
use mathlib.Core.Path.{◌≡◌, sym, ap, ◌∙◌}
use mathlib.Core.Logic.{◌≢◌}
use mathlib.Core.Bool.{Bool, true, false, not, ◌&&◌}
use mathlib.Core.List.{List}
use Prim.Native.Nat.{ℕ, ◌+◌, ◌-◌, ◌*◌, ◌/◌, ◌%◌, ◌≤◌, ◌<◌}
use native.Mathlib.Nat.{div-add-mod'}
use native.Mathlib.Omega.{arith}
use lib.Dec.{leb}
use lib.ListN.{length, get_or}
use borrow.Author.Tests.{le-leb, eq-eqb, ne_eqb}
use Rattle.lists.specs.Lists.{range, bit, count, any}
use Rattle.lists.proofs.Elements.{get_d_any}
use Rattle.lists.proofs.Members.{range_more}
use Rattle.grid.specs.Cells.{shows}
use Rattle.fitting.specs.Equations.{is_closed}
use Rattle.frontier.specs.Frontier.{inside_cells}

-- the cell is open
abbrev pub is_open : List ℕ → ℕ → Bool
is_open p c = leb (shows p c) 8

-- none of the cell's neighbours is
abbrev pub none_open_beside : (ℕ → List ℕ) → List ℕ → ℕ → Bool
none_open_beside near p c = not (any (is_open p) (near c))

-- how many of the cells from c on are closed and touch no open one
abbrev pub inside_from : (ℕ → List ℕ) → List ℕ → ℕ → ℕ
inside_from near p c = count (λ d. is_closed p d && none_open_beside near p d) (range c (length p - c))

-- ---- one cell

module _ (p : List ℕ) (c : ℕ) (on : c < length p) where
  -- what the code reads is what the position shows
  read_shows : get_or p c 0 ≡ shows p c
  read_shows = get_d_any p c 0 255 on

  pub read_open : get_or p c 0 ≤ 8 → is_open p c ≡ true
  read_open h = rw (← read_shows) (le-leb (get_or p c 0) 8 h)

  pub read_closed : get_or p c 0 ≡ 10 → is_closed p c ≡ true
  read_closed h = rw (← read_shows) (eq-eqb (get_or p c 0) 10 h)

  pub read_not_closed : get_or p c 0 ≢ 10 → is_closed p c ≡ false
  read_not_closed h = rw (← read_shows) (ne_eqb (get_or p c 0) 10 h)

-- ---- the count from a cell on

module _ (near : ℕ → List ℕ) (p : List ℕ) where
  pub inside_all : inside_from near p 0 ≡ inside_cells near p
  unfolding inside_cells
  inside_all = let all : length p - 0 ≡ length p = omega arith in rw all

  module _ (c : ℕ) (on : c < length p) where
    inside_next : (t : Bool) → (is_closed p c && none_open_beside near p c) ≡ t → inside_from near p c ≡ bit t + inside_from near p (c + 1)
    inside_next t e = rw (range_more c (length p) on, e)

    pub inside_not_closed : get_or p c 0 ≢ 10 → inside_from near p c ≡ inside_from near p (c + 1)
    inside_not_closed h = omega (arith, inside_next false (rw (read_not_closed p c on h)))

    -- the code asks around the cell's row and column
    module _ (columns : ℕ) (t : Bool) (asked : t ≡ none_open_beside near p (c / columns * columns + c % columns)) (closed : get_or p c 0 ≡ 10) where
      inside_asked : inside_from near p c ≡ bit t + inside_from near p (c + 1)
      inside_asked = inside_next t (rw (read_closed p c on closed) (sym (asked ∙ ap (none_open_beside near p) (div-add-mod' c columns))))

      pub inside_counted : t ≡ true → inside_from near p c ≡ 1 + inside_from near p (c + 1)
      inside_counted e = rw e at inside_asked

      pub inside_passed : t ≡ false → inside_from near p c ≡ inside_from near p (c + 1)
      inside_passed e = omega (arith, rw e at inside_asked)
