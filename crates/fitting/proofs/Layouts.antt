-- Which layouts fit: a position in which one cell is written anew, the blank position, and a position with one mine more. A claim about every cell
-- passes a store by `set_all`, so that no proof compares places. `near`, the neighbours of a cell, is any function here. Assumes nothing.
use mathlib.Core.Path.{◌≡◌, sym, refl, ◌∙◌}
use mathlib.Core.Logic.{◌⊎◌, inl, inr, ◌≢◌}
use mathlib.Core.Bool.{Bool, true, false}
use mathlib.Core.List.{List}
use Prim.Native.Nat.{ℕ, ◌≤◌, ◌<◌}
use native.Mathlib.Omega.{arith}
use lib.ListN.{length, set, replicate, length-set, length-replicate, get_or-replicate}
use lib.Seq.{get_or-set_other, set-set, set-get_or}
use Rattle.lists.specs.Lists.{count, has}
use Rattle.lists.proofs.Tests.{Decided, decided, clash}
use Rattle.lists.proofs.Elements.{set_all, replicate_all, not_default}
use Rattle.lists.proofs.Counts.{count_ext}
use Rattle.grid.specs.Cells.{shows}
use Rattle.fitting.specs.Layouts.{mine_at, Fits}

-- a cell that shows something else than 255 is on the board
pub on_board : (p : List ℕ) (c : ℕ) → shows p c ≢ 255 → c < length p
on_board p c h = not_default p c 255 h

-- and so is a cell with a mine
pub mine_on_board : (m : List Bool) (c : ℕ) → mine_at m c ≡ true → c < length m
mine_on_board m c h = not_default m c false (λ e. clash (mine_at m c) h e)

module _ (near : ℕ → List ℕ) where
  -- a layout that fits has no mine on an open cell
  pub open_free : (p : List ℕ) (m : List Bool) → Fits near p m → (c : ℕ) → shows p c ≤ 8 → mine_at m c ≡ false
  open_free p m f c o = go (decided (mine_at m c))
    where
      shut : (shows p c ≡ 10) ⊎ (shows p c ≡ 11) → ⊥
      shut (inl e) = omega arith
      shut (inr e) = omega arith

      go : Decided (mine_at m c) → mine_at m c ≡ false
      go (inl e) = absurd (shut (f.only c e))
      go (inr e) = e

  -- a layout that fits goes on to fit when a cell is written anew with what the layout has there
  pub fits_set : (p : List ℕ) (m : List Bool) → Fits near p m → (c v : ℕ)
      → (mine_at m c ≡ true → (v ≡ 10) ⊎ (v ≡ 11)) → (v ≡ 11 → mine_at m c ≡ true) → (v ≤ 8 → count (mine_at m) (near c) ≡ v)
      → Fits near (set p c v) m
  fits_set p m f c v only known number = record {
    sized = f.sized ∙ sym (length-set p c v);
    only = set_all (λ d w. mine_at m d ≡ true → (w ≡ 10) ⊎ (w ≡ 11)) p 255 c v only f.only;
    known = set_all (λ d w. w ≡ 11 → mine_at m d ≡ true) p 255 c v known f.known;
    number = set_all (λ d w. w ≤ 8 → count (mine_at m) (near d) ≡ w) p 255 c v number f.number;
  }

  -- a layout that fits after a cell was written fits before, where it has at the cell what was shown there
  pub fits_unset : (p : List ℕ) (m : List Bool) (c v : ℕ) → Fits near (set p c v) m
      → (mine_at m c ≡ true → (shows p c ≡ 10) ⊎ (shows p c ≡ 11)) → (shows p c ≡ 11 → mine_at m c ≡ true)
      → (shows p c ≤ 8 → count (mine_at m) (near c) ≡ shows p c)
      → Fits near p m
  fits_unset p m c v f only known number =
      rw (set-set p c v (shows p c), set-get_or p c 255) at (fits_set (set p c v) m f c (shows p c) only known number)

  -- a layout that fits goes on to fit when a cell where it has no mine, and v of them around, is opened with the number v
  pub fits_opened : (p : List ℕ) (m : List Bool) → Fits near p m → (c v : ℕ) → v ≤ 8 → mine_at m c ≡ false → count (mine_at m) (near c) ≡ v
      → Fits near (set p c v) m
  fits_opened p m f c v o x n = fits_set p m f c v (λ e. clash (mine_at m c) e x) (λ e. absurd (omega arith)) (λ _. n)

  -- and when a cell where it has a mine is marked
  pub fits_marked : (p : List ℕ) (m : List Bool) → Fits near p m → (c : ℕ) → mine_at m c ≡ true → Fits near (set p c 11) m
  fits_marked p m f c x = fits_set p m f c 11 (λ _. inr refl) (λ _. x) (λ o. absurd (omega arith))

  -- every layout fits the blank position
  pub fits_blank : (n : ℕ) (m : List Bool) → length m ≡ n → Fits near (replicate n 10) m
  fits_blank n m s = record {
    sized = s ∙ sym (length-replicate n 10);
    only = λ c e. inl (get_or-replicate n c 10 255 (omega (arith, mine_on_board m c e)));
    known = replicate_all (λ c w. w ≡ 11 → mine_at m c ≡ true) n 10 255 (λ c l e. absurd (omega arith)) (λ c l e. absurd (omega arith));
    number = replicate_all (λ c w. w ≤ 8 → count (mine_at m) (near c) ≡ w) n 10 255 (λ c l e. absurd (omega arith)) (λ c l e. absurd (omega arith));
  }

  -- a closed cell beside no open one may have a mine: with a mine total to keep this would fail
  pub fits_mine : (p : List ℕ) (m : List Bool) → Fits near p m → (c : ℕ) → shows p c ≡ 10
      → ((d : ℕ) → shows p d ≤ 8 → has (near d) c ≡ false) → Fits near p (set m c true)
  fits_mine p m f c e lone = record {
    sized = length-set m c true ∙ f.sized;
    only = set_all (λ d x. x ≡ true → (shows p d ≡ 10) ⊎ (shows p d ≡ 11)) m false c true (λ _. inl e) f.only;
    known = set_all (λ d x. shows p d ≡ 11 → x ≡ true) m false c true (λ _. refl) f.known;
    number = λ d o. count_ext (mine_at (set m c true)) (mine_at m) (near d) (same d o) ∙ f.number d o;
  }
    where
      same : (d : ℕ) → shows p d ≤ 8 → (x : ℕ) → has (near d) x ≡ true → mine_at (set m c true) x ≡ mine_at m x
      same d o x h = get_or-set_other m c x true false (λ w. clash (has (near d) x) h (rw w (lone d o)))
