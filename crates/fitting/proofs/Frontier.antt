-- A layout fits a position exactly when it solves the equation of each open cell; so what the equations say of a cell, every layout that fits has.
-- What a rule finds rests on this: the flood from a 0, the direct rule, the subtraction rule. Rests on Equations. Assumes nothing.
use mathlib.Core.Path.{◌≡◌, refl, sym, ap, ◌∙◌}
use mathlib.Core.Logic.{◌⊎◌, inl, inr}
use mathlib.Core.Bool.{Bool, true, false, cond}
use mathlib.Core.List.{List, [], ◌∷◌}
use Prim.Native.Nat.{ℕ, zero, suc, ◌+◌, ◌≤◌}
use native.Mathlib.Omega.{arith}
use lib.ListN.{length}
use lib.Dec.{eqb}
use borrow.Author.Tests.{eqb-true, eqb-false, ne_eqb}
use Rattle.lists.specs.Lists.{keep, count, has, nodup}
use Rattle.lists.proofs.Tests.{Decided, decided}
use Rattle.lists.proofs.Members.{nodup_keep}
use Rattle.lists.proofs.Counts.{count_none, count_ext}
use Rattle.grid.specs.Cells.{shows}
use Rattle.fitting.specs.Layouts.{mine_at, Fits, Forced}
use Rattle.fitting.specs.Equations.{Holds, is_closed, is_known_mine, equation_at}
use Rattle.fitting.proofs.Equations.{all_mines, all_safe, own_cells, Exceeds, subtract_mines, subtract_safe}

-- ---- the layout that a solution gives

-- what a layout has at a cell that shows v: at a closed one x, at a known mine a mine, else none
abbrev pub placed : ℕ → Bool → Bool
placed v x = cond (eqb v 10) x (eqb v 11)

-- the layout with mines as f says at the closed cells, and at each known mine
abbrev pub layout_of : List ℕ → (ℕ → Bool) → List Bool
layout_of [] f = []
layout_of (v ∷ p) f = placed v (f zero) ∷ layout_of p (λ c. f (suc c))

-- what it has at each cell
pub layout_at : (p : List ℕ) (f : ℕ → Bool) (c : ℕ) → mine_at (layout_of p f) c ≡ placed (shows p c) (f c)
layout_at [] f c = refl
layout_at (v ∷ p) f zero = refl
layout_at (v ∷ p) f (suc c) = layout_at p (λ d. f (suc d)) c

-- it is as long as the position
layout_length : (p : List ℕ) (f : ℕ → Bool) → length (layout_of p f) ≡ length p
layout_length [] f = refl
layout_length (v ∷ p) f = ap suc (layout_length p (λ c. f (suc c)))

-- its mines around a cell are those on the closed neighbours and the known ones
count_placed : (p : List ℕ) (f : ℕ → Bool) (l : List ℕ)
    → count (λ c. placed (shows p c) (f c)) l ≡ count f (keep (is_closed p) l) + count (is_known_mine p) l
count_placed p f [] = refl
count_placed p f (c ∷ l) = go (decided (is_closed p c)) (count_placed p f l)
  where
    go : Decided (is_closed p c) → count (λ d. placed (shows p d) (f d)) l ≡ count f (keep (is_closed p) l) + count (is_known_mine p) l
        → count (λ d. placed (shows p d) (f d)) (c ∷ l) ≡ count f (keep (is_closed p) (c ∷ l)) + count (is_known_mine p) (c ∷ l)
    go (inl e) ih = rw (e, ne_eqb (shows p c) 11 (let w : shows p c ≡ 10 = eqb-true (shows p c) 10 e in omega arith)) (omega arith)
    go (inr e) ih = rw e (omega arith)

-- a mine stands only on closed cells and known mines
placed_shut : (v : ℕ) (x : Bool) → placed v x ≡ true → (v ≡ 10) ⊎ (v ≡ 11)
placed_shut v x h = go (decided (eqb v 10))
  where
    go : Decided (eqb v 10) → (v ≡ 10) ⊎ (v ≡ 11)
    go (inl e) = inl (eqb-true v 10 e)
    go (inr e) = inr (eqb-true v 11 (rw e at h))

-- a layout that fits is given by what it has at the closed cells
fits_placed : (near : ℕ → List ℕ) (p : List ℕ) (m : List Bool) → Fits near p m → (c : ℕ) → mine_at m c ≡ placed (shows p c) (mine_at m c)
fits_placed near p m f c = go (decided (eqb (shows p c) 10)) (decided (eqb (shows p c) 11)) (decided (mine_at m c))
  where
    neither : (shows p c ≡ 10) ⊎ (shows p c ≡ 11) → eqb (shows p c) 10 ≡ false → eqb (shows p c) 11 ≡ false → ⊥
    neither (inl e) a b = eqb-false _ _ a e
    neither (inr e) a b = eqb-false _ _ b e

    go : Decided (eqb (shows p c) 10) → Decided (eqb (shows p c) 11) → Decided (mine_at m c) → mine_at m c ≡ placed (shows p c) (mine_at m c)
    go (inl a) b x = rw a
    go (inr a) (inl b) x = rw (a, b) (f.known c (eqb-true (shows p c) 11 b))
    go (inr a) (inr b) (inl x) = absurd (neither (f.only c x) a b)
    go (inr a) (inr b) (inr x) = rw (a, b) x

module _ (near : ℕ → List ℕ) (p : List ℕ) where
  -- ---- fitting is solving

  -- a layout that fits solves the equation of each open cell
  pub fits_holds : (m : List Bool) → Fits near p m → (d : ℕ) → shows p d ≤ 8 → Holds (mine_at m) (equation_at near p d)
  fits_holds m f d o =
      sym (count_ext (mine_at m) (λ c. placed (shows p c) (mine_at m c)) (near d) (λ c _. fits_placed near p m f c) ∙ count_placed p (mine_at m) (near d))
      ∙ f.number d o

  -- what solves the equation of each open cell gives a layout that fits
  pub holds_fits : (f : ℕ → Bool) → ((d : ℕ) → shows p d ≤ 8 → Holds f (equation_at near p d)) → Fits near p (layout_of p f)
  holds_fits f h = record {
    sized = layout_length p f;
    only = λ c e. placed_shut (shows p c) (f c) (sym (layout_at p f c) ∙ e);
    known = λ c e. layout_at p f c ∙ rw e;
    number = λ d o.
        count_ext (mine_at (layout_of p f)) (λ c. placed (shows p c) (f c)) (near d) (λ c _. layout_at p f c) ∙ count_placed p f (near d) ∙ h d o;
  }

  -- ---- what the rules find

  -- the flood: around an open 0 all is safe
  pub zero_forced : (d c : ℕ) → shows p d ≡ 0 → has (near d) c ≡ true → Forced near p c false
  zero_forced d c z h m f = count_none (mine_at m) (near d) (f.number d (omega arith) ∙ z) c h

  -- the direct rule: the remainder is 0
  pub direct_safe : (d c : ℕ) → shows p d ≤ 8 → (equation_at near p d).known ≡ shows p d
      → has (equation_at near p d).cells c ≡ true → Forced near p c false
  direct_safe d c o e h m f = all_safe (mine_at m) (equation_at near p d) (fits_holds m f d o) e c h

  -- the direct rule: the remainder is the number of cells
  pub direct_mine : (d c : ℕ) → shows p d ≤ 8 → length (equation_at near p d).cells + (equation_at near p d).known ≡ shows p d
      → has (equation_at near p d).cells c ≡ true → Forced near p c true
  direct_mine d c o e h m f = all_mines (mine_at m) (equation_at near p d) (fits_holds m f d o) e c h

  -- the subtraction rule, of the equations of two open cells whose remainders differ by the first one's own cells
  module _ (once : (d : ℕ) → nodup (near d) ≡ true) (d e : ℕ) (open_d : shows p d ≤ 8) (open_e : shows p e ≤ 8)
      (exceeds : Exceeds (equation_at near p d) (equation_at near p e)) where
    -- no closed neighbour stands twice
    once_closed : (a : ℕ) → nodup (equation_at near p a).cells ≡ true
    once_closed a = nodup_keep (is_closed p) (near a) (once a)

    -- those are mines
    pub minus_mine : (c : ℕ) → has (own_cells (equation_at near p d).cells (equation_at near p e).cells) c ≡ true → Forced near p c true
    minus_mine c h m f =
        subtract_mines (mine_at m) (equation_at near p d) (equation_at near p e) (once_closed d) (once_closed e)
        (fits_holds m f d open_d) (fits_holds m f e open_e) exceeds c h

    -- and the second one's own cells are safe
    pub minus_safe_lem : (c : ℕ) → has (own_cells (equation_at near p e).cells (equation_at near p d).cells) c ≡ true → Forced near p c false
    minus_safe_lem c h m f =
        subtract_safe (mine_at m) (equation_at near p d) (equation_at near p e) (once_closed d) (once_closed e)
        (fits_holds m f d open_d) (fits_holds m f e open_e) exceeds c h
