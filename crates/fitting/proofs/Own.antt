-- The board's own layout. Where it fits a position, each open cell shows the board's number, and it goes on to fit when a safe cell is opened or a mine
-- marked; and whatever layout fits after such a step fits before it. So what is forced stays forced. Rests on Layouts. Assumes nothing.
use mathlib.Core.Path.{◌≡◌, sym, ◌∙◌}
use mathlib.Core.Logic.{◌≢◌}
use mathlib.Core.Bool.{Bool, true, false}
use mathlib.Core.List.{List}
use Prim.Native.Nat.{ℕ, ◌≤◌, ◌<◌}
use native.Mathlib.Omega.{arith}
use lib.ListN.{length, set, replicate, length-map, get_or-map}
use lib.Seq.{get_or-set_same}
use lib.Dec.{eqb}
use borrow.Author.Tests.{eqb-false, ne_eqb}
use Rattle.lists.proofs.Tests.{clash}
use Rattle.grid.specs.Cells.{cell_of, shows}
use Rattle.fitting.specs.Layouts.{mine_at, Fits}
use Rattle.fitting.specs.Boards.{own, Accepted}
use Rattle.fitting.specs.Solver.{first}
use Rattle.fitting.proofs.Layouts.{on_board, mine_on_board, open_free, fits_unset, fits_opened, fits_blank}

-- it has a mine where the board has 255
pub own_at : (b : List ℕ) (c : ℕ) → mine_at (own b) c ≡ eqb (cell_of b c) 255
own_at b c = get_or-map (λ (v : ℕ). eqb v 255) b c 0

-- it is as long as the board
pub own_length : (b : List ℕ) → length (own b) ≡ length b
own_length b = length-map b (λ (v : ℕ). eqb v 255)

-- a cell that the own layout leaves free is a safe cell of the board, and the other way round
pub own_safe : (b : List ℕ) (c : ℕ) → mine_at (own b) c ≡ false → cell_of b c ≢ 255
own_safe b c h = eqb-false (cell_of b c) 255 (sym (own_at b c) ∙ h)

pub safe_own : (b : List ℕ) (c : ℕ) → cell_of b c ≢ 255 → mine_at (own b) c ≡ false
safe_own b c h = own_at b c ∙ ne_eqb (cell_of b c) 255 h

module _ (near : ℕ → List ℕ) (b p : List ℕ) (fit : Fits near p (own b)) where
  -- a position that it fits is as long as the board
  pub fit_length : length p ≡ length b
  fit_length = sym fit.sized ∙ own_length b

  -- and shows nothing off the board
  pub fit_on : (c : ℕ) → shows p c ≢ 255 → c < length b
  fit_on c h = omega (arith, on_board p c h, fit_length)

module _ (near : ℕ → List ℕ) (b : List ℕ) (ok : Accepted near b) where
  -- the own layout fits the solver's first position
  pub first_own : (s : ℕ) → s < length b → cell_of b s ≢ 255 → Fits near (first b s) (own b)
  first_own s l n =
      fits_opened near (replicate (length b) 10) (own b) (fits_blank near (length b) (own b) (own_length b)) s (cell_of b s)
      (ok.small s l n) (safe_own b s n) (ok.true_number s l n)

  module _ (p : List ℕ) (fit : Fits near p (own b)) (c : ℕ) where
    -- an open cell is a safe cell of the board with its number
    pub open_safe : shows p c ≤ 8 → (c < length b) × (cell_of b c ≢ 255) × (shows p c ≡ cell_of b c)
    open_safe o = (on, safe, sym (fit.number c o) ∙ ok.true_number c on safe)
      where
        on : c < length b
        on = fit_on near b p fit c (omega arith)

        safe : cell_of b c ≢ 255
        safe = own_safe b c (open_free near p (own b) fit c o)

    -- the own layout goes on to fit when a safe cell is opened
    pub own_opened : c < length b → mine_at (own b) c ≡ false → Fits near (set p c (cell_of b c)) (own b)
    own_opened l x =
        let n = own_safe b c x in
        fits_opened near p (own b) fit c (cell_of b c) (ok.small c l n) x (ok.true_number c l n)

    -- whatever fits when a safe cell is opened, or a mine is marked, fits before
    pub before_opened : c < length b → mine_at (own b) c ≡ false → (m : List Bool) → Fits near (set p c (cell_of b c)) m → Fits near p m
    before_opened l x m f = fits_unset near p m c (cell_of b c) f
        (λ e. clash (mine_at m c) e (open_free near (set p c (cell_of b c)) m f c (rw now small)))
        (λ e. clash (mine_at (own b) c) (fit.known c e) x)
        (λ o. f.number c (rw now small) ∙ now ∙ sym (open_safe o).2)
      where
        small : cell_of b c ≤ 8
        small = ok.small c l (own_safe b c x)

        now : shows (set p c (cell_of b c)) c ≡ cell_of b c
        now = get_or-set_same p c (cell_of b c) 255 (omega (arith, l, fit_length near b p fit))

    pub before_marked : mine_at (own b) c ≡ true → (m : List Bool) → Fits near (set p c 11) m → Fits near p m
    before_marked x m f = fits_unset near p m c 11 f
        (λ _. fit.only c x)
        (λ _. f.known c (get_or-set_same p c 11 255 (omega (arith, mine_on_board (own b) c x, fit.sized))))
        (λ o. clash (mine_at (own b) c) x (open_free near p (own b) fit c o))
