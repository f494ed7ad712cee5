-- Layouts of mines, and which of them fit a position (Kaye, "Minesweeper is NP-complete"; SPECIFICATION 2.6). A layout is a list of
-- Bools, true at a mine. `near` gives the neighbours of a cell: nothing is asked of it here, so every kind of board has this text. Assumes nothing.
use Rattle.std.specs.Prelude.{◌≡◌, ◌⊎◌, Bool, true, false, not, cond, ◌&&◌, ◌||◌, List, [], ◌∷◌, ℕ, zero, suc, ◌≤◌, leb, eqb, length, get_or}
use Rattle.std.specs.Bool.{beq}
use Rattle.lists.specs.Lists.{every, count}
use Rattle.grid.specs.Cells.{shows}

-- whether a layout has a mine at a cell; no mine lies off the board
abbrev pub mine_at : List Bool → ℕ → Bool
mine_at m c = get_or m c false

-- the layout fits: mines only on closed cells and known mines, one on each known mine, and each open cell has its number of neighbouring mines
pub record Fits (near : ℕ → List ℕ) (p : List ℕ) (m : List Bool) : Type 0 where
  pub sized : length m ≡ length p
  pub only : (c : ℕ) → mine_at m c ≡ true → (shows p c ≡ 10) ⊎ (shows p c ≡ 11)
  pub known : (c : ℕ) → shows p c ≡ 11 → mine_at m c ≡ true
  pub number : (c : ℕ) → shows p c ≤ 8 → count (mine_at m) (near c) ≡ shows p c

-- the cell is the same in every layout that fits: a mine where v is true, free where v is false
abbrev pub Forced : (ℕ → List ℕ) → List ℕ → ℕ → Bool → Type 0
Forced near p c v = (m : List Bool) → Fits near p m → mine_at m c ≡ v

-- ---- a test that a layout must pass beside fitting

-- on a plain board every layout passes
abbrev pub any_layout : List Bool → Bool
any_layout m = true

-- the layout holds exactly n mines, cells away from the frontier included
abbrev pub of_total : ℕ → List Bool → Bool
of_total n m = eqb (count (λ x. x) m) n

-- the cell is the same in every layout that fits and passes the test `also`
abbrev pub ForcedAmong : (ℕ → List ℕ) → (List Bool → Bool) → List ℕ → ℕ → Bool → Type 0
ForcedAmong near also p c v = (m : List Bool) → Fits near p m → also m ≡ true → mine_at m c ≡ v

-- ---- the same as tests, which compute

-- what is asked of a cell that shows v, holds a mine or not, and has k neighbouring mines
abbrev pub agrees : ℕ → Bool → ℕ → Bool
agrees v mine k = cond (leb v 8) (not mine && eqb k v) (cond (eqb v 10) true (beq mine (eqb v 11)))

-- a layout as long as the position fits it
unfoldable pub fits : (ℕ → List ℕ) → List ℕ → List Bool → Bool
fits near p m = every (length p) (λ c. agrees (shows p c) (mine_at m c) (count (mine_at m) (near c)))

-- every_layout n f: the test f passes at each layout of n cells
abbrev pub every_layout : ℕ → (List Bool → Bool) → Bool
every_layout zero f = f []
every_layout (suc n) f = every_layout n (λ m. f (false ∷ m)) && every_layout n (λ m. f (true ∷ m))

-- no layout that fits the position and passes the test `also` has a mine at the cell
unfoldable pub free_in_every : (ℕ → List ℕ) → (List Bool → Bool) → List ℕ → ℕ → Bool
free_in_every near also p c = every_layout (length p) (λ m. not (fits near p m && also m) || not (mine_at m c))
