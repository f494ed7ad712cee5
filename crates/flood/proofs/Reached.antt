-- The flood opens exactly the cells that are reached: each of them shows the board's number then (`flood_opens_reached`), and any other cell what it
-- showed (`flood_keeps_others`). So the order of the list makes no difference (`flood_any_order`), nor whether it is taken in one go or in two
-- (`flood_twice`), and whatever ends with nothing left to be opened ends with the position of `open_cells` (`so_far_ends`). The count in `open_cells` is
-- enough: a cell that is opened brings at most eight others, and one closed cell less pays for nine. Rests on SoFar. Assumes nothing.
use mathlib.Core.Path.{◌≡◌, refl, sym}
use mathlib.Core.Logic.{inl, inr, ◌≢◌}
use mathlib.Core.Bool.{Bool, true, false, cond}
use mathlib.Core.List.{List, [], ◌∷◌, ◌++◌}
use Prim.Native.Nat.{ℕ, zero, suc, ◌+◌, ◌*◌, ◌≤◌, ◌<◌}
use native.Mathlib.Omega.{arith}
use lib.Dec.{eqb}
use lib.ListN.{length, set, length-append}
use borrow.Author.Tests.{eqb-true, eqb-false}
use Rattle.lists.specs.Lists.{has}
use Rattle.lists.proofs.Tests.{Decided, decided}
use Rattle.lists.proofs.Counts.{count_le}
use Rattle.grid.specs.Cells.{cell_of, shows}
use Rattle.fitting.specs.Boards.{Accepted}
use Rattle.fitting.specs.Passes.{flood, open_cells}
use Rattle.fitting.proofs.Layouts.{on_board}
use Rattle.fitting.proofs.Steps.{closed, closed_less}
use Rattle.flood.specs.Reached.{Reached}
use Rattle.flood.proofs.SoFar.{SoFar, KeptOrOpened, brings, not_ten, so_far_start, so_far_alike, so_far_pass, so_far_open, so_far_again, end_opens, end_keeps, end_same}

module _ (near : ℕ → List ℕ) (b : List ℕ) (ok : Accepted near b) (few : (c : ℕ) → c < length b → length (near c) ≤ 8) (p cs : List ℕ) where
  -- what `flood` goes on with when it has opened c
  next_brings : (c : ℕ) (ds : List ℕ) → cond (eqb (cell_of b c) 0) (near c ++ ds) ds ≡ brings near b c ++ ds
  next_brings c ds = go (eqb (cell_of b c) 0)
    where
      go : (z : Bool) → cond z (near c ++ ds) ds ≡ cond z (near c) [] ++ ds
      go true = refl
      go false = refl

  -- fewer are left to take when a closed cell has been opened
  opened_takes : (q : List ℕ) (c : ℕ) (ds : List ℕ) → length q ≡ length b → shows q c ≡ 10
      → length (brings near b c ++ ds) + 9 * closed (set q c (cell_of b c)) < length (c ∷ ds) + 9 * closed q
  opened_takes q c ds whole shut =
      let l : c < length q = on_board q c (omega arith) in
      let w = closed_less q c (cell_of b c) shut l (not_ten near b ok c (omega arith)) in
      omega (arith, w, length-append (brings near b c) ds, at_most (eqb (cell_of b c) 0) (few c (omega arith)))
    where
      at_most : (z : Bool) → length (near c) ≤ 8 → length (cond z (near c) []) ≤ 8
      at_most true h = h
      at_most false h = omega arith

  -- the flood ends with nothing left to be opened
  flood_ends : (k : ℕ) (q ds : List ℕ) → SoFar near b p cs q ds → length ds + 9 * closed q ≤ k → SoFar near b p cs (flood near b k q ds) []
  flood_ends zero q [] f h = f
  flood_ends zero q (c ∷ ds) f h = absurd (omega arith)
  flood_ends (suc k) q [] f h = f
  flood_ends (suc k) q (c ∷ ds) f h = go (decided (eqb (shows q c) 10)) (flood_ends k)
    where
      go : Decided (eqb (shows q c) 10)
          → ((r es : List ℕ) → SoFar near b p cs r es → length es + 9 * closed r ≤ k → SoFar near b p cs (flood near b k r es) [])
          → SoFar near b p cs (flood near b (suc k) q (c ∷ ds)) []
      go (inr e) ih = rw e (ih q ds (so_far_pass near b p cs q c ds (eqb-false (shows q c) 10 e) f) (omega arith))
      go (inl e) ih =
          let shut : shows q c ≡ 10 = eqb-true (shows q c) 10 e in
          rw (e, next_brings c ds)
          (ih (set q c (cell_of b c)) (brings near b c ++ ds) (so_far_open near b p cs ok q c ds shut f)
          (omega (arith, opened_takes q c ds f.whole shut)))

-- for a board whose cells have at most eight neighbours each, and a position of the same cells
module _ (near : ℕ → List ℕ) (b : List ℕ) (ok : Accepted near b) (few : (c : ℕ) → c < length b → length (near c) ≤ 8) (p : List ℕ) (whole : length p ≡ length b) where
  -- `open_cells` of a list that has the same closed cells as cs is a flood from cs
  opens_all : (cs ds : List ℕ) → ((c : ℕ) → shows p c ≡ 10 → has cs c ≡ has ds c) → SoFar near b p cs (open_cells near b p ds) []
  unfolding open_cells
  opens_all cs ds same =
      flood_ends near b ok few p cs (length ds + 9 * length b) p ds (so_far_alike near b p cs p cs ds same (so_far_start near b p cs whole))
      (omega (arith, count_le (λ v. eqb v 10) p))

  module _ (cs : List ℕ) where
    ends : SoFar near b p cs (open_cells near b p cs) []
    ends = opens_all cs cs (λ c _. refl)

    -- each reached cell shows the board's number
    pub flood_opens_reached : (c : ℕ) → Reached near b p cs c → shows (open_cells near b p cs) c ≡ cell_of b c
    flood_opens_reached = end_opens near b p cs (open_cells near b p cs) ends

    -- any other cell shows what it showed
    pub flood_keeps_others : (c : ℕ) → (Reached near b p cs c → ⊥) → shows (open_cells near b p cs) c ≡ shows p c
    flood_keeps_others = end_keeps near b p cs (open_cells near b p cs) ends

    -- and a cell that shows something else is reached
    pub flood_opened_reached : (c : ℕ) → shows (open_cells near b p cs) c ≢ shows p c → Reached near b p cs c
    flood_opened_reached c h = go (ends.each c)
      where
        go : KeptOrOpened near b p cs c (shows (open_cells near b p cs) c) → Reached near b p cs c
        go (inl e) = absurd (h e)
        go (inr e) = e.0

    pub flood_length : length (open_cells near b p cs) ≡ length b
    flood_length = ends.whole

    -- a flood that takes its cells in another order ends with the same position
    pub so_far_ends : (q : List ℕ) → SoFar near b p cs q [] → q ≡ open_cells near b p cs
    so_far_ends q f = end_same near b p cs q (open_cells near b p cs) f ends

  -- two lists with the same closed cells, in whatever order
  pub flood_any_order : (cs ds : List ℕ) → ((c : ℕ) → shows p c ≡ 10 → has cs c ≡ has ds c) → open_cells near b p cs ≡ open_cells near b p ds
  flood_any_order cs ds same = sym (so_far_ends cs (open_cells near b p ds) (opens_all cs ds same))

  -- a list without a closed cell opens nothing
  pub flood_nothing : open_cells near b p [] ≡ p
  flood_nothing = sym (so_far_ends [] p (so_far_start near b p [] whole))

  pub flood_passes : (c : ℕ) → shows p c ≢ 10 → open_cells near b p (c ∷ []) ≡ p
  flood_passes c shown = sym (so_far_ends (c ∷ []) p (so_far_pass near b p (c ∷ []) p c [] shown (so_far_start near b p (c ∷ []) whole)))

-- a flood from what a flood has left is one flood from both lists
pub flood_twice : (near : ℕ → List ℕ) (b : List ℕ) → Accepted near b → ((c : ℕ) → c < length b → length (near c) ≤ 8) → (p : List ℕ) → length p ≡ length b
    → (cs ds : List ℕ) → open_cells near b (open_cells near b p cs) ds ≡ open_cells near b p (cs ++ ds)
flood_twice near b ok few p whole cs ds =
    let between = open_cells near b p cs in
    let after = open_cells near b between ds in
    let first = ends near b ok few p whole cs in
    so_far_ends near b ok few p whole (cs ++ ds) after (so_far_again near b p cs between ds after first (ends near b ok few between first.whole ds))
