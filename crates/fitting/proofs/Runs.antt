-- The device of the proof of demand 3: the positions that a judge can come to, by any rules in any order. A run opens or marks one cell at a time, and
-- each is forced at that moment among the layouts that pass the test `also`. One invariant carries all: the board's own layout fits at every step; and it
-- passes (`own_passes`), so that what is forced is so on the board. Rests on Own. Assumes nothing.
use mathlib.Core.Path.{◌≡◌, refl}
use mathlib.Core.Logic.{◌⊎◌, inl, inr, ◌↔◌}
use mathlib.Core.Bool.{Bool, true, false}
use mathlib.Core.List.{List}
use Prim.Native.Nat.{ℕ, ◌≤◌, ◌<◌}
use lib.ListN.{length, set}
use Rattle.lists.proofs.Tests.{clash}
use Rattle.lists.proofs.Elements.{set_all}
use Rattle.grid.specs.Cells.{cell_of, shows}
use Rattle.fitting.specs.Layouts.{mine_at, Fits, ForcedAmong}
use Rattle.fitting.specs.Boards.{own, Accepted, AllOpen}
use Rattle.fitting.specs.Solver.{first}
use Rattle.fitting.proofs.Layouts.{open_free, fits_marked}
use Rattle.fitting.proofs.Own.{own_safe, own_opened, before_opened, before_marked}

-- a run from the position p: each step writes one cell that is forced at that moment. That the cell is closed is not asked: it may be written again
pub data Run (near : ℕ → List ℕ) (also : List Bool → Bool) (b p : List ℕ) : List ℕ → Type 0 where
  start : Run near also b p p
  opens : {q : List ℕ} (c : ℕ) → Run near also b p q → c < length b → ForcedAmong near also q c false → Run near also b p (set q c (cell_of b c))
  mine : {q : List ℕ} (c : ℕ) → Run near also b p q → ForcedAmong near also q c true → Run near also b p (set q c 11)

-- no closed cell is free in every layout that fits and passes the test
abbrev pub Stuck : (ℕ → List ℕ) → (List Bool → Bool) → List ℕ → Type 0
Stuck near also q = (c : ℕ) → shows q c ≡ 10 → (m : List Bool) × Fits near q m × (also m ≡ true) × (mine_at m c ≡ true)

-- a judge's whole run: from the start, until all safe cells are open or it is stuck, and its answer
pub record Judged (near : ℕ → List ℕ) (also : List Bool → Bool) (b : List ℕ) (s : ℕ) (q : List ℕ) (yes : Bool) : Type 0 where
  pub run : Run near also b (first b s) q
  pub ends : AllOpen b q ⊎ Stuck near also q
  pub verdict : (yes ≡ true) ↔ AllOpen b q

-- one run after the other
pub run_join : (near : ℕ → List ℕ) (also : List Bool → Bool) (b : List ℕ) {p q r : List ℕ} → Run near also b p q → Run near also b q r
    → Run near also b p r
run_join near also b t start = t
run_join near also b t (opens c u l h) = opens c (run_join near also b t u) l h
run_join near also b t (mine c u h) = mine c (run_join near also b t u) h

-- a cell c that shows v is open, closed, or off the board
abbrev pub Plain : List ℕ → ℕ → ℕ → Type 0
Plain b c v = (v ≤ 8) ⊎ ((v ≡ 10) ⊎ (length b ≤ c))

-- or a known mine
abbrev pub Kind : List ℕ → ℕ → ℕ → Type 0
Kind b c v = Plain b c v ⊎ (v ≡ 11)

module _ (near : ℕ → List ℕ) (also : List Bool → Bool) (b : List ℕ) (ok : Accepted near b) (own_passes : also (own b) ≡ true)
    {p : List ℕ} (fit : Fits near p (own b)) where
  -- the board's own layout fits every position of a run
  pub run_own : {q : List ℕ} → Run near also b p q → Fits near q (own b)
  run_own start = fit
  run_own (opens {q = q} c r l h) = own_opened near b ok q (run_own r) c l (h (own b) (run_own r) own_passes)
  run_own (mine {q = q} c r h) = fits_marked near q (own b) (run_own r) c (h (own b) (run_own r) own_passes)

  -- whatever fits later fits before, so what is forced stays forced
  pub run_back : {q : List ℕ} → Run near also b p q → (m : List Bool) → Fits near q m → Fits near p m
  run_back start m f = f
  run_back (opens {q = q} c r l h) m f = run_back r m (before_opened near b ok q (run_own r) c l (h (own b) (run_own r) own_passes) m f)
  run_back (mine {q = q} c r h) m f = run_back r m (before_marked near b ok q (run_own r) c (h (own b) (run_own r) own_passes) m f)

  -- what is open stays open
  pub run_open : {q : List ℕ} → Run near also b p q → (c : ℕ) → shows p c ≤ 8 → shows q c ≤ 8
  run_open start = λ c o. o
  run_open (opens {q = q} d r l h) = set_all (λ c v. shows p c ≤ 8 → v ≤ 8) q 255 d (cell_of b d)
      (λ _. ok.small d l (own_safe b d (h (own b) (run_own r) own_passes))) (run_open r)
  run_open (mine {q = q} d r h) = set_all (λ c v. shows p c ≤ 8 → v ≤ 8) q 255 d 11
      (λ o. clash (mine_at (own b) d) (h (own b) (run_own r) own_passes) (open_free near q (own b) (run_own r) d (run_open r d o)))
      (run_open r)

  -- each cell is of one of these kinds, if it was
  pub run_kind : ((c : ℕ) → Kind b c (shows p c)) → {q : List ℕ} → Run near also b p q → (c : ℕ) → Kind b c (shows q c)
  run_kind k start = k
  run_kind k (opens {q = q} c r l h) = set_all (λ d v. Kind b d v) q 255 c (cell_of b c)
      (inl (inl (ok.small c l (own_safe b c (h (own b) (run_own r) own_passes))))) (run_kind k r)
  run_kind k (mine {q = q} c r h) = set_all (λ d v. Kind b d v) q 255 c 11 (inr refl) (run_kind k r)
