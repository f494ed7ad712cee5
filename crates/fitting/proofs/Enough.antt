-- The counts in the definitions cut nothing short: `open_cells` takes cells until the list is empty, and `judge` makes passes until all safe cells are open
-- or a pass finds nothing. So any greater count gives the same, and code with no count may loop to the end. Rests on Steps. Assumes nothing.
use mathlib.Core.Path.{◌≡◌, refl, sym}
use mathlib.Core.Logic.{inl, inr, ◌≢◌}
use mathlib.Core.Bool.{Bool, true, false, cond}
use mathlib.Core.List.{List, [], ◌∷◌, ◌++◌}
use Prim.Native.Nat.{ℕ, zero, suc, ◌+◌, ◌*◌, ◌≤◌, ◌<◌, max}
use native.Mathlib.Omega.{arith}
use lib.ListN.{length, set, length-set, length-append}
use lib.Dec.{eqb}
use borrow.Author.Tests.{eqb-true, eqb-false}
use Rattle.lists.proofs.Tests.{Decided, decided}
use Rattle.lists.proofs.Counts.{count_le}
use Rattle.grid.specs.Cells.{cell_of, shows}
use Rattle.fitting.specs.Layouts.{Fits}
use Rattle.fitting.specs.Boards.{own, Accepted}
use Rattle.fitting.specs.Passes.{GradedCells, nothing, flood, open_cells, pass, all_open, passes}
use Rattle.fitting.specs.Rules.{SoundAmong}
use Rattle.fitting.proofs.Layouts.{on_board}
use Rattle.fitting.proofs.Steps.{closed, closed_less, pass_less}
use Rattle.fitting.proofs.Passes.{passes_on, pass_own}

-- ---- the flood: an opened cell brings at most eight others, and one closed cell less pays for nine

module _ (near : ℕ → List ℕ) (b : List ℕ) (ok : Accepted near b) (few : (c : ℕ) → length (near c) ≤ 8) where
  -- what the flood takes from the list at most
  abbrev pub takes : List ℕ → List ℕ → ℕ
  takes p cs = length cs + 9 * closed p

  -- an opened cell isn't closed: no board cell is 10
  not_ten : (c : ℕ) → c < length b → cell_of b c ≢ 10
  not_ten c l = go (decided (eqb (cell_of b c) 255))
    where
      go : Decided (eqb (cell_of b c) 255) → cell_of b c ≢ 10
      go (inl e) = let w : cell_of b c ≡ 255 = eqb-true (cell_of b c) 255 e in omega arith
      go (inr e) = omega (arith, ok.small c l (eqb-false (cell_of b c) 255 e))

  -- fewer are left to take when a closed cell has been opened
  opened_takes : (p : List ℕ) (c : ℕ) (cs : List ℕ) → length p ≡ length b → shows p c ≡ 10
      → takes (set p c (cell_of b c)) (cond (eqb (cell_of b c) 0) (near c ++ cs) cs) < takes p (c ∷ cs)
  opened_takes p c cs long shut =
      let l : c < length p = on_board p c (omega arith) in
      let w = closed_less p c (cell_of b c) shut l (not_ten c (omega arith)) in
      go w (eqb (cell_of b c) 0)
    where
      go : closed (set p c (cell_of b c)) < closed p → (zero_there : Bool)
          → takes (set p c (cell_of b c)) (cond zero_there (near c ++ cs) cs) < takes p (c ∷ cs)
      go w true = omega (arith, length-append (near c) cs, few c)
      go w false = omega arith

  -- any two counts that are enough give the same position
  pub flood_same : (k j : ℕ) (p cs : List ℕ) → length p ≡ length b → takes p cs ≤ k → takes p cs ≤ j → flood near b k p cs ≡ flood near b j p cs
  flood_same zero zero p cs long u v = refl
  flood_same zero (suc j) p [] long u v = refl
  flood_same zero (suc j) p (c ∷ cs) long u v = absurd (omega arith)
  flood_same (suc k) zero p [] long u v = refl
  flood_same (suc k) zero p (c ∷ cs) long u v = absurd (omega arith)
  flood_same (suc k) (suc j) p [] long u v = refl
  flood_same (suc k) (suc j) p (c ∷ cs) long u v = go (decided (eqb (shows p c) 10)) (flood_same k j)
    where
      go : Decided (eqb (shows p c) 10)
          → ((q ds : List ℕ) → length q ≡ length b → takes q ds ≤ k → takes q ds ≤ j → flood near b k q ds ≡ flood near b j q ds)
          → flood near b (suc k) p (c ∷ cs) ≡ flood near b (suc j) p (c ∷ cs)
      go (inr e) ih = rw e (ih p cs long (omega arith) (omega arith))
      go (inl e) ih =
          let w = opened_takes p c cs long (eqb-true (shows p c) 10 e) in
          rw e (ih (set p c (cell_of b c)) _ (omega (arith, length-set p c (cell_of b c))) (omega arith) (omega arith))

-- `open_cells` is the flood with any count that is enough
pub open_cells_ends : (near : ℕ → List ℕ) (b p cs : List ℕ) (k : ℕ) → Accepted near b → ((c : ℕ) → length (near c) ≤ 8) → length p ≡ length b
    → length cs + 9 * closed p ≤ k → open_cells near b p cs ≡ flood near b k p cs
unfolding open_cells
open_cells_ends near b p cs k ok few long h =
    flood_same near b ok few (length cs + 9 * length b) k p cs long (omega (arith, count_le (λ v. eqb v 10) p)) h

-- ---- the passes: each leaves fewer closed cells

module _ (near : ℕ → List ℕ) (also : List Bool → Bool) (b : List ℕ) (rule : List ℕ → GradedCells) (ok : Accepted near b)
    (own_passes : also (own b) ≡ true) (sound : SoundAmong near also b rule) where
  -- where no cell is closed, a pass finds nothing
  none_left : (j : ℕ) (p : List ℕ) (grade rounds : ℕ) → Fits near p (own b) → closed p ≤ 0
      → passes near b rule zero p grade rounds ≡ passes near b rule (suc j) p grade rounds
  none_left j p grade rounds fit h = go (decided (all_open b p)) (decided (nothing (rule p)))
    where
      go : Decided (all_open b p) → Decided (nothing (rule p)) → passes near b rule zero p grade rounds ≡ passes near b rule (suc j) p grade rounds
      go (inl a) e = rw a
      go (inr a) (inl e) = rw (a, e)
      go (inr a) (inr e) = absurd (omega (arith, pass_less near also b ok own_passes rule sound p fit e))

  -- any two counts that are enough give the same ending
  pub passes_same : (k j : ℕ) (p : List ℕ) (grade rounds : ℕ) → Fits near p (own b) → closed p ≤ k → closed p ≤ j
      → passes near b rule k p grade rounds ≡ passes near b rule j p grade rounds
  passes_same zero zero p grade rounds fit u v = refl
  passes_same zero (suc j) p grade rounds fit u v = none_left j p grade rounds fit u
  passes_same (suc k) zero p grade rounds fit u v = sym (none_left k p grade rounds fit v)
  passes_same (suc k) (suc j) p grade rounds fit u v =
      go (decided (all_open b p)) (decided (nothing (rule p)))
      (λ w. passes_same k j (pass near b p (rule p)) (max grade (rule p).grade) (rounds + 1)
      (pass_own near also b rule p ok own_passes sound fit) (omega arith) (omega arith))
    where
      go : Decided (all_open b p) → Decided (nothing (rule p))
          → (closed (pass near b p (rule p)) < closed p → passes_on near b rule k p grade rounds ≡ passes_on near b rule j p grade rounds)
          → passes near b rule (suc k) p grade rounds ≡ passes near b rule (suc j) p grade rounds
      go (inl a) e later = rw a
      go (inr a) (inl e) later = rw (a, e)
      go (inr a) (inr e) later = rw (a, e) (later (pass_less near also b ok own_passes rule sound p fit e))
