-- The other half of demand 3: a solver opens nothing that a judge has not opened at its end. Say that it may open c, and that the judge stopped with c
-- not open. A known mine of the judge is a mine of the board, so c would be closed for the judge. Since the judge is stuck, some layout that fits the
-- judge's position and passes the test has a mine at c. It fits the solver's position too, so c is not free in every such layout.
-- Rests on Runs and Solver. Assumes nothing.
use mathlib.Core.Path.{◌≡◌}
use mathlib.Core.Logic.{◌⊎◌, inl, inr}
use mathlib.Core.Bool.{Bool, true, false}
use mathlib.Core.List.{List, [], ◌∷◌}
use Prim.Native.Nat.{ℕ, ◌≤◌, ◌<◌}
use native.Mathlib.Omega.{arith}
use lib.ListN.{length}
use Rattle.lists.proofs.Tests.{clash}
use Rattle.lists.proofs.Elements.{set_all}
use Rattle.grid.specs.Cells.{cell_of, shows}
use Rattle.fitting.specs.Layouts.{mine_at, Fits, ForcedAmong}
use Rattle.fitting.specs.Boards.{own, Accepted, AllOpen}
use Rattle.fitting.specs.Solver.{ask_among, asks_among, DoneAmong}
use Rattle.fitting.proofs.Own.{own_safe, fit_on}
use Rattle.fitting.proofs.Runs.{Stuck, Kind}
use Rattle.fitting.proofs.Solver.{SolverPosition, solver_ask, Asked, ask_cases, open_more}

-- the judge's last position q
module _ (near : ℕ → List ℕ) (also : List Bool → Bool) (b : List ℕ) (ok : Accepted near b) (own_passes : also (own b) ≡ true) (s : ℕ) (q : List ℕ)
    (fit : Fits near q (own b)) (kind : (c : ℕ) → Kind b c (shows q c)) (ends : AllOpen b q ⊎ Stuck near also q) where
  -- what the solver has open the judge has open
  abbrev pub Within : List ℕ → Type 0
  Within p = (c : ℕ) → shows p c ≤ 8 → shows q c ≤ 8

  -- what a solver may open the judge has open
  pub asked_open : (p : List ℕ) → SolverPosition near b s p → Within p → (c : ℕ) → shows p c ≡ 10 → ForcedAmong near also p c false → shows q c ≤ 8
  asked_open p sol w c e h = done ends
    where
      on : c < length b
      on = fit_on near b p sol.fit c (omega arith)

      closed : Stuck near also q → shows q c ≡ 10 → ⊥
      closed st x =
          let (m, f, t, y) = st c x in
          clash (mine_at m c) y (h m (open_more near b ok s p q sol fit w m f) t)

      stuck : Stuck near also q → Kind b c (shows q c) → shows q c ≤ 8
      stuck st (inl (inl o)) = o
      stuck st (inl (inr (inl x))) = absurd (closed st x)
      stuck st (inl (inr (inr k))) = absurd (omega (arith, on))
      stuck st (inr x) = clash (mine_at (own b) c) (fit.known c x) (h (own b) sol.fit own_passes)

      done : AllOpen b q ⊎ Stuck near also q → shows q c ≤ 8
      done (inl all) = all c on (own_safe b c (h (own b) sol.fit own_passes))
      done (inr st) = stuck st (kind c)

  -- after an ask the judge still has open what the solver has
  pub within_ask : (p : List ℕ) → SolverPosition near b s p → Within p → (c : ℕ) → Within (ask_among near also b p c)
  within_ask p sol w c = go (ask_cases near also b p c)
    where
      go : Asked near also b p c → Within (ask_among near also b p c)
      go (inl same) = rw same w
      go (inr (new, e, h)) = rw new (set_all (λ d v. v ≤ 8 → shows q d ≤ 8) p 255 c (cell_of b c) (λ _. asked_open p sol w c e h) w)

  -- and so after any list of asks
  pub within_asks : (p : List ℕ) → SolverPosition near b s p → Within p → (cs : List ℕ) → Within (asks_among near also b p cs)
  within_asks p sol w [] = w
  within_asks p sol w (c ∷ cs) = within_asks (ask_among near also b p c) (solver_ask near also b ok own_passes s p sol c) (within_ask p sol w c) cs

  -- a solver is done once it has open all that the judge has
  pub within_done : (p : List ℕ) → SolverPosition near b s p → Within p → ((c : ℕ) → shows q c ≤ 8 → shows p c ≤ 8) → DoneAmong near also b p
  within_done p sol w all c = go (ask_cases near also b p c)
    where
      go : Asked near also b p c → ask_among near also b p c ≡ p
      go (inl same) = same
      go (inr (new, e, h)) = absurd (omega (arith, all c (asked_open p sol w c e h)))
