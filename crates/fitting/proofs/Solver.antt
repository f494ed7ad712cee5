-- The solver's positions: the board's own layout fits, each cell is open or closed, and the start stays open. An ask opens one closed cell that is free in
-- every layout that fits and passes the test `also`, or does nothing. The more cells are open, the fewer layouts fit. Rests on Decision and Own.
-- Assumes nothing.
use mathlib.Core.Path.{◌≡◌, refl, sym, ◌∙◌}
use mathlib.Core.Logic.{◌⊎◌, inl, inr, ◌≢◌}
use mathlib.Core.Bool.{Bool, true, false}
use mathlib.Core.List.{List, [], ◌∷◌, ◌++◌}
use Prim.Native.Nat.{ℕ, ◌≤◌, ◌<◌}
use native.Mathlib.Omega.{arith}
use lib.ListN.{length, set, replicate, length-replicate}
use lib.Seq.{get_or-set_same}
use lib.Dec.{eqb}
use borrow.Author.Tests.{eqb-true, eqb-false}
use Rattle.lists.proofs.Tests.{Decided, decided, clash}
use Rattle.lists.proofs.Elements.{set_all, replicate_all}
use Rattle.grid.specs.Cells.{cell_of, shows}
use Rattle.fitting.specs.Layouts.{mine_at, Fits, ForcedAmong, free_in_every}
use Rattle.fitting.specs.Boards.{own, Accepted}
use Rattle.fitting.specs.Solver.{first, ask_among, asks_among}
use Rattle.fitting.proofs.Layouts.{mine_on_board, open_free}
use Rattle.fitting.proofs.Decision.{free_forced, forced_free}
use Rattle.fitting.proofs.Own.{own_safe, fit_length, fit_on, first_own, open_safe, own_opened}
use Rattle.fitting.proofs.Runs.{Plain}

-- one list of asks after the other
pub asks_append : (near : ℕ → List ℕ) (also : List Bool → Bool) (b p cs ds : List ℕ)
    → asks_among near also b p (cs ++ ds) ≡ asks_among near also b (asks_among near also b p cs) ds
asks_append near also b p [] ds = refl
asks_append near also b p (c ∷ cs) ds = asks_append near also b (ask_among near also b p c) cs ds

-- an ask does nothing, or opens a closed cell that is free in every layout that fits and passes
abbrev pub Asked : (ℕ → List ℕ) → (List Bool → Bool) → List ℕ → List ℕ → ℕ → Type 0
Asked near also b p c =
    (ask_among near also b p c ≡ p) ⊎ ((ask_among near also b p c ≡ set p c (cell_of b c)) × (shows p c ≡ 10) × ForcedAmong near also p c false)

pub ask_cases : (near : ℕ → List ℕ) (also : List Bool → Bool) (b p : List ℕ) (c : ℕ) → Asked near also b p c
unfolding ask_among
ask_cases near also b p c = go (decided (eqb (shows p c) 10)) (decided (free_in_every near also p c))
  where
    go : Decided (eqb (shows p c) 10) → Decided (free_in_every near also p c) → Asked near also b p c
    go (inr x) y = inl (simp x)
    go (inl x) (inr y) = inl (simp (x, y))
    go (inl x) (inl y) = inr (simp (x, y), eqb-true (shows p c) 10 x, free_forced near p also c y)

-- an ask closes no cell
pub ask_keeps : (near : ℕ → List ℕ) (also : List Bool → Bool) (b p : List ℕ) (c d : ℕ) → shows p d ≤ 8 → shows (ask_among near also b p c) d ≤ 8
ask_keeps near also b p c = go (ask_cases near also b p c)
  where
    go : Asked near also b p c → (d : ℕ) → shows p d ≤ 8 → shows (ask_among near also b p c) d ≤ 8
    go (inl same) = rw same (λ d o. o)
    go (inr (new, e, h)) = rw new (set_all (λ d v. shows p d ≤ 8 → v ≤ 8) p 255 c (cell_of b c) (λ o. absurd (omega arith)) (λ d o. o))

-- what holds of each position of the solver from the start s
pub record SolverPosition (near : ℕ → List ℕ) (b : List ℕ) (s : ℕ) (p : List ℕ) : Type 0 where
  pub fit : Fits near p (own b)
  pub plain : (c : ℕ) → Plain b c (shows p c)
  pub begun : shows p s ≤ 8

module _ (near : ℕ → List ℕ) (b : List ℕ) (ok : Accepted near b) (s : ℕ) where
  -- it holds of the first position
  pub solver_first : s < length b → cell_of b s ≢ 255 → SolverPosition near b s (first b s)
  solver_first l n = record {
    fit = first_own near b ok s l n;
    plain = set_all (λ c v. Plain b c v) (replicate (length b) 10) 255 s (cell_of b s) (inl (ok.small s l n))
        (replicate_all (λ c v. Plain b c v) (length b) 10 255 (λ c w. inr (inl refl)) (λ c w. inr (inr w)));
    begun = rw (get_or-set_same (replicate (length b) 10) s (cell_of b s) 255 (rw length-replicate l)) (ok.small s l n);
  }

  -- a layout that fits a position in which all that the solver has open is open fits the solver's
  pub open_more : (p q : List ℕ) → SolverPosition near b s p → Fits near q (own b) → ((c : ℕ) → shows p c ≤ 8 → shows q c ≤ 8)
      → (m : List Bool) → Fits near q m → Fits near p m
  open_more p q sol fit_q w m f = record {
    sized = f.sized ∙ fit_length near b q fit_q ∙ sym (fit_length near b p sol.fit);
    only = λ c e. only c e (sol.plain c);
    known = λ c e. absurd (known c e (sol.plain c));
    number = λ c o. f.number c (w c o) ∙ (open_safe near b ok q fit_q c (w c o)).2 ∙ sym (open_safe near b ok p sol.fit c o).2;
  }
    where
      only : (c : ℕ) → mine_at m c ≡ true → Plain b c (shows p c) → (shows p c ≡ 10) ⊎ (shows p c ≡ 11)
      only c e (inl o) = clash (mine_at m c) e (open_free near q m f c (w c o))
      only c e (inr (inl x)) = inl x
      only c e (inr (inr k)) = absurd (omega (arith, mine_on_board m c e, f.sized, fit_length near b q fit_q))

      known : (c : ℕ) → shows p c ≡ 11 → Plain b c (shows p c) → ⊥
      known c e (inl o) = omega arith
      known c e (inr (inl x)) = omega arith
      known c e (inr (inr k)) = omega (arith, fit_on near b p sol.fit c (omega arith))

module _ (near : ℕ → List ℕ) (also : List Bool → Bool) (b : List ℕ) (ok : Accepted near b) (own_passes : also (own b) ≡ true) (s : ℕ) where
  -- the position after a closed cell that is free in every layout that fits and passes is opened
  solver_opened : (p : List ℕ) → SolverPosition near b s p → (c : ℕ) → shows p c ≡ 10 → ForcedAmong near also p c false
      → SolverPosition near b s (set p c (cell_of b c))
  solver_opened p sol c e h = record {
    fit = own_opened near b ok p sol.fit c on free;
    plain = set_all (λ d v. Plain b d v) p 255 c (cell_of b c) (inl small) sol.plain;
    begun = set_all (λ d v. d ≡ s → v ≤ 8) p 255 c (cell_of b c) (λ _. small) (λ d x. rw x sol.begun) s refl;
  }
    where
      on : c < length b
      on = fit_on near b p sol.fit c (omega arith)

      free : mine_at (own b) c ≡ false
      free = h (own b) sol.fit own_passes

      small : cell_of b c ≤ 8
      small = ok.small c on (own_safe b c free)

  -- it holds after an ask
  pub solver_ask : (p : List ℕ) → SolverPosition near b s p → (c : ℕ) → SolverPosition near b s (ask_among near also b p c)
  solver_ask p sol c = go (ask_cases near also b p c)
    where
      go : Asked near also b p c → SolverPosition near b s (ask_among near also b p c)
      go (inl same) = rw same sol
      go (inr (new, e, h)) = rw new (solver_opened p sol c e h)

  -- and after any list of asks
  pub solver_asks : (p : List ℕ) → SolverPosition near b s p → (cs : List ℕ) → SolverPosition near b s (asks_among near also b p cs)
  solver_asks p sol [] = sol
  solver_asks p sol (c ∷ cs) = solver_asks (ask_among near also b p c) (solver_ask p sol c) cs

  -- a cell of the board that is free in every layout that fits and passes is open once it is asked for
  pub ask_opens : (p : List ℕ) → SolverPosition near b s p → (c : ℕ) → c < length b → ForcedAmong near also p c false
      → shows (ask_among near also b p c) c ≤ 8
  unfolding ask_among
  ask_opens p sol c l h = go (sol.plain c) (decided (eqb (shows p c) 10))
    where
      small : cell_of b c ≤ 8
      small = ok.small c l (own_safe b c (h (own b) sol.fit own_passes))

      go : Plain b c (shows p c) → Decided (eqb (shows p c) 10) → shows (ask_among near also b p c) c ≤ 8
      go k (inl e) = rw (e, forced_free near p also c h, get_or-set_same p c (cell_of b c) 255 (omega (arith, l, fit_length near b p sol.fit))) small
      go (inl o) (inr x) = rw (x, ask_among) o
      go (inr (inl e)) (inr x) = absurd (eqb-false (shows p c) 10 x e)
      go (inr (inr k)) (inr x) = absurd (omega (arith, l))
