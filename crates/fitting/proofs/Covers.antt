-- One half of demand 3: a solver that is done has open all that a judge has. The solver's position covers the judge's when every layout that fits the
-- solver's and passes the test fits the judge's, and what the judge has open the solver has open. Each step of the judge keeps this: a mark since it is
-- forced, an opening since a solver that is done has that cell open too. And some list of asks comes to that: the judge's openings, in the judge's order.
-- Rests on Runs and Solver. Assumes nothing.
use mathlib.Core.Path.{◌≡◌, ◌∙◌}
use mathlib.Core.Logic.{◌≢◌}
use mathlib.Core.Bool.{Bool, true}
use mathlib.Core.List.{List, [], ◌∷◌, ◌++◌}
use Prim.Native.Nat.{ℕ, ◌≤◌, ◌<◌}
use native.Mathlib.Omega.{arith}
use lib.ListN.{length, set, replicate}
use Rattle.lists.proofs.Elements.{set_all, replicate_all}
use Rattle.grid.specs.Cells.{cell_of, shows}
use Rattle.fitting.specs.Layouts.{Fits, ForcedAmong}
use Rattle.fitting.specs.Boards.{own, Accepted}
use Rattle.fitting.specs.Solver.{first, ask_among, solved_among, DoneAmong}
use Rattle.fitting.proofs.Layouts.{open_free, fits_opened, fits_marked, fits_blank}
use Rattle.fitting.proofs.Own.{fit_length, open_safe}
use Rattle.fitting.proofs.Runs.{Run, start, opens, mine}
use Rattle.fitting.proofs.Solver.{asks_append, SolverPosition, ask_keeps, solver_first, solver_ask, solver_asks, ask_opens, open_more}

pub record Covers (near : ℕ → List ℕ) (also : List Bool → Bool) (p q : List ℕ) : Type 0 where
  pub finer : (m : List Bool) → Fits near p m → also m ≡ true → Fits near q m
  pub more : (c : ℕ) → shows q c ≤ 8 → shows p c ≤ 8

module _ (near : ℕ → List ℕ) (also : List Bool → Bool) (b : List ℕ) (ok : Accepted near b) (own_passes : also (own b) ≡ true) where
  -- it is kept when the judge opens a cell that the solver has open
  pub covers_opened : (p q : List ℕ) → Fits near p (own b) → Covers near also p q → (c : ℕ) → shows p c ≤ 8 → Covers near also p (set q c (cell_of b c))
  covers_opened p q fit h c o = record {
    finer = λ m f t. fits_opened near q m (h.finer m f t) c (cell_of b c) (omega (arith, same)) (open_free near p m f c o) (f.number c o ∙ same);
    more = set_all (λ d v. v ≤ 8 → shows p d ≤ 8) q 255 c (cell_of b c) (λ _. o) h.more;
  }
    where
      same : shows p c ≡ cell_of b c
      same = (open_safe near b ok p fit c o).2

  -- it is kept when the judge marks a mine that is forced
  pub covers_marked : (p q : List ℕ) → Covers near also p q → (c : ℕ) → ForcedAmong near also q c true → Covers near also p (set q c 11)
  covers_marked p q h c t = record {
    finer = λ m f u. fits_marked near q m (h.finer m f u) c (t m (h.finer m f u) u);
    more = set_all (λ d v. v ≤ 8 → shows p d ≤ 8) q 255 c 11 (λ k. absurd (omega arith)) h.more;
  }

  module _ (s : ℕ) (p : List ℕ) (sol : SolverPosition near b s p) where
    -- it holds when the judge has opened the start only
    pub covers_first : Covers near also p (first b s)
    covers_first = covers_opened p (replicate (length b) 10) sol.fit (record {
      finer = λ m f _. fits_blank near (length b) m (f.sized ∙ fit_length near b p sol.fit);
      more = replicate_all (λ c v. v ≤ 8 → shows p c ≤ 8) (length b) 10 255 (λ c l o. absurd (omega arith)) (λ c l o. absurd (omega arith));
    }) s sol.begun

    -- a solver that is done covers every position of a run
    pub done_covers : DoneAmong near also b p → {q : List ℕ} → Run near also b (first b s) q → Covers near also p q
    done_covers done start = covers_first
    done_covers done (opens {q = q} c r l h) =
        let k = done_covers done r in
        covers_opened p q sol.fit k c (rw (done c) at (ask_opens near also b ok own_passes s p sol c l (λ m f t. h m (k.finer m f t) t)))
    done_covers done (mine {q = q} c r h) = covers_marked p q (done_covers done r) c h

    -- the position after an ask
    asked : (c : ℕ) → SolverPosition near b s (ask_among near also b p c)
    asked = solver_ask near also b ok own_passes s p sol

    -- it is kept by an ask
    pub covers_ask : (q : List ℕ) → Covers near also p q → (c : ℕ) → Covers near also (ask_among near also b p c) q
    covers_ask q h c = record {
      finer = λ m f. h.finer m (open_more near b ok s p (ask_among near also b p c) sol (asked c).fit (ask_keeps near also b p c) m f);
      more = λ d o. ask_keeps near also b p c d (h.more d o);
    }

  -- some list of asks covers a run: its openings, in its order
  pub asks_cover : (s : ℕ) → s < length b → cell_of b s ≢ 255 → {q : List ℕ} → Run near also b (first b s) q
      → (cs : List ℕ) × Covers near also (solved_among near also b s cs) q
  asks_cover s l n start = ([], covers_first s (first b s) (solver_first near b ok s l n))
  asks_cover s l n (opens {q = q} c r on h) =
      let (cs, k) = asks_cover s l n r in
      let p = solved_among near also b s cs in
      let sol = solver_asks near also b ok own_passes s (first b s) (solver_first near b ok s l n) cs in
      let o = ask_opens near also b ok own_passes s p sol c on (λ m f t. h m (k.finer m f t) t) in
      (cs ++ (c ∷ []), rw asks_append (covers_opened (ask_among near also b p c) q (asked s p sol c).fit (covers_ask s p sol q k c) c o))
  asks_cover s l n (mine {q = q} c r h) = let (cs, k) = asks_cover s l n r in (cs, covers_marked (solved_among near also b s cs) q k c h)
