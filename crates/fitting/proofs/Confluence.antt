-- Demand 3, of every judge whose run is as `Judged` says, whatever its rules and their order: after any list of asks the picture shows what the solver has
-- open (Within), and a solver that is done shows the picture (Covers). Demand 3 leaves no choice: two answers that meet it are equal. All this is so for
-- any test on layouts that the board's own layout passes. Assumes nothing.
use mathlib.Core.Path.{◌≡◌, sym, ap, ◌∙◌}
use mathlib.Core.Logic.{inl, inr, ◌≢◌}
use mathlib.Core.Bool.{Bool, true}
use mathlib.Core.List.{List}
use Prim.Native.Nat.{ℕ, ◌≤◌, ◌<◌}
use native.Mathlib.Omega.{arith}
use lib.ListN.{length}
use lib.Seq.{ext_get_or}
use Rattle.lists.proofs.Tests.{same_test}
use Rattle.grid.specs.Cells.{cell_of, shows}
use Rattle.fitting.specs.Layouts.{Fits}
use Rattle.fitting.specs.Boards.{own, Accepted}
use Rattle.fitting.specs.Solver.{first, solved_among, DoneAmong}
use Rattle.fitting.specs.Demand.{picture, opened, Demand3Among}
use Rattle.fitting.proofs.Own.{fit_length, first_own, open_safe}
use Rattle.fitting.proofs.Runs.{Judged, Plain, Kind, run_own, run_open, run_kind}
use Rattle.fitting.proofs.Solver.{SolverPosition, solver_first, solver_asks}
use Rattle.fitting.proofs.Covers.{done_covers, asks_cover}
use Rattle.fitting.proofs.Within.{within_asks, within_done}
use Rattle.fitting.proofs.Pictures.{picture_length, picture_open, picture_shut, open_picture, opened_picture}

module _ (near : ℕ → List ℕ) (also : List Bool → Bool) (b : List ℕ) (ok : Accepted near b) (own_passes : also (own b) ≡ true) (s : ℕ) (on : s < length b)
    (safe : cell_of b s ≢ 255) (q : List ℕ) (v : Bool) (j : Judged near also b s q v) where
  -- the board's own layout fits the judge's last position, and each cell of it is of one of the kinds of a run
  fit : Fits near q (own b)
  fit = run_own near also b ok own_passes (first_own near b ok s on safe) j.run

  kind : (c : ℕ) → Kind b c (shows q c)
  kind = run_kind near also b ok own_passes (first_own near b ok s on safe) (λ c. inl ((solver_first near b ok s on safe).plain c)) j.run

  -- after any list of asks: what holds of the solver's position, and what it has open the judge has open
  solver_at : (cs : List ℕ) → SolverPosition near b s (solved_among near also b s cs)
  solver_at cs = solver_asks near also b ok own_passes s (first b s) (solver_first near b ok s on safe) cs

  within : (cs : List ℕ) (c : ℕ) → shows (solved_among near also b s cs) c ≤ 8 → shows q c ≤ 8
  within cs = within_asks near also b ok own_passes s q fit kind j.ends (first b s) (solver_first near b ok s on safe)
      (run_open near also b ok own_passes (first_own near b ok s on safe) j.run) cs

  -- the picture shows what the solver has open
  same_number : (cs : List ℕ) (c : ℕ) → shows (solved_among near also b s cs) c ≤ 8 → shows (picture q) c ≡ shows (solved_among near also b s cs) c
  same_number cs c o =
      let w = within cs c o in
      picture_open q c w ∙ (open_safe near b ok q fit c w).2 ∙ sym (open_safe near b ok (solved_among near also b s cs) (solver_at cs).fit c o).2

  -- a solver that is done shows the picture
  same_picture : (cs : List ℕ) → DoneAmong near also b (solved_among near also b s cs) → solved_among near also b s cs ≡ picture q
  same_picture cs done = ext_get_or 255 p (picture q) (long ∙ sym (fit_length near b q fit) ∙ sym (picture_length q))
      (λ c l. cell c (omega (arith, long)) ((solver_at cs).plain c))
    where
      p : List ℕ
      p = solved_among near also b s cs

      long : length p ≡ length b
      long = fit_length near b p (solver_at cs).fit

      back : (c : ℕ) → shows q c ≤ 8 → shows p c ≤ 8
      back = (done_covers near also b ok own_passes s p (solver_at cs) done j.run).more

      cell : (c : ℕ) → c < length b → Plain b c (shows p c) → shows p c ≡ shows (picture q) c
      cell c l (inl o) = sym (same_number cs c o)
      cell c l (inr (inl e)) = e ∙ sym (picture_shut q c (omega (arith, fit_length near b q fit)) (λ o. absurd (omega (arith, back c o))))
      cell c l (inr (inr k)) = absurd (omega arith)

  -- some list of asks comes to that
  comes_to_an_end : (cs : List ℕ) × DoneAmong near also b (solved_among near also b s cs)
  comes_to_an_end =
      let (cs, k) = asks_cover near also b ok own_passes s on safe j.run in
      (cs, within_done near also b ok own_passes s q fit kind j.ends (solved_among near also b s cs) (solver_at cs) (within cs) k.more)

-- demand 3 of every judged run: its answer, the count of its open cells, and its picture
pub demand_3 : (near : ℕ → List ℕ) (also : List Bool → Bool) (b : List ℕ) (s : ℕ) (q : List ℕ) (v : Bool) → Accepted near b → also (own b) ≡ true
    → s < length b → cell_of b s ≢ 255 → Judged near also b s q v → Demand3Among near also b s v (opened q) (picture q)
demand_3 near also b s q v ok own_passes on safe j = record {
  within = same_number near also b ok own_passes s on safe q v j;
  same = λ cs d. (same cs d, sym (opened_picture q) ∙ sym (ap opened (same cs d)));
  ends = comes_to_an_end near also b ok own_passes s on safe q v j;
  verdict = (λ e c l n. let o = j.verdict.0 e c l n in rw (picture_open q c o) o, λ h. j.verdict.1 (λ c l n. open_picture q c (h c l n)));
}
  where
    same : (cs : List ℕ) → DoneAmong near also b (solved_among near also b s cs) → solved_among near also b s cs ≡ picture q
    same = same_picture near also b ok own_passes s on safe q v j

-- two answers that meet demand 3 are equal in verdict, count and picture
pub demand_3_unique : (near : ℕ → List ℕ) (also : List Bool → Bool) (b : List ℕ) (s : ℕ) (v w : Bool) (n m : ℕ) (p q : List ℕ)
    → Demand3Among near also b s v n p → Demand3Among near also b s w m q → (v ≡ w) × (n ≡ m) × (p ≡ q)
demand_3_unique near also b s v w n m p q f g = (
  same_test v w (λ e. g.verdict.1 (rw same at (f.verdict.0 e))) (λ e. f.verdict.1 (rw (← same) at (g.verdict.0 e))),
  (f.same cs done).1 ∙ sym (g.same cs done).1,
  same,
)
  where
    cs : List ℕ
    cs = f.ends.0

    done : DoneAmong near also b (solved_among near also b s cs)
    done = f.ends.1

    same : p ≡ q
    same = sym (f.same cs done).0 ∙ (g.same cs done).0
