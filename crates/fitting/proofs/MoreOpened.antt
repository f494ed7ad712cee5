-- The fewer layouts pass, the more is opened. Where every layout that passes the test `strict` passes the test `also`, a solver that goes by the strict one
-- has open, after the same asks, all that the other has. So an answer that meets demand 3 with the strict test shows all that an answer with the other shows,
-- and is yes where that is. Rests on Solver. Assumes nothing.
use mathlib.Core.Path.{◌≡◌, sym, ap, ◌∙◌}
use mathlib.Core.Logic.{inl, inr, ◌≢◌}
use mathlib.Core.Bool.{Bool, true, false}
use mathlib.Core.List.{List, [], ◌∷◌}
use Prim.Native.Nat.{ℕ, ◌≤◌, ◌<◌}
use native.Mathlib.Omega.{arith}
use lib.ListN.{length}
use lib.Dec.{leb}
use borrow.Author.Tests.{leb-true, le-leb}
use Rattle.lists.specs.Lists.{range}
use Rattle.lists.proofs.Elements.{set_all}
use Rattle.lists.proofs.CountsAlike.{counts_implied}
use Rattle.lists.proofs.PlacesAndRanges.{count_places}
use Rattle.grid.specs.Cells.{cell_of, shows}
use Rattle.fitting.specs.Layouts.{Fits, ForcedAmong}
use Rattle.fitting.specs.Boards.{own, Accepted}
use Rattle.fitting.specs.Solver.{first, ask_among, asks_among, solved_among}
use Rattle.fitting.specs.Demand.{opened, Demand3Among}
use Rattle.fitting.proofs.Own.{fit_length, fit_on, open_safe}
use Rattle.fitting.proofs.Solver.{SolverPosition, Asked, ask_cases, ask_keeps, solver_first, solver_ask, solver_asks, ask_opens, open_more}

-- what the one position has open the other has open
abbrev More : List ℕ → List ℕ → Type 0
More p q = (c : ℕ) → shows p c ≤ 8 → shows q c ≤ 8

-- so no fewer cells are open in it
opened_more : (p q : List ℕ) → length p ≡ length q → More p q → opened p ≤ opened q
opened_more p q long w =
    let more = counts_implied (λ (i : ℕ). leb (shows p i) 8) (λ (i : ℕ). leb (shows q i) 8)
    (λ c o. le-leb (shows q c) 8 (w c (leb-true (shows p c) 8 o))) (range 0 (length p)) in
    omega (arith, more, count_places (λ (v : ℕ). leb v 8) p 255, rw (← long) at (count_places (λ (v : ℕ). leb v 8) q 255))

module _ (near : ℕ → List ℕ) (also strict : List Bool → Bool) (stricter : (m : List Bool) → strict m ≡ true → also m ≡ true)
    (b : List ℕ) (ok : Accepted near b) (own_passes : strict (own b) ≡ true) (s : ℕ) where
  -- an ask keeps it: what the one may open, the other may
  more_ask : (p q : List ℕ) → SolverPosition near b s p → SolverPosition near b s q → More p q
      → (c : ℕ) → More (ask_among near also b p c) (ask_among near strict b q c)
  more_ask p q sol_p sol_q w c = go (ask_cases near also b p c)
    where
      kept : More p (ask_among near strict b q c)
      kept d o = ask_keeps near strict b q c d (w d o)

      go : Asked near also b p c → More (ask_among near also b p c) (ask_among near strict b q c)
      go (inl same) = rw same kept
      go (inr (new, shut, h)) =
          let on = fit_on near b p sol_p.fit c (omega arith) in
          let free : ForcedAmong near strict q c false = (λ m f t. h m (open_more near b ok s p q sol_p sol_q.fit w m f) (stricter m t)) in
          rw new
          (set_all (λ d v. v ≤ 8 → shows (ask_among near strict b q c) d ≤ 8) p 255 c (cell_of b c)
          (λ _. ask_opens near strict b ok own_passes s q sol_q c on free) kept)

  -- and so does any list of asks
  more_asks : (p q : List ℕ) → SolverPosition near b s p → SolverPosition near b s q → More p q
      → (cs : List ℕ) → More (asks_among near also b p cs) (asks_among near strict b q cs)
  more_asks p q sol_p sol_q w [] = w
  more_asks p q sol_p sol_q w (c ∷ cs) =
      more_asks (ask_among near also b p c) (ask_among near strict b q c) (solver_ask near also b ok (stricter (own b) own_passes) s p sol_p c)
      (solver_ask near strict b ok own_passes s q sol_q c) (more_ask p q sol_p sol_q w c) cs

  -- each cell that the one picture shows open the other shows open with the same number, a yes stays a yes, and no fewer cells are opened
  pub more_opened : s < length b → cell_of b s ≢ 255 → (v w : Bool) (n k : ℕ) (p q : List ℕ)
      → Demand3Among near also b s v n p → Demand3Among near strict b s w k q
      → ((c : ℕ) → shows p c ≤ 8 → shows q c ≡ shows p c) × (v ≡ true → w ≡ true) × (n ≤ k)
  more_opened l safe v w n k p q f g = (shown, λ yes_p. g.verdict.1 (λ c on x. let o = f.verdict.0 yes_p c on x in rw (shown c o) o), fewer)
    where
      cs : List ℕ
      cs = f.ends.0

      ds : List ℕ
      ds = g.ends.0

      begun : SolverPosition near b s (first b s)
      begun = solver_first near b ok s l safe

      -- the two solvers, where they are done, and the second after the asks of the first
      is_p : solved_among near also b s cs ≡ p
      is_p = (f.same cs f.ends.1).0

      is_q : solved_among near strict b s ds ≡ q
      is_q = (g.same ds g.ends.1).0

      fit_p : Fits near p (own b)
      fit_p = rw is_p at (solver_asks near also b ok (stricter (own b) own_passes) s (first b s) begun cs).fit

      fit_q : Fits near q (own b)
      fit_q = rw is_q at (solver_asks near strict b ok own_passes s (first b s) begun ds).fit

      fit_between : Fits near (solved_among near strict b s cs) (own b)
      fit_between = (solver_asks near strict b ok own_passes s (first b s) begun cs).fit

      between : More p (solved_among near strict b s cs)
      between = rw is_p at (more_asks (first b s) (first b s) begun begun (λ c o. o) cs)

      shown : (c : ℕ) → shows p c ≤ 8 → shows q c ≡ shows p c
      shown c o =
          g.within cs c (between c o) ∙ (open_safe near b ok (solved_among near strict b s cs) fit_between c (between c o)).2
          ∙ sym (open_safe near b ok p fit_p c o).2

      fewer : n ≤ k
      fewer =
          let here : n ≡ opened p = (f.same cs f.ends.1).1 ∙ ap opened is_p in
          let there : k ≡ opened q = (g.same ds g.ends.1).1 ∙ ap opened is_q in
          omega (arith, here, there, opened_more p q (fit_length near b p fit_p ∙ sym (fit_length near b q fit_q)) (λ c o. rw (shown c o) o))
