-- The verdict's passes over a rule that is sound and complete are a judged run, so demand 3 holds of `judge`, whatever else the rule is, and for any test on
-- layouts that the board's own passes; on a plain board every layout does. What each pass keeps, the ending has (`passes_keep`): so the own layout fits
-- wherever the passes come to, rounds never exceed the cells, and the grade is one that the rule gives, or 0 without a round.
-- Rests on Steps and Confluence. Assumes nothing.
use mathlib.Core.Path.{◌≡◌, refl, sym, ◌∙◌}
use mathlib.Core.Logic.{◌⊎◌, inl, inr, ◌≢◌, ◌↔◌}
use mathlib.Core.Bool.{Bool, true, false, ◌||◌}
use mathlib.Core.List.{List}
use Prim.Native.Nat.{ℕ, zero, suc, ◌+◌, ◌≤◌, ◌<◌, max}
use native.Mathlib.Omega.{arith}
use native.Mathlib.Nat.{le-max_right, max-eq_left, max-eq_right}
use lib.ListN.{length}
use lib.Dec.{leb, eqb}
use borrow.Author.Tests.{eqb-false, ne_eqb, leb-true, leb-false, le-leb}
use Rattle.lists.proofs.Tests.{Decided, decided, clash, every_at, every_of}
use Rattle.lists.proofs.Counts.{count_le}
use Rattle.grid.specs.Cells.{cell_of, shows}
use Rattle.fitting.specs.Layouts.{Fits, any_layout}
use Rattle.fitting.specs.Boards.{own, Accepted, AllOpen}
use Rattle.fitting.specs.Solver.{first}
use Rattle.fitting.specs.Demand.{picture, opened, Demand3, Demand3Among}
use Rattle.fitting.specs.Passes.{GradedCells, nothing, pass, all_open, Ending, passes, judge}
use Rattle.fitting.specs.Rules.{Sound, Complete, SoundAmong, CompleteAmong}
use Rattle.fitting.proofs.Layouts.{on_board}
use Rattle.fitting.proofs.Own.{fit_length, first_own}
use Rattle.fitting.proofs.Runs.{Run, Stuck, run_join, run_own}
use Rattle.fitting.proofs.Steps.{beginning, closed, closed_less, begin_run, pass_run, pass_less}
use Rattle.fitting.proofs.Rules.{sound_among, complete_among_any}
use Rattle.fitting.proofs.Confluence.{demand_3, demand_3_unique}

-- the test `all_open` passes exactly where all safe cells are open
pub all_open_at : (b p : List ℕ) → all_open b p ≡ true → AllOpen b p
unfolding all_open
all_open_at b p h c l n =
    leb-true (shows p c) 8 (rw (ne_eqb (cell_of b c) 255 n) at (every_at (length b) (λ d. eqb (cell_of b d) 255 || leb (shows p d) 8) h c l))

pub all_open_of : (b p : List ℕ) → AllOpen b p → all_open b p ≡ true
unfolding all_open
all_open_of b p h = every_of (length b) (λ d. eqb (cell_of b d) 255 || leb (shows p d) 8) (λ c l. go c l (decided (eqb (cell_of b c) 255)))
  where
    go : (c : ℕ) → c < length b → Decided (eqb (cell_of b c) 255) → (eqb (cell_of b c) 255 || leb (shows p c) 8) ≡ true
    go c l (inl e) = rw e
    go c l (inr e) = rw e (le-leb (shows p c) 8 (h c l (eqb-false (cell_of b c) 255 e)))

-- ---- the board's own layout fits at each pass, so that no rule meets a contradiction on the way

-- it fits where the passes begin
pub begin_own : (near : ℕ → List ℕ) (b : List ℕ) (s : ℕ) → Accepted near b → s < length b → cell_of b s ≢ 255
    → Fits near (beginning near b s) (own b)
begin_own near b s ok l n = run_own near any_layout b ok refl (first_own near b ok s l n) (begin_run near any_layout b ok refl s l n)

-- no more are closed there than there are cells
begin_closed : (near : ℕ → List ℕ) (b : List ℕ) (s : ℕ) → Accepted near b → s < length b → cell_of b s ≢ 255 → closed (beginning near b s) ≤ length b
begin_closed near b s ok l n =
    omega (arith, count_le (λ v. eqb v 10) (beginning near b s), fit_length near b (beginning near b s) (begin_own near b s ok l n))

-- and it fits after a pass, if it did before
pub pass_own : (near : ℕ → List ℕ) (also : List Bool → Bool) (b : List ℕ) (rule : List ℕ → GradedCells) (p : List ℕ) → Accepted near b
    → also (own b) ≡ true → SoundAmong near also b rule → Fits near p (own b) → Fits near (pass near b p (rule p)) (own b)
pass_own near also b rule p ok own_passes sound fit =
    run_own near also b ok own_passes fit (pass_run near also b ok own_passes rule sound p fit)

-- ---- how the passes end

-- the ending of a pass that finds a cell and of at most k passes more
abbrev pub passes_on : (ℕ → List ℕ) → List ℕ → (List ℕ → GradedCells) → ℕ → List ℕ → ℕ → ℕ → Ending
passes_on near b rule k p grade rounds = passes near b rule k (pass near b p (rule p)) (max grade (rule p).grade) (rounds + 1)

-- the passes are at their end: all safe cells are open or the judge is stuck, and the answer says which
abbrev Ended : (ℕ → List ℕ) → (List Bool → Bool) → List ℕ → Ending → Type 0
Ended near also b e = (AllOpen b e.position ⊎ Stuck near also e.position) × ((e.yes ≡ true) ↔ AllOpen b e.position)

-- as many passes as there are closed cells are enough for that
passes_end : (near : ℕ → List ℕ) (also : List Bool → Bool) (b : List ℕ) (rule : List ℕ → GradedCells) → Accepted near b → also (own b) ≡ true
    → SoundAmong near also b rule → CompleteAmong near also b rule
    → (k : ℕ) (p : List ℕ) (grade rounds : ℕ) → Fits near p (own b) → closed p ≤ k → Ended near also b (passes near b rule k p grade rounds)
passes_end near also b rule ok own_passes sound complete zero p grade rounds fit h = (
  inr (λ c e. absurd (omega (arith, closed_less p c 0 e (on_board p c (omega arith)) (omega arith)))),
  (all_open_at b p, all_open_of b p),
)
passes_end near also b rule ok own_passes sound complete (suc k) p grade rounds fit h =
    go (decided (all_open b p)) (decided (nothing (rule p)))
    (λ e. passes_end near also b rule ok own_passes sound complete k (pass near b p (rule p)) (max grade (rule p).grade) (rounds + 1)
    (pass_own near also b rule p ok own_passes sound fit) (omega (arith, pass_less near also b ok own_passes rule sound p fit e)))
  where
    go : Decided (all_open b p) → Decided (nothing (rule p)) → (nothing (rule p) ≡ false → Ended near also b (passes_on near b rule k p grade rounds))
        → Ended near also b (passes near b rule (suc k) p grade rounds)
    go (inl a) e later = rw a (inl (all_open_at b p a), (λ _. all_open_at b p a, λ _. refl))
    go (inr a) (inl e) later =
        rw (a, e) (inr (complete.witness p fit e), (λ x. clash true refl (sym x), λ x. sym (sym (all_open_of b p x) ∙ a)))
    go (inr a) (inr e) later = rw (a, e) (later e)

-- a claim about a position, a grade and rounds is kept by each pass that finds a cell
abbrev pub Keeps : (ℕ → List ℕ) → List ℕ → (List ℕ → GradedCells) → (List ℕ → ℕ → ℕ → Type 0) → Type 0
Keeps near b rule Claim = (p : List ℕ) (grade rounds : ℕ) → nothing (rule p) ≡ false → Claim p grade rounds
    → Claim (pass near b p (rule p)) (max grade (rule p).grade) (rounds + 1)

-- the claim, of an ending
abbrev pub AtEnd : (List ℕ → ℕ → ℕ → Type 0) → Ending → Type 0
AtEnd Claim e = Claim e.position e.grade e.rounds

-- what each pass keeps, the ending has
pub passes_keep : (near : ℕ → List ℕ) (b : List ℕ) (rule : List ℕ → GradedCells) (Claim : List ℕ → ℕ → ℕ → Type 0) → Keeps near b rule Claim
    → (k : ℕ) (p : List ℕ) (grade rounds : ℕ) → Claim p grade rounds → AtEnd Claim (passes near b rule k p grade rounds)
passes_keep near b rule Claim keeps zero p grade rounds h = h
passes_keep near b rule Claim keeps (suc k) p grade rounds h =
    go (decided (all_open b p)) (decided (nothing (rule p)))
    (λ e. passes_keep near b rule Claim keeps k (pass near b p (rule p)) (max grade (rule p).grade) (rounds + 1) (keeps p grade rounds e h))
  where
    go : Decided (all_open b p) → Decided (nothing (rule p)) → (nothing (rule p) ≡ false → AtEnd Claim (passes_on near b rule k p grade rounds))
        → AtEnd Claim (passes near b rule (suc k) p grade rounds)
    go (inl a) e later = rw a h
    go (inr a) (inl e) later = rw (a, e) h
    go (inr a) (inr e) later = rw (a, e) (later e)

-- the board's own layout fits where the passes end
pub judge_own : (near : ℕ → List ℕ) (also : List Bool → Bool) (b : List ℕ) (rule : List ℕ → GradedCells) (s : ℕ) → Accepted near b
    → also (own b) ≡ true → s < length b → cell_of b s ≢ 255 → SoundAmong near also b rule → Fits near (judge near b rule s).position (own b)
unfolding judge
judge_own near also b rule s ok own_passes l n sound =
    passes_keep near b rule (λ p _ _. Fits near p (own b)) (λ p _ _ _ fit. pass_own near also b rule p ok own_passes sound fit)
    (length b) (beginning near b s) 0 0 (begin_own near b s ok l n)

-- ---- demand 3

-- demand 3 of the passes over any rule that is sound and complete for the layouts that pass a test, if the board's own layout passes it
pub judge_demand_3_among : (near : ℕ → List ℕ) (also : List Bool → Bool) (b : List ℕ) (rule : List ℕ → GradedCells) (s : ℕ) → Accepted near b
    → also (own b) ≡ true → s < length b → cell_of b s ≢ 255 → SoundAmong near also b rule → CompleteAmong near also b rule
    → Demand3Among near also b s (judge near b rule s).yes (opened (judge near b rule s).position) (picture (judge near b rule s).position)
unfolding judge
judge_demand_3_among near also b rule s ok own_passes l n sound complete =
    let p = beginning near b s in
    let fit = first_own near b ok s l n in
    let begun = begin_own near b s ok l n in
    let (ends, verdict) = passes_end near also b rule ok own_passes sound complete (length b) p 0 0 begun (begin_closed near b s ok l n) in
    demand_3 near also b s (passes near b rule (length b) p 0 0).position (passes near b rule (length b) p 0 0).yes ok own_passes l n (record {
      run = passes_keep near b rule (λ q _ _. Run near also b (first b s) q)
          (λ q _ _ _ r. run_join near also b r (pass_run near also b ok own_passes rule sound q (run_own near also b ok own_passes fit r)))
          (length b) p 0 0 (begin_run near also b ok own_passes s l n);
      ends = ends;
      verdict = verdict;
    })

-- and on a plain board, of any rule that is sound and complete
pub judge_demand_3 : (near : ℕ → List ℕ) (b : List ℕ) (rule : List ℕ → GradedCells) (s : ℕ) → Accepted near b → s < length b → cell_of b s ≢ 255
    → Sound near b rule → Complete near b rule
    → Demand3 near b s (judge near b rule s).yes (opened (judge near b rule s).position) (picture (judge near b rule s).position)
judge_demand_3 near b rule s ok l n sound complete =
    judge_demand_3_among near any_layout b rule s ok refl l n (sound_among near any_layout b rule sound) (complete_among_any near b rule complete)

-- so what the rules are, and in what order they find cells, makes no difference to verdict, count and picture
pub rules_agree : (near : ℕ → List ℕ) (also : List Bool → Bool) (b : List ℕ) (rule other : List ℕ → GradedCells) (s : ℕ) → Accepted near b
    → also (own b) ≡ true → s < length b → cell_of b s ≢ 255
    → SoundAmong near also b rule → CompleteAmong near also b rule → SoundAmong near also b other → CompleteAmong near also b other
    → ((judge near b rule s).yes ≡ (judge near b other s).yes)
    × (opened (judge near b rule s).position ≡ opened (judge near b other s).position)
    × (picture (judge near b rule s).position ≡ picture (judge near b other s).position)
rules_agree near also b rule other s ok own_passes l n sound complete sound_other complete_other =
    demand_3_unique near also b s (judge near b rule s).yes (judge near b other s).yes
    (opened (judge near b rule s).position) (opened (judge near b other s).position)
    (picture (judge near b rule s).position) (picture (judge near b other s).position)
    (judge_demand_3_among near also b rule s ok own_passes l n sound complete)
    (judge_demand_3_among near also b other s ok own_passes l n sound_other complete_other)

-- ---- rounds and grade

-- each round leaves fewer closed cells, so that rounds never exceed the cells
pub rounds_cells : (near : ℕ → List ℕ) (also : List Bool → Bool) (b : List ℕ) (rule : List ℕ → GradedCells) (s : ℕ) → Accepted near b
    → also (own b) ≡ true → s < length b → cell_of b s ≢ 255 → SoundAmong near also b rule → (judge near b rule s).rounds ≤ length b
unfolding judge
rounds_cells near also b rule s ok own_passes l n sound = omega (arith, kept.1)
  where
    Few : List ℕ → ℕ → ℕ → Type 0
    Few p grade rounds = Fits near p (own b) × (rounds + closed p ≤ length b)

    next : Keeps near b rule Few
    next p grade rounds e (fit, few) =
        (pass_own near also b rule p ok own_passes sound fit, omega (arith, pass_less near also b ok own_passes rule sound p fit e, few))

    kept : AtEnd Few (passes near b rule (length b) (beginning near b s) 0 0)
    kept = passes_keep near b rule Few next (length b) (beginning near b s) 0 0 (begin_own near b s ok l n, omega (arith, begin_closed near b s ok l n))

-- the greater of two numbers is one of them
max_either : (P : ℕ → Type 0) (m n : ℕ) → P m → P n → P (max m n)
max_either P m n left right = go (decided (leb m n))
  where
    go : Decided (leb m n) → P (max m n)
    go (inl e) = rw (max-eq_right (leb-true m n e)) right
    go (inr e) = rw (max-eq_left {n = m} {m = n} (omega (arith, leb-false m n e))) left

-- the grade is 0 or one with which the rule finds a cell: what holds of these holds of it
pub grade_of_a_rule : (near : ℕ → List ℕ) (b : List ℕ) (rule : List ℕ → GradedCells) (s : ℕ) (P : ℕ → Type 0)
    → P 0 → ((p : List ℕ) → nothing (rule p) ≡ false → P (rule p).grade) → P (judge near b rule s).grade
unfolding judge
grade_of_a_rule near b rule s P none found =
    passes_keep near b rule (λ _ grade _. P grade) (λ p grade _ e h. max_either P grade (rule p).grade h (found p e))
    (length b) (beginning near b s) 0 0 none

-- and it is 0 exactly where no pass found a cell, if the rule finds none with the grade 0
pub grade_zero : (near : ℕ → List ℕ) (b : List ℕ) (rule : List ℕ → GradedCells) (s : ℕ)
    → ((p : List ℕ) → nothing (rule p) ≡ false → 1 ≤ (rule p).grade) → ((judge near b rule s).grade ≡ 0) ↔ ((judge near b rule s).rounds ≡ 0)
unfolding judge
grade_zero near b rule s h =
    passes_keep near b rule (λ _ grade rounds. (grade ≡ 0) ↔ (rounds ≡ 0))
    (λ p grade rounds e _. (λ none. absurd (omega (arith, le-max_right grade (rule p).grade, h p e, none)), λ none. absurd (omega (arith, none))))
    (length b) (beginning near b s) 0 0 (λ e. e, λ e. e)
