-- What the round of a cell tells. One law says all of it: a cell has a round of at most k exactly where it is open after at most k passes (`round_at_most`), since what
-- is open stays open (`stays_open`). So a cell has a round exactly where it is open in the end, no round is above the number of rounds, round 0 is the start's
-- flood, and what the last pass opened has the last round (`round_tells`). Rests on Passes of the crate fitting. Assumes nothing.
use mathlib.Core.Path.{◌≡◌, refl, sym, ◌∙◌}
use mathlib.Core.Logic.{inl, inr, ◌≢◌, ◌↔◌}
use mathlib.Core.Bool.{Bool, true, false, cond, ◌||◌, or-false}
use mathlib.Core.List.{List, [], ◌∷◌}
use Prim.Native.Nat.{ℕ, zero, suc, ◌+◌, ◌≤◌, ◌<◌, max}
use native.Mathlib.Omega.{arith}
use lib.ListN.{length}
use borrow.Author.Tests.{leb-true, le-leb}
use Rattle.lists.specs.Lists.{any, first_place}
use Rattle.lists.proofs.Tests.{Decided, decided, clash}
use Rattle.grid.specs.Cells.{cell_of, shows}
use Rattle.fitting.specs.Layouts.{Fits}
use Rattle.fitting.specs.Boards.{own, Accepted}
use Rattle.fitting.specs.Passes.{GradedCells, nothing, pass, all_open, passes, judge}
use Rattle.fitting.specs.Rules.{SoundAmong}
use Rattle.fitting.specs.Demand.{picture}
use Rattle.fitting.proofs.Runs.{run_open}
use Rattle.fitting.proofs.Steps.{beginning, pass_run}
use Rattle.fitting.proofs.Passes.{begin_own, pass_own, passes_keep}
use Rattle.fitting.proofs.Pictures.{picture_open, open_picture}
use Rattle.rounds.specs.Rounds.{positions, open_at, round_of}

-- ---- the first open one of some positions

-- a cell that has a round is open in one of them
round_opened : (ps : List (List ℕ)) (c : ℕ) → round_of ps c ≢ 65535 → any (open_at c) ps ≡ true
round_opened ps c has = go (decided (any (open_at c) ps))
  where
    go : Decided (any (open_at c) ps) → any (open_at c) ps ≡ true
    go (inl a) = a
    go (inr a) = absurd (has (rw a))

-- round 0 is the first position
round_zero : (p : List ℕ) (ps : List (List ℕ)) (c : ℕ) → (round_of (p ∷ ps) c ≤ 0) ↔ (any (open_at c) (p ∷ []) ≡ true)
round_zero p ps c = go (decided (open_at c p)) (any (open_at c) ps)
  where
    go : Decided (open_at c p) → (later : Bool)
        → (cond (open_at c p || later) (cond (open_at c p) 0 (suc (first_place (open_at c) ps))) 65535 ≤ 0) ↔ (any (open_at c) (p ∷ []) ≡ true)
    go (inl o) later = rw o (λ _. refl, λ _. omega arith)
    go (inr o) true = rw o (λ few. absurd (omega arith), λ e. clash false e refl)
    go (inr o) false = rw o (λ few. absurd (omega arith), λ e. clash false e refl)

-- one position more in front
round_later : (p : List ℕ) (ps qs : List (List ℕ)) (c k : ℕ) → suc k < 65535 → (round_of ps c ≤ k) ↔ (any (open_at c) qs ≡ true)
    → (round_of (p ∷ ps) c ≤ suc k) ↔ (any (open_at c) (p ∷ qs) ≡ true)
round_later p ps qs c k small same = go (decided (open_at c p)) (decided (any (open_at c) ps))
  where
    go : Decided (open_at c p) → Decided (any (open_at c) ps) → (round_of (p ∷ ps) c ≤ suc k) ↔ (any (open_at c) (p ∷ qs) ≡ true)
    go (inl o) a = rw o (λ _. refl, λ _. omega arith)
    go (inr o) (inl a) =
        let (to, from) : (first_place (open_at c) ps ≤ k) ↔ (any (open_at c) qs ≡ true) = rw a at same in
        rw (o, a) (λ few. to (omega arith), λ e. omega (arith, from e))
    go (inr o) (inr a) =
        let (to, from) : (65535 ≤ k) ↔ (any (open_at c) qs ≡ true) = rw a at same in
        rw (o, a) (λ few. absurd (omega arith), λ e. absurd (omega (arith, from e)))

module _ (near : ℕ → List ℕ) (b : List ℕ) (rule : List ℕ → GradedCells) where
  -- ---- the positions of some passes

  -- fewer passes come to the first of the positions of more
  pub round_among : (k n : ℕ) (p : List ℕ) (c : ℕ) → k ≤ n → k < 65535
      → (round_of (positions near b rule n p) c ≤ k) ↔ (any (open_at c) (positions near b rule k p) ≡ true)
  round_among zero zero p c within small = round_zero p [] c
  round_among zero (suc n) p c within small = go (all_open b p || nothing (rule p))
    where
      later : List (List ℕ)
      later = positions near b rule n (pass near b p (rule p))

      go : (t : Bool) → (round_of (cond t (p ∷ []) (p ∷ later)) c ≤ 0) ↔ (any (open_at c) (p ∷ []) ≡ true)
      go true = round_zero p [] c
      go false = round_zero p later c
  round_among (suc k) zero p c within small = absurd (omega arith)
  round_among (suc k) (suc n) p c within small =
      go (all_open b p || nothing (rule p)) (round_among k n (pass near b p (rule p)) c (omega arith) (omega arith))
    where
      next : ℕ → List (List ℕ)
      next j = positions near b rule j (pass near b p (rule p))

      go : (t : Bool) → (round_of (next n) c ≤ k) ↔ (any (open_at c) (next k) ≡ true)
          → (round_of (cond t (p ∷ []) (p ∷ next n)) c ≤ suc k) ↔ (any (open_at c) (cond t (p ∷ []) (p ∷ next k)) ≡ true)
      go true same = round_later p [] [] c k small (λ few. absurd (omega arith), λ e. clash false e refl)
      go false same = round_later p (next n) (next k) c k small same

  -- as many passes as there are rounds come to the end of more
  pub record Enough (n : ℕ) (p : List ℕ) (grade rounds : ℕ) : Type 0 where
    pub few : ℕ
    pub within : few ≤ n
    pub counted : (passes near b rule n p grade rounds).rounds ≡ rounds + few
    pub same_end : (passes near b rule few p grade rounds).position ≡ (passes near b rule n p grade rounds).position

  pub rounds_enough : (n : ℕ) (p : List ℕ) (grade rounds : ℕ) → Enough n p grade rounds
  rounds_enough zero p grade rounds = record { few = 0; within = omega arith; counted = omega arith; same_end = refl }
  rounds_enough (suc n) p grade rounds =
      go (decided (all_open b p)) (decided (nothing (rule p))) (rounds_enough n (pass near b p (rule p)) (max grade (rule p).grade) (rounds + 1))
    where
      go : Decided (all_open b p) → Decided (nothing (rule p)) → Enough n (pass near b p (rule p)) (max grade (rule p).grade) (rounds + 1)
          → Enough (suc n) p grade rounds
      go (inl a) e later = record { few = 0; within = omega arith; counted = rw a (omega arith); same_end = rw a }
      go (inr a) (inl e) later = record { few = 0; within = omega arith; counted = rw (a, e) (omega arith); same_end = rw (a, e) }
      go (inr a) (inr e) later = record {
        few = suc later.few;
        within = omega (arith, later.within);
        counted = rw (a, e) (omega (arith, later.counted));
        same_end = rw (a, e) later.same_end;
      }

  -- ---- what is open stays open

  module _ (also : List Bool → Bool) (ok : Accepted near b) (own_passes : also (own b) ≡ true) (sound : SoundAmong near also b rule) (c : ℕ) where
    pub stays_open : (k : ℕ) (p : List ℕ) (grade rounds : ℕ) → Fits near p (own b) → shows p c ≤ 8 → shows (passes near b rule k p grade rounds).position c ≤ 8
    stays_open k p grade rounds fit o =
        (passes_keep near b rule (λ q _ _. Fits near q (own b) × (shows q c ≤ 8))
        (λ q _ _ _ h. (pass_own near also b rule q ok own_passes sound h.0, run_open near also b ok own_passes h.0 (pass_run near also b ok own_passes rule sound q h.0) c h.1))
        k p grade rounds (fit, o)).1

    -- so a cell is open in one of the positions exactly where it is in the last
    pub open_in_one : (k : ℕ) (p : List ℕ) (grade rounds : ℕ) → Fits near p (own b)
        → any (open_at c) (positions near b rule k p) ≡ open_at c (passes near b rule k p grade rounds).position
    open_in_one zero p grade rounds fit = or-false (open_at c p)
    open_in_one (suc k) p grade rounds fit =
        go (decided (all_open b p)) (decided (nothing (rule p)))
        (open_in_one k (pass near b p (rule p)) (max grade (rule p).grade) (rounds + 1) (pass_own near also b rule p ok own_passes sound fit))
        (λ o. le-leb _ 8 (stays_open (suc k) p grade rounds fit (leb-true (shows p c) 8 o)))
      where
        joined : (t later last : Bool) → later ≡ last → (t ≡ true → last ≡ true) → (t || later) ≡ last
        joined true later last same stays = sym (stays refl)
        joined false later last same stays = same

        go : Decided (all_open b p) → Decided (nothing (rule p))
            → any (open_at c) (positions near b rule k (pass near b p (rule p))) ≡ open_at c (passes near b rule k (pass near b p (rule p)) (max grade (rule p).grade) (rounds + 1)).position
            → (open_at c p ≡ true → open_at c (passes near b rule (suc k) p grade rounds).position ≡ true)
            → any (open_at c) (positions near b rule (suc k) p) ≡ open_at c (passes near b rule (suc k) p grade rounds).position
        go (inl a) e later stays = rw a (or-false (open_at c p))
        go (inr a) (inl e) later stays = rw (a, e) (or-false (open_at c p))
        go (inr a) (inr e) later stays = rw (a, e) (joined (open_at c p) _ _ later (rw (a, e) at stays))

    -- a cell has a round of at most k exactly where it is open after at most k passes
    pub round_at_most : (k n : ℕ) (p : List ℕ) → Fits near p (own b) → k ≤ n → k < 65535
        → (round_of (positions near b rule n p) c ≤ k) ↔ (shows (passes near b rule k p 0 0).position c ≤ 8)
    round_at_most k n p fit within small =
        let (to, from) = round_among k n p c within small in
        let same = open_in_one k p 0 0 fit in
        (λ few. leb-true _ 8 (sym same ∙ to few), λ o. from (same ∙ le-leb _ 8 o))

-- ---- what a caller may rely on

-- what a cell's round tells beside a picture of the end and the number of rounds, of the passes from a start
pub record RoundTells (near : ℕ → List ℕ) (b : List ℕ) (rule : List ℕ → GradedCells) (s : ℕ) (shown : List ℕ) (rounds c round : ℕ) : Type 0 where
  -- a cell has a round exactly where it is open in the end
  pub has_round : (round ≢ 65535) ↔ (shows shown c ≤ 8)
  -- no round is above the number of rounds
  pub at_most : shows shown c ≤ 8 → round ≤ rounds
  -- round 0 is the start and what its zeros open
  pub start_flood : (round ≡ 0) ↔ (shows (beginning near b s) c ≤ 8)
  -- what is open after at most k passes has a round of at most k, and no other cell has
  pub after_passes : (k : ℕ) → k ≤ length b → (round ≤ k) ↔ (shows (passes near b rule k (beginning near b s) 0 0).position c ≤ 8)
  -- what the last pass opened has the number of rounds
  pub last_pass : (k : ℕ) → rounds ≡ k + 1 → shows shown c ≤ 8 → ¬ (shows (passes near b rule k (beginning near b s) 0 0).position c ≤ 8) → round ≡ rounds

module _ (near : ℕ → List ℕ) (b : List ℕ) (rule : List ℕ → GradedCells) (s : ℕ) (ok : Accepted near b) (l : s < length b) (n : cell_of b s ≢ 255)
    (also : List Bool → Bool) (own_passes : also (own b) ≡ true) (sound : SoundAmong near also b rule) (small : length b < 65535) (c : ℕ) where
  abbrev start : List ℕ
  start = beginning near b s

  abbrev round : ℕ
  round = round_of (positions near b rule (length b) start) c

  fits : Fits near start (own b)
  fits = begin_own near b s ok l n

  after : (k : ℕ) → k ≤ length b → (round ≤ k) ↔ (shows (passes near b rule k start 0 0).position c ≤ 8)
  after k within = round_at_most near b rule also ok own_passes sound c k (length b) start fits within (omega arith)

  enough : Enough near b rule (length b) start 0 0
  enough = rounds_enough near b rule (length b) start 0 0

  last : shows (passes near b rule (length b) start 0 0).position c ≤ 8 → round ≤ (passes near b rule (length b) start 0 0).rounds
  last o = omega (arith, (after enough.few enough.within).1 (rw enough.same_end o), enough.counted)

  pub round_tells : RoundTells near b rule s (judge near b rule s).position (judge near b rule s).rounds c round
  unfolding judge
  round_tells = record {
    has_round = (
      λ has. leb-true _ 8 (sym (open_in_one near b rule also ok own_passes sound c (length b) start 0 0 fits) ∙ round_opened (positions near b rule (length b) start) c has),
      λ o e. absurd (omega (arith, (after (length b) (omega arith)).1 o)),
    );
    at_most = last;
    start_flood = (λ e. (after 0 (omega arith)).0 (omega arith), λ o. omega (arith, (after 0 (omega arith)).1 o));
    after_passes = after;
    last_pass = λ k is o before. above k is (last o) (λ few. before ((after k (omega (arith, enough.counted, enough.within))).0 few));
  }
    where
      above : (k : ℕ) → (passes near b rule (length b) start 0 0).rounds ≡ k + 1 → round ≤ (passes near b rule (length b) start 0 0).rounds → ¬ (round ≤ k)
          → round ≡ (passes near b rule (length b) start 0 0).rounds
      above k is few more = omega arith

-- the picture of a position shows the same cells open
pub tells_picture : {near : ℕ → List ℕ} {b : List ℕ} {rule : List ℕ → GradedCells} {s rounds c round : ℕ} (p : List ℕ)
    → RoundTells near b rule s p rounds c round → RoundTells near b rule s (picture p) rounds c round
tells_picture {c = c} p t = record {
  has_round = (λ has. shown (t.has_round.0 has), λ o. t.has_round.1 (open_picture p c o));
  at_most = λ o. t.at_most (open_picture p c o);
  start_flood = t.start_flood;
  after_passes = t.after_passes;
  last_pass = λ k is o. t.last_pass k is (open_picture p c o);
}
  where
    shown : shows p c ≤ 8 → shows (picture p) c ≤ 8
    shown o = omega (arith, picture_open p c o)
