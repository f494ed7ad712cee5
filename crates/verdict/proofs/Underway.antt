-- The passes underway: after k of at most n passes from the first position, the passes that are left lead from the present position to the same ending, the
-- board's own layout still fits, and the rounds of the cells are those of the positions so far. So the passes end where all safe cells are open, where a pass finds
-- nothing, or after n of them, with the present position, grade, rounds and rounds of the cells. Rests on `pass_own` of the crate fitting and on `given_next` of the
-- crate rounds. Assumes nothing.
use mathlib.Core.Path.{◌≡◌, refl, sym, ap, ◌∙◌}
use mathlib.Core.Bool.{Bool, true, false}
use mathlib.Core.List.{List, [], ◌∷◌, ◌++◌, append_assoc}
use Prim.Native.Nat.{ℕ, zero, suc, ◌+◌, ◌-◌, ◌≤◌, ◌<◌, max}
use native.Mathlib.Omega.{arith}
use lib.ListN.{length, length-append}
use Rattle.fitting.specs.Layouts.{Fits}
use Rattle.fitting.specs.Boards.{Accepted, own}
use Rattle.fitting.specs.Passes.{GradedCells, nothing, pass, all_open, Ending, ending, passes}
use Rattle.fitting.specs.Rules.{SoundAmong}
use Rattle.fitting.proofs.Passes.{pass_own}
use Rattle.rounds.specs.Rounds.{positions, rounds_of}
use Rattle.rounds.specs.GivenRounds.{round_given}
use Rattle.rounds.proofs.GivenRounds.{given_next}

module _ (near : ℕ → List ℕ) (b : List ℕ) (rule : List ℕ → GradedCells) where
  -- k passes lead from p₀ to p, with this grade, so many rounds, and these rounds of the cells
  pub record Underway (n : ℕ) (p₀ : List ℕ) (k : ℕ) (p : List ℕ) (grade rounds : ℕ) (opened_in : List ℕ) : Type 0 where
    pub same_end : passes near b rule (n - k) p grade rounds ≡ passes near b rule n p₀ 0 0
    pub own_fits : Fits near p (own b)
    pub counted : rounds ≤ k
    -- the positions before p, one for each round; those of the passes left follow them
    pub earlier : List (List ℕ)
    pub one_a_round : length earlier ≡ rounds
    pub same_positions : earlier ++ positions near b rule (n - k) p ≡ positions near b rule n p₀
    pub rounds_so_far : opened_in ≡ rounds_of (earlier ++ (p ∷ [])) (length b)

  -- at most n passes from p₀ end so, with these rounds of the cells
  abbrev pub Ends : ℕ → List ℕ → Ending → List ℕ → Type 0
  Ends n p₀ e opened_in = (passes near b rule n p₀ 0 0 ≡ e) × (opened_in ≡ rounds_of (positions near b rule n p₀) (length b))

  pub underway_first : (n : ℕ) (p opened_in : List ℕ) → Fits near p (own b) → opened_in ≡ rounds_of (p ∷ []) (length b) → Underway n p 0 p 0 0 opened_in
  underway_first n p opened_in fit first =
      let e : n - 0 ≡ n = omega arith in
      record { same_end = rw e; own_fits = fit; counted = omega arith; earlier = []; one_a_round = refl; same_positions = rw e; rounds_so_far = first }

  module _ {n : ℕ} {p₀ : List ℕ} {k : ℕ} {p : List ℕ} {grade rounds : ℕ} {opened_in : List ℕ} (u : Underway n p₀ k p grade rounds opened_in) where
    -- the present position is the last
    last_position : positions near b rule (n - k) p ≡ p ∷ [] → opened_in ≡ rounds_of (positions near b rule n p₀) (length b)
    last_position e = u.rounds_so_far ∙ ap (λ (ps : List (List ℕ)). rounds_of ps (length b)) (ap (λ (ps : List (List ℕ)). u.earlier ++ ps) (sym e) ∙ u.same_positions)

    -- all safe cells are open
    pub ends_open : all_open b p ≡ true → Ends n p₀ (ending true p grade rounds) opened_in
    ends_open e = (sym u.same_end ∙ at_end (n - k), last_position (alone (n - k)))
      where
        at_end : (j : ℕ) → passes near b rule j p grade rounds ≡ ending true p grade rounds
        at_end zero = rw e
        at_end (suc j) = rw e

        alone : (j : ℕ) → positions near b rule j p ≡ p ∷ []
        alone zero = refl
        alone (suc j) = rw e

    -- so many passes were made
    pub ends_last : n ≤ k → (answer : Bool) → answer ≡ all_open b p → Ends n p₀ (ending answer p grade rounds) opened_in
    ends_last past answer is = let e : n - k ≡ 0 = omega arith in (sym u.same_end ∙ rw (e, is), last_position (rw e))

    module _ (before : k < n) (shut : all_open b p ≡ false) where
      less : n - k ≡ suc (n - (k + 1))
      less = omega arith

      -- a pass finds nothing
      pub ends_stuck : nothing (rule p) ≡ true → Ends n p₀ (ending false p grade rounds) opened_in
      ends_stuck e = (sym u.same_end ∙ rw (less, shut, e), last_position (rw (less, shut, e)))

      -- a pass finds a cell, and what it opens is given its number
      pub underway_next : (also : List Bool → Bool) → Accepted near b → also (own b) ≡ true → SoundAmong near also b rule → nothing (rule p) ≡ false → rounds < 1024
          → (q : List ℕ) → q ≡ pass near b p (rule p) → (g : ℕ) → g ≡ max grade (rule p).grade
          → (given : List ℕ) → given ≡ round_given (rounds + 1) q opened_in → Underway n p₀ (k + 1) q g (rounds + 1) given
      underway_next also ok own_passes sound e few q is g greatest given gives =
          let long : length (u.earlier ++ (p ∷ [])) ≡ rounds + 1 = length-append u.earlier (p ∷ []) ∙ omega (arith, u.one_a_round) in
          record {
            same_end = rw (is, greatest) (rw (less, shut, e) at u.same_end);
            own_fits = rw is (pass_own near also b rule p ok own_passes sound u.own_fits);
            counted = omega (arith, u.counted);
            earlier = u.earlier ++ (p ∷ []);
            one_a_round = long;
            same_positions =
                rw is
                (append_assoc u.earlier (p ∷ []) (positions near b rule (n - (k + 1)) (pass near b p (rule p))) ∙ (rw (less, shut, e) at u.same_positions));
            rounds_so_far = gives ∙ rw u.rounds_so_far (given_next (u.earlier ++ (p ∷ [])) q (length b) (rounds + 1) (omega (arith, long)) (sym long));
          }
