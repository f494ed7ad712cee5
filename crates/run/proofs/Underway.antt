-- The loop that answers line after line: what is done so far answers the input, and another step answers more of it. Rests on the law of two parts joined. Assumes nothing.
use mathlib.Core.Path.{◌≡◌, refl, sym, ap, ◌∙◌}
use mathlib.Core.Bool.{Bool, true, false, cond}
use mathlib.Core.List.{List, ◌++◌}
use Prim.Native.Nat.{ℕ, ◌+◌, ◌-◌, ◌*◌, ◌≤◌, ◌<◌, max}
use native.Mathlib.Omega.{arith}
use lib.Dec.{ltb}
use lib.ListN.{length, take, drop, take-append-drop}
use borrow.Author.Tests.{ltb-true}
use Rattle.run.specs.declared.Part.{Part}
use Rattle.run.specs.Parts.{goes_on, Answers}
use Rattle.run.specs.Steps.{part_sum, Few, Step, another}
use Rattle.run.proofs.Joins.{answers_join}

-- ---- another step follows

another_on : (r : Part) → another r ≡ true → (goes_on r.state ≡ true) × (0 < r.len)
another_on r e = go (goes_on r.state) refl e
  where
    go : (t : Bool) → goes_on r.state ≡ t → cond t (ltb 0 r.len) false ≡ true → (goes_on r.state ≡ true) × (0 < r.len)
    go true on f = (on, ltb-true 0 r.len f)
    go false on f = absurd (cc)

-- ---- the loop

pub record Underway (input : List ℕ) (ended : Bool) (number : ℕ) (lent out : List ℕ) (part : Part) : Type 0 where
  pub answers : Answers input ended number part out
  pub same_long : length out ≡ length lent
  pub few : Few part
  pub on : goes_on part.state ≡ true
  pub lines_short : part.len + 34 * (1 - part.next) ≤ 34 + 88 * part.read
  pub numbers_near : part.next ≤ max number 1 + part.read

-- how much may still be written
abbrev pub left : List ℕ → Part → ℕ
left out part = length out - part.len

module _ (input : List ℕ) (ended : Bool) (number : ℕ) (lent : List ℕ) where
  -- a step goes on from what is read and behind what is written
  module _ (out : List ℕ) (part one : Part) (after : List ℕ) (u : Underway input ended number lent out part)
      (a : Answers (drop part.read input) ended part.next one (drop part.len after))
      (s : Step (drop part.read input) ended part.next one (drop part.len out))
      (front : take part.len after ≡ take part.len out) (same : length after ≡ length out) where
    -- the buffer is what was written before, and what stands behind it now
    after_is : take part.len out ++ drop part.len after ≡ after
    after_is = ap (◌++ drop part.len after) (sym front) ∙ take-append-drop part.len after

    module _ (part' : Part) (e : part' ≡ part_sum part one) where
      -- with the step's part it answers the input so far
      pub sum_answers : Answers input ended number part' after
      sum_answers = rw e (rw after_is at (answers_join input ended number part one out (drop part.len after) u.answers u.on a))

      -- and where another step follows, the loop goes on
      pub underway_next : another one ≡ true → Underway input ended number lent after part'
      underway_next m = rw e (record {
        answers = rw e at sum_answers;
        same_long = same ∙ u.same_long;
        few = record {
          yes = omega (arith, u.few.yes, s.few.yes);
          no = omega (arith, u.few.no, s.few.no);
          refused = omega (arith, u.few.refused, s.few.refused);
        };
        on = (another_on one m).0;
        lines_short = omega (arith, u.lines_short, s.lines_short (another_on one m).0);
        numbers_near = omega (arith, u.numbers_near, s.numbers_near (another_on one m).0);
      })
