-- Refusal 6 of the calls, from what they ensure alone: tests 1 to 3 never give it, so solve_direct refuses with it exactly where these pass and an open cell
-- with a closed neighbour shows fewer than the mines known and found beside it, and solve_enumerate exactly where these pass and no mines on the closed
-- cells give each such cell its number; solve_minus only there. Rests on FromPosition of the crate direct, on NoSolution of the crate enumeration, and on the
-- laws that the two first rules meet no contradiction where something solves the equations. Assumes nothing.
use Rattle.std.specs.Prelude.{Result, Ok, Err}
use mathlib.Core.Path.{◌≡◌, refl, sym, ap, ◌∙◌}
use mathlib.Core.Logic.{inl, inr, ◌↔◌}
use mathlib.Core.Bool.{Bool, true, false, ◌&&◌}
use mathlib.Core.List.{List, [], ◌∷◌, Memᴰ}
use Prim.Native.Nat.{ℕ, zero, suc, ◌≤◌}
use native.Mathlib.Omega.{arith}
use lib.Dec.{eqb}
use lib.ListN.{length}
use borrow.Author.Tests.{le-leb}
use Rattle.lists.specs.Lists.{empty}
use Rattle.lists.proofs.Tests.{Decided, decided, clash}
use Rattle.lists.proofs.Occurrences.{empty_nil}
use Rattle.grid.specs.Cells.{shows}
use Rattle.grid.specs.Window.{flat, around, neighbours}
use Rattle.grid.proofs.Neighbours.{neighbours_nodup, neighbours_few}
use Rattle.refusals.specs.declared.Refusal.{Refusal}
use Rattle.refusals.specs.declared.Refusal.TheVariants.{Size, Length, Cell}
use Rattle.refusals.specs.Refusals.{Accepted, Tested, tested_number, test, tested}
use Rattle.refusals.specs.Tests.{size_ok, length_ok, room_ok, position_cells_ok, deduction_tested}
use Rattle.refusals.proofs.FirstFailure.{not_both}
use Rattle.fitting.specs.Layouts.{Fits}
use Rattle.fitting.specs.Equations.{Holds, equation_at}
use Rattle.fitting.proofs.Frontier.{layout_of, holds_fits}
use Rattle.blocks.specs.Blocks.{BlockEquation, Block, says}
use Rattle.blocks.specs.BlockSets.{all_equations}
use Rattle.sources.specs.Sources.{closed_beside, sources}
use Rattle.sources.specs.Equations.{known_beside}
use Rattle.frontier.specs.Frontier.{frontier}
use Rattle.frontier.proofs.BlockLaws.{frontier_proper}
use Rattle.frontier.proofs.Fitting.{sources_solve}
use Rattle.direct.specs.Found.{Found}
use Rattle.direct.specs.Direct.{direct}
use Rattle.direct.specs.AtPosition.{is_contradictory_at}
use Rattle.direct.proofs.DirectLaws.{direct_no_contradiction}
use Rattle.direct.proofs.FromPosition.{direct_contradiction_at}
use Rattle.subtraction.specs.Minus.{subtraction}
use Rattle.subtraction.proofs.MinusLaws.{subtraction_no_contradiction}
use Rattle.enumeration.specs.Enumeration.{enumerated}
use Rattle.enumeration.proofs.NoSolution.{enumeration_contradiction_at}
use Rattle.deductions.specs.Answers.{seen, deduction_after_tests, deduction}
use Rattle.deductions.specs.Contradictions.{Placing, NoPlacing, TestsPass}
use Rattle.deductions.specs.ByRule.{rule_on, RefusesBy}
use Rattle.deductions.specs.declared.Rule.{Rule}
use Rattle.deductions.specs.declared.Rule.TheVariants.{Direct, Minus, Enumerate}
use Rattle.deductions.specs.declared.answer.DeductionAnswer.{DeductionAnswer}
use Rattle.deductions.proofs.Handed.{after_contradiction, after_lists}
use Rattle.deductions.proofs.SoundCalls.{number_of}

-- ---- the tests

-- three tests, none of which gives 6
three_tests : (size length cell : Bool) → tested_number (tested (test size Size ∷ test length Length ∷ test cell Cell ∷ [])) ≡ 6 → ⊥
three_tests false length cell h = omega arith
three_tests true false cell h = omega arith
three_tests true true false h = omega arith
three_tests true true true h = omega arith

-- those of a deduction
pub tests_never_six : (rows columns : ℕ) (p : List ℕ) (s m : ℕ) → tested_number (deduction_tested rows columns p s m) ≡ 6 → ⊥
unfolding deduction_tested
tests_never_six rows columns p s m h =
    three_tests (size_ok 1 rows columns) (length_ok rows columns (length p) && (room_ok rows columns s && room_ok rows columns m)) (position_cells_ok p) h

-- ---- a call of any rule

module _ (f : Found) (p s m : List ℕ) (r : Result DeductionAnswer Refusal) (p' s' m' : List ℕ) where
  -- refusal 6 is the rule's, where the tests do not give it
  six_from_rule : (t : Tested) → (tested_number t ≡ 6 → ⊥) → seen r p' s' m' ≡ deduction_after_tests t f p s m → tested_number r ≡ 6
      → (t ≡ Accepted) × (f.contradiction ≡ true)
  six_from_rule (Err x) never e a = absurd (never (sym (ap number_of e) ∙ a))
  six_from_rule (Ok _) never e a = (refl, go (decided f.contradiction))
    where
      go : Decided f.contradiction → f.contradiction ≡ true
      go (inl k) = k
      go (inr k) = absurd (omega (arith, ap number_of (e ∙ after_lists f p s m k)))

  -- and the rule's is the call's, where they accept
  six_from_call : (t : Tested) → seen r p' s' m' ≡ deduction_after_tests t f p s m → t ≡ Accepted → f.contradiction ≡ true → tested_number r ≡ 6
  six_from_call (Err x) e a k = not_both (Err x) x a refl
  six_from_call (Ok _) e a k = ap number_of (e ∙ after_contradiction f p s m k)

-- so where a rule meets a contradiction only in a case, its call refuses with 6 only there
module _ (rule : List Block → Found) (case : Type 0) (edgeless : Bool) (rows columns : ℕ) (p s m : List ℕ) (r : Result DeductionAnswer Refusal) (p' s' m' : List ℕ)
    (call : seen r p' s' m' ≡ deduction rule edgeless rows columns p s m) where
  call_refuses_only : ((rule (frontier (neighbours edgeless rows columns) p)).contradiction ≡ true → case) → tested_number r ≡ 6 → TestsPass rows columns p s m × case
  call_refuses_only only a =
      let (accepted, k) =
      six_from_rule (rule (frontier (neighbours edgeless rows columns) p)) p s m r p' s' m' (deduction_tested rows columns p (length s) (length m))
      (tests_never_six rows columns p (length s) (length m)) call a in
      (accepted, only k)

  -- and where exactly in a case, exactly there
  call_refuses : ((rule (frontier (neighbours edgeless rows columns) p)).contradiction ≡ true) ↔ case → (tested_number r ≡ 6) ↔ (TestsPass rows columns p s m × case)
  call_refuses exactly = (
    call_refuses_only exactly.0,
    λ (accepted, k). six_from_call (rule (frontier (neighbours edgeless rows columns) p)) p s m r p' s' m' (deduction_tested rows columns p (length s) (length m)) call accepted (exactly.1 k),
  )

-- ---- the three rules on a board

module _ (edgeless : Bool) (rows columns : ℕ) (p : List ℕ) where
  abbrev near : ℕ → List ℕ
  near = neighbours edgeless rows columns

  -- the direct rule meets a contradiction exactly where an open cell with a closed neighbour shows too few
  direct_meets : ((direct (frontier near p)).contradiction ≡ true) ↔ (is_contradictory_at near p ≡ true)
  direct_meets = (λ k. sym at ∙ k, λ k. at ∙ k)
    where
      at : (direct (frontier near p)).contradiction ≡ is_contradictory_at near p
      at = direct_contradiction_at near p (neighbours_nodup edgeless rows columns) (neighbours_few edgeless rows columns)

  -- a placing solves every equation
  placing_solves : (f : ℕ → Bool) → Placing near p f
      → (e : BlockEquation) → Memᴰ e (all_equations (frontier near p)) → Holds f (says e)
  placing_solves = sources_solve near p (neighbours_nodup edgeless rows columns) (neighbours_few edgeless rows columns)

  -- so there is none where the direct rule meets a contradiction: where solve_direct refuses with 6, solve_enumerate does
  pub contradictory_no_placing : is_contradictory_at near p ≡ true → NoPlacing near p
  contradictory_no_placing h f s =
      clash (direct (frontier near p)).contradiction (direct_meets.1 h) (direct_no_contradiction (frontier near p) f (placing_solves f s))

  -- nor where subtraction does
  minus_meets : (subtraction (frontier near p)).contradiction ≡ true → NoPlacing near p
  minus_meets h f s =
      clash (subtraction (frontier near p)).contradiction h
      (subtraction_no_contradiction (frontier near p) f (λ b m. (frontier_proper near p b m).equations_once) (placing_solves f s))

-- ---- the calls

module _ (edgeless : Bool) (rows columns : ℕ) (p s m : List ℕ) (r : Result DeductionAnswer Refusal) (p' s' m' : List ℕ) where
  pub call_refuses_by_rule : (rule : Rule) → seen r p' s' m' ≡ deduction (rule_on rule) edgeless rows columns p s m → RefusesBy rule edgeless rows columns p s m (tested_number r)
  call_refuses_by_rule Direct call =
      call_refuses direct (is_contradictory_at (neighbours edgeless rows columns) p ≡ true) edgeless rows columns p s m r p' s' m' call (direct_meets edgeless rows columns p)
  call_refuses_by_rule Minus call =
      call_refuses_only subtraction (NoPlacing (neighbours edgeless rows columns) p) edgeless rows columns p s m r p' s' m' call (minus_meets edgeless rows columns p)
  call_refuses_by_rule Enumerate call =
      call_refuses enumerated (NoPlacing (neighbours edgeless rows columns) p) edgeless rows columns p s m r p' s' m' call
      (enumeration_contradiction_at (neighbours edgeless rows columns) p (neighbours_nodup edgeless rows columns) (neighbours_few edgeless rows columns))

-- ---- placings and layouts

module _ (near : ℕ → List ℕ) (p : List ℕ) where
  -- a layout that fits is a placing (`fits_sources` of the crate frontier); and a placing makes a layout that fits, where each open cell without a closed
  -- neighbour shows its known mines
  pub placing_fits : (f : ℕ → Bool) → Placing near p f
      → ((d : ℕ) → shows p d ≤ 8 → empty (closed_beside near p d) ≡ true → known_beside near p d ≡ shows p d)
      → Fits near p (layout_of p f)
  placing_fits f h others = holds_fits near p f (λ d o. go d o (decided (empty (closed_beside near p d))))
    where
      go : (d : ℕ) → shows p d ≤ 8 → Decided (empty (closed_beside near p d)) → Holds f (equation_at near p d)
      go d o (inl e) = rw (empty_nil (closed_beside near p d) e) (omega (arith, others d o e))
      go d o (inr e) = h d (rw (le-leb (shows p d) 8 o, e))

-- ---- small positions

-- of the positions 12.1 to 12.7 of SPECIFICATION the direct rule refuses the third alone
pub direct_cases : (is_contradictory_at (neighbours flat 1 3) (1 ∷ 10 ∷ 10 ∷ []) ≡ false)
    × (is_contradictory_at (neighbours flat 1 2) (0 ∷ 10 ∷ []) ≡ false)
    × (is_contradictory_at (neighbours flat 1 3) (11 ∷ 0 ∷ 10 ∷ []) ≡ true)
    × (is_contradictory_at (neighbours flat 1 3) (10 ∷ 1 ∷ 10 ∷ []) ≡ false)
    × (is_contradictory_at (neighbours flat 1 5) (10 ∷ 1 ∷ 10 ∷ 1 ∷ 10 ∷ []) ≡ false)
    × (is_contradictory_at (neighbours flat 2 3) (10 ∷ 10 ∷ 10 ∷ 1 ∷ 1 ∷ 1 ∷ []) ≡ false)
unfolding around neighbours sources
direct_cases = (refl, refl, refl, refl, refl, refl)

-- in the third no placing is left either
pub third_no_placing : NoPlacing (neighbours flat 1 3) (11 ∷ 0 ∷ 10 ∷ [])
unfolding around neighbours
third_no_placing f h = omega (arith, h 1 refl)

-- in the fourth a mine at the first cell will do
pub fourth_placing : Placing (neighbours flat 1 3) (10 ∷ 1 ∷ 10 ∷ []) (eqb 0)
unfolding around neighbours
fourth_placing zero h = clash false h refl
fourth_placing (suc zero) h = refl
fourth_placing (suc (suc zero)) h = clash false h refl
fourth_placing (suc (suc (suc d))) h = clash false h refl

-- three closed cells between a 1 and a 2: no placing, which the direct rule does not see
pub between_no_placing : NoPlacing (neighbours flat 3 3) (12 ∷ 1 ∷ 12 ∷ 10 ∷ 10 ∷ 10 ∷ 12 ∷ 2 ∷ 12 ∷ [])
unfolding around neighbours
between_no_placing f h = omega (arith, h 1 refl, h 7 refl)

pub between_unseen : is_contradictory_at (neighbours flat 3 3) (12 ∷ 1 ∷ 12 ∷ 10 ∷ 10 ∷ 10 ∷ 12 ∷ 2 ∷ 12 ∷ []) ≡ false
unfolding around neighbours sources
between_unseen = refl
