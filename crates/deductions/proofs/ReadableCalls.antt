-- What a caller of a rule can read of the answer, from the definition alone, whatever was asked: the counts are within the lists, and the block set is whole.
-- A refusal has no cells and no blocks. Rests on Handed, Deductions, and LeftFits of the crates rules and subtraction. Assumes nothing.
use Rattle.std.specs.Prelude.{Result, Ok, Err}
use mathlib.Core.Path.{◌≡◌, refl}
use mathlib.Core.Logic.{inl, inr}
use mathlib.Core.Bool.{Bool, true, false, cond}
use mathlib.Core.List.{List, [], map}
use Prim.Native.Nat.{ℕ, ◌≤◌}
use native.Mathlib.Omega.{arith}
use lib.ListN.{length}
use lib.Seq.{length-sets}
use Rattle.lists.specs.Lists.{joined}
use Rattle.lists.proofs.Tests.{Decided, decided}
use Rattle.grid.specs.Window.{neighbours}
use Rattle.refusals.specs.declared.Refusal.{Refusal}
use Rattle.refusals.specs.declared.Refusal.TheVariants.{Contradiction}
use Rattle.refusals.specs.Tests.{deduction_tested}
use Rattle.refusals.proofs.Accepted.{AcceptedDeduction, accepted_deduction}
use Rattle.blocks.specs.Blocks.{Block}
use Rattle.blocks.specs.BlockSets.{block_set, Small, Whole}
use Rattle.blocks.proofs.Behind.{set_whole, none_fits}
use Rattle.deductions.specs.declared.answer.DeductionAnswer.{DeductionAnswer}
use Rattle.frontier.specs.Frontier.{frontier}
use Rattle.frontier.proofs.ReadFrontier.{frontier_fits}
use Rattle.direct.specs.Found.{Found, contradicted, found}
use Rattle.direct.proofs.Soundness.{listed_few}
use Rattle.direct.proofs.LeftFits.{direct_left_fits}
use Rattle.subtraction.proofs.LeftFits.{subtraction_left_fits}
use Rattle.enumeration.specs.Enumeration.{safe_cells, mine_cells, unsolvable, enumerated}
use Rattle.deductions.specs.Answers.{refused, after_found, deduction_after_tests, deduction}
use Rattle.deductions.specs.ByRule.{rule_on, Readable}
use Rattle.deductions.specs.declared.Rule.{Rule}
use Rattle.deductions.specs.declared.Rule.TheVariants.{Direct, Minus, Enumerate}
use Rattle.deductions.proofs.Handed.{after_contradiction, after_lists}
use Rattle.deductions.proofs.Deductions.{sound_on}
use Rattle.refusals.specs.Refusals.{Accepted, Tested}

-- of a refusal
refused_readable : (x : Refusal) (p s m : List ℕ) → Readable (refused x p s m)
refused_readable x p s m = record {
  safe_within = omega arith;
  mines_within = omega arith;
  blocks_whole = λ {a} e. let both : ◌≡◌ {A = Result DeductionAnswer Refusal} (Err x) (Ok a) = e in let z : ◌≡◌ {A = ℕ} 0 1 = cc in absurd (omega arith);
}

-- the blocks that a rule leaves, where they fit into a set
left_whole : (f : Found) → Small f.left → {a : DeductionAnswer}
    → ◌≡◌ {A = Result DeductionAnswer Refusal} (Ok (record { safe = length f.safe; mines = length f.mines; blocks = block_set f.left })) (Ok a) → Whole a.blocks
left_whole f small {a} e =
    let same : a ≡ record { safe = length f.safe; mines = length f.mines; blocks = block_set f.left } = cc in
    rw same (set_whole f.left _ refl small)

-- of what a rule found, where its lists fit into the slices and its blocks into a set
found_readable : (f : Found) (p s m : List ℕ) → length f.safe ≤ length s → length f.mines ≤ length m
    → Small f.left → Readable (after_found f p s m)
found_readable f p s m safe mines small = go (decided f.contradiction)
  where
    go : Decided f.contradiction → Readable (after_found f p s m)
    go (inl t) = rw (after_contradiction f p s m t) (refused_readable Contradiction p s m)
    go (inr t) =
        rw (after_lists f p s m t)
        (record {
          safe_within = omega (arith, length-sets s 0 f.safe);
          mines_within = omega (arith, length-sets m 0 f.mines);
          blocks_whole = λ e. left_whole f small e;
        })

-- ---- of a call

-- enumeration leaves no blocks
none_left_fits : (bs : List Block) → Small bs → Small (enumerated bs).left
unfolding enumerated
none_left_fits bs small = go (unsolvable bs)
  where
    go : (t : Bool) → Small (cond t contradicted (found (joined (map safe_cells bs)) (joined (map mine_cells bs)) [])).left
    go true = none_fits
    go false = none_fits

-- the blocks that a rule leaves fit into a set
left_fits : (rule : Rule) (bs : List Block) → Small bs → Small (rule_on rule bs).left
left_fits Direct = direct_left_fits
left_fits Minus = subtraction_left_fits
left_fits Enumerate = none_left_fits

module _ (rule : Rule) (edgeless : Bool) (rows columns : ℕ) (p s m : List ℕ) where
  pub call_readable : Readable (deduction (rule_on rule) edgeless rows columns p s m)
  call_readable = go (deduction_tested rows columns p (length s) (length m)) refl
    where
      near : ℕ → List ℕ
      near = neighbours edgeless rows columns

      finds : Found
      finds = rule_on rule (frontier near p)

      accepted_readable : AcceptedDeduction rows columns p (length s) (length m) → Readable (after_found finds p s m)
      accepted_readable a =
          let listed = sound_on rule edgeless rows columns p in
          let safe = listed_few near p finds.safe listed.safe_among_lem in
          let mines = listed_few near p finds.mines listed.mines_among_lem in
          found_readable finds p s m
          (omega (arith, a.position.board.whole, a.safe_room)) (omega (arith, a.position.board.whole, a.mines_room))
          (left_fits rule (frontier near p) (frontier_fits edgeless rows columns p a.position.board))

      go : (t : Tested) → deduction_tested rows columns p (length s) (length m) ≡ t → Readable (deduction_after_tests t finds p s m)
      go (Ok _) e = accepted_readable (accepted_deduction rows columns p (length s) (length m) e)
      go (Err x) e = refused_readable x p s m
