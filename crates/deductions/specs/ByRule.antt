-- Cited by no public contract. The three calls as one, by their rule: what it makes of blocks, what holds of enumeration besides, and where the call refuses
-- with 6; and what can be read of any answer. Names as in Calls. Assumes nothing.
use Rattle.std.specs.Prelude.{◌≡◌, Bool, List, ℕ, ◌≤◌, length, Ok}
use Rattle.grid.specs.Window.{neighbours}
use Rattle.fitting.specs.Layouts.{Fits}
use Rattle.blocks.specs.Blocks.{Block}
use Rattle.blocks.specs.BlockSets.{Whole}
use Rattle.direct.specs.Found.{Found}
use Rattle.direct.specs.Direct.{direct}
use Rattle.subtraction.specs.Minus.{subtraction}
use Rattle.enumeration.specs.Enumeration.{enumerated}
use Rattle.deductions.specs.declared.Rule.{Rule}
use Rattle.deductions.specs.declared.Rule.TheVariants.{Direct, Minus, Enumerate}
use Rattle.deductions.specs.declared.answer.DeductionAnswer.{DeductionAnswer}
use Rattle.deductions.specs.Answers.{Seen, safe_count, mine_count}
use Rattle.deductions.specs.Calls.{CompleteCall}
use Rattle.deductions.specs.Contradictions.{TestsPass, DirectRefuses, MinusRefuses, EnumerateRefuses}

-- a rule on blocks
abbrev pub rule_on : Rule → List Block → Found
rule_on Direct = direct
rule_on Minus = subtraction
rule_on Enumerate = enumerated

-- enumeration is complete where the tests pass and some layout fits; of the other rules nothing is said
abbrev pub CompleteBy : Rule → Bool → ℕ → ℕ → List ℕ → List ℕ → List ℕ → ℕ → ℕ → ℕ → List ℕ → List ℕ → Type 0
CompleteBy Direct edgeless rows columns p s m number safe mines s' m' = Unit {0}
CompleteBy Minus edgeless rows columns p s m number safe mines s' m' = Unit {0}
CompleteBy Enumerate edgeless rows columns p s m number safe mines s' m' =
    TestsPass rows columns p s m → (layout : List Bool) → Fits (neighbours edgeless rows columns) p layout
    → CompleteCall (neighbours edgeless rows columns) p number safe mines s' m'

-- where the call refuses with 6
abbrev pub RefusesBy : Rule → Bool → ℕ → ℕ → List ℕ → List ℕ → List ℕ → ℕ → Type 0
RefusesBy Direct = DirectRefuses
RefusesBy Minus = MinusRefuses
RefusesBy Enumerate = EnumerateRefuses

-- what can be read of an answer: the counts are within the lists, and the blocks are whole
pub record Readable (w : Seen) : Type 0 where
  pub safe_within : safe_count w.answer ≤ length w.safe
  pub mines_within : mine_count w.answer ≤ length w.mines
  pub blocks_whole : {a : DeductionAnswer} → w.answer ≡ Ok a → Whole a.blocks
