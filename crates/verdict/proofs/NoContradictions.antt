-- In the verdict no rule refuses: the board's own layout fits each position that the passes come to, so that no rule meets a contradiction there. Rests on
-- `begin_own` and `pass_own` of the crate fitting and on the soundness of the rules. Assumes nothing.
use mathlib.Core.Path.{◌≡◌, refl}
use mathlib.Core.Logic.{◌≢◌}
use mathlib.Core.Bool.{Bool, true, false}
use mathlib.Core.List.{List}
use Prim.Native.Nat.{ℕ, ◌<◌}
use lib.ListN.{length}
use Rattle.grid.specs.Cells.{cell_of}
use Rattle.grid.specs.Window.{neighbours}
use Rattle.grid.proofs.Neighbours.{neighbours_nodup, neighbours_few}
use Rattle.refusals.specs.Tests.{board_tested, start_cell}
use Rattle.refusals.proofs.Accepted.{accepted_board}
use Rattle.fitting.specs.Layouts.{Fits, any_layout}
use Rattle.fitting.specs.Boards.{Accepted as AcceptedBoard, own}
use Rattle.fitting.specs.Passes.{GradedCells, pass, judge}
use Rattle.fitting.specs.Rules.{SoundAmong}
use Rattle.fitting.proofs.Steps.{beginning}
use Rattle.fitting.proofs.Passes.{begin_own, pass_own, passes_keep}
use Rattle.frontier.specs.Frontier.{frontier}
use Rattle.direct.specs.Direct.{direct}
use Rattle.direct.proofs.Soundness.{direct_sound_at}
use Rattle.subtraction.specs.Minus.{subtraction}
use Rattle.subtraction.proofs.Soundness.{subtraction_sound_at}
use Rattle.enumeration.specs.Enumeration.{enumerated}
use Rattle.enumeration.specs.ThreeRules.{three_rules}
use Rattle.enumeration.proofs.Completeness.{enumeration_sound_at}
use Rattle.verdict.proofs.KindsOfBoard.{rules_sound}
use Rattle.refusals.proofs.Admitted.{tested_accepted}
use Rattle.refusals.specs.Refusals.{Accepted}

-- the positions that the passes from the start s come to
pub data OnTheWay (near : ℕ → List ℕ) (b : List ℕ) (rule : List ℕ → GradedCells) (s : ℕ) : List ℕ → Type 0 where
  begins : OnTheWay near b rule s (beginning near b s)
  goes_on : {p : List ℕ} → OnTheWay near b rule s p → OnTheWay near b rule s (pass near b p (rule p))

module _ (near : ℕ → List ℕ) (b : List ℕ) (rule : List ℕ → GradedCells) (s : ℕ) where
  -- the last of them is where the passes end
  pub ends_on_the_way : OnTheWay near b rule s (judge near b rule s).position
  unfolding judge
  ends_on_the_way = passes_keep near b rule (λ p _ _. OnTheWay near b rule s p) (λ p _ _ _ w. goes_on w) (length b) (beginning near b s) 0 0 begins

  -- the board's own layout fits each
  pub own_on_the_way : (also : List Bool → Bool) → AcceptedBoard near b → also (own b) ≡ true → s < length b → cell_of b s ≢ 255 → SoundAmong near also b rule
      → {p : List ℕ} → OnTheWay near b rule s p → Fits near p (own b)
  own_on_the_way also ok passes l safe sound begins = begin_own near b s ok l safe
  own_on_the_way also ok passes l safe sound (goes_on {p = p} w) = pass_own near also b rule p ok passes sound (own_on_the_way also ok passes l safe sound w)

-- none of the three rules meets a contradiction at a position
pub record NoContradiction (near : ℕ → List ℕ) (p : List ℕ) : Type 0 where
  pub by_direct : (direct (frontier near p)).contradiction ≡ false
  pub by_subtraction : (subtraction (frontier near p)).contradiction ≡ false
  pub by_enumeration : (enumerated (frontier near p)).contradiction ≡ false

module _ (edgeless : Bool) (rows columns row column : ℕ) (b lent : List ℕ) (tests : board_tested edgeless rows columns row column b lent ≡ Accepted) where
  pub no_rule_refuses : {p : List ℕ}
      → OnTheWay (neighbours edgeless rows columns) b (three_rules (neighbours edgeless rows columns)) (start_cell columns row column) p
      → NoContradiction (neighbours edgeless rows columns) p
  no_rule_refuses {p} way =
      let near = neighbours edgeless rows columns in
      let once = neighbours_nodup edgeless rows columns in
      let few = neighbours_few edgeless rows columns in
      let accepted = accepted_board edgeless rows columns row column b lent tests in
      let fit = own_on_the_way near b (three_rules near) (start_cell columns row column) any_layout (tested_accepted edgeless rows columns row column b lent tests) refl
      accepted.start_within accepted.start_safe_lem (rules_sound edgeless rows columns b false) way in
      record {
        by_direct = (direct_sound_at near once few p).no_contradiction (own b) fit;
        by_subtraction = (subtraction_sound_at near once few p).no_contradiction (own b) fit;
        by_enumeration = (enumeration_sound_at near once few p).no_contradiction (own b) fit;
      }
