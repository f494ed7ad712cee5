-- The subtraction rule at a position: what it lists is the same in every layout that fits, and where some layout fits it meets no contradiction; so it is a
-- sound rule for the verdict on every board. `near` lists at most eight neighbours of a cell, none twice. Rests on MinusLaws. Assumes nothing.
use mathlib.Core.Path.{◌≡◌}
use mathlib.Core.Bool.{true}
use mathlib.Core.List.{List, Memᴰ}
use Prim.Native.Nat.{ℕ, ◌≤◌}
use lib.ListN.{length}
use Rattle.lists.specs.Lists.{nodup}
use Rattle.fitting.specs.Layouts.{mine_at}
use Rattle.fitting.specs.Rules.{Sound}
use Rattle.blocks.specs.Blocks.{BlockEquation, Block}
use Rattle.frontier.specs.Frontier.{frontier}
use Rattle.frontier.proofs.BlockLaws.{frontier_proper}
use Rattle.frontier.proofs.Fitting.{fits_solves}
use Rattle.direct.specs.Found.{rule_of}
use Rattle.direct.proofs.Soundness.{SoundAt, rule_sound}
use Rattle.subtraction.specs.Minus.{subtraction}
use Rattle.subtraction.proofs.MinusLaws.{subtraction_alone, subtraction_mines_among, subtraction_safe_among, subtraction_no_contradiction, subtraction_mines_true, subtraction_safe_false}

module _ (near : ℕ → List ℕ) (once : (c : ℕ) → nodup (near c) ≡ true) (few : (c : ℕ) → length (near c) ≤ 8) where
  -- the subtraction rule
  pub subtraction_sound_at : (p : List ℕ) → SoundAt near p (subtraction (frontier near p))
  subtraction_sound_at p = record {
    safe_free = λ c h m fit. subtraction_safe_false (frontier near p) (mine_at m) proper (fits_solves near p once few m fit) c h;
    mines_mined = λ c h m fit. subtraction_mines_true (frontier near p) (mine_at m) proper (fits_solves near p once few m fit) c h;
    safe_among_lem = subtraction_safe_among (frontier near p) (frontier_proper near p);
    mines_among_lem = subtraction_mines_among (frontier near p) (frontier_proper near p);
    no_contradiction = λ m fit. subtraction_no_contradiction (frontier near p) (mine_at m) proper (fits_solves near p once few m fit);
    alone = subtraction_alone (frontier near p);
  }
    where
      proper : (b : Block) → Memᴰ b (frontier near p) → (e : BlockEquation) → Memᴰ e b.equations → nodup e.cells ≡ true
      proper b m = (frontier_proper near p b m).equations_once

  -- so it is sound for the verdict, with the grade 2
  pub subtraction_rule_sound : (b : List ℕ) → Sound near b (rule_of near subtraction 2)
  subtraction_rule_sound = rule_sound near subtraction 2 subtraction_sound_at
