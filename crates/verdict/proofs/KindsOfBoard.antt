-- The rules of a pass are sound and complete for the layouts that the board's kind goes by: any that fits, or those that hold the board's own mine total where it is
-- shown. Rests on the three rules' laws and on those of the fourth, of the crates enumeration and fitting. Assumes nothing.
use mathlib.Core.Path.{◌≡◌, refl}
use mathlib.Core.Bool.{Bool, true, false}
use mathlib.Core.List.{List}
use Prim.Native.Nat.{ℕ}
use Rattle.grid.specs.Window.{neighbours}
use Rattle.fitting.specs.Layouts.{any_layout, of_total}
use Rattle.fitting.specs.Boards.{own, mine_total}
use Rattle.fitting.specs.Rules.{SoundAmong, CompleteAmong}
use Rattle.fitting.specs.ForcedCells.{forced_cells}
use Rattle.fitting.proofs.Rules.{sound_among, complete_among_any, sound_among_or_else, complete_among_or_else}
use Rattle.fitting.proofs.ForcedCells.{forced_cells_sound, forced_cells_complete}
use Rattle.fitting.proofs.KnownTotal.{own_of_total}
use Rattle.enumeration.specs.ThreeRules.{three_rules}
use Rattle.enumeration.proofs.BoardRules.{board_rules_sound, board_rules_complete}
use Rattle.verdict.specs.Rules.{rules_of, layouts_of}

-- the board's own layout is one of them
pub own_passes : (total : Bool) (b : List ℕ) → layouts_of total b (own b) ≡ true
own_passes true b = own_of_total b
own_passes false b = refl

module _ (edgeless : Bool) (rows columns : ℕ) (b : List ℕ) where
  abbrev near : ℕ → List ℕ
  near = neighbours edgeless rows columns

  pub rules_sound : (total : Bool) → SoundAmong near (layouts_of total b) b (rules_of total near b)
  rules_sound true =
      sound_among_or_else near (of_total (mine_total b)) b (three_rules near) (forced_cells near (of_total (mine_total b)) 5)
      (sound_among near (of_total (mine_total b)) b (three_rules near) (board_rules_sound edgeless rows columns b)) (forced_cells_sound near (of_total (mine_total b)) 5 b)
  rules_sound false = sound_among near any_layout b (three_rules near) (board_rules_sound edgeless rows columns b)

  pub rules_complete : (total : Bool) → CompleteAmong near (layouts_of total b) b (rules_of total near b)
  rules_complete true =
      complete_among_or_else near (of_total (mine_total b)) b (three_rules near) (forced_cells near (of_total (mine_total b)) 5) (forced_cells_complete near (of_total (mine_total b)) 5 b)
  rules_complete false = complete_among_any near b (three_rules near) (board_rules_complete edgeless rows columns b)
