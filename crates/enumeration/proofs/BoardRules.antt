-- The three rules on a board of rows and columns, of either kind: its neighbours are none twice and at most eight, of every number, so the rules are sound and
-- complete there, with nothing asked. Rests on Completeness and on the laws of the window. Assumes nothing.
use mathlib.Core.Bool.{Bool}
use mathlib.Core.List.{List}
use Prim.Native.Nat.{ℕ}
use Rattle.grid.specs.Window.{neighbours}
use Rattle.grid.proofs.Neighbours.{neighbours_nodup, neighbours_few}
use Rattle.fitting.specs.Rules.{Sound, Complete}
use Rattle.enumeration.specs.ThreeRules.{three_rules}
use Rattle.enumeration.proofs.Completeness.{three_rules_sound, three_rules_complete}

module _ (edgeless : Bool) (rows columns : ℕ) where
  pub board_rules_sound : (b : List ℕ) → Sound (neighbours edgeless rows columns) b (three_rules (neighbours edgeless rows columns))
  board_rules_sound = three_rules_sound (neighbours edgeless rows columns) (neighbours_nodup edgeless rows columns) (neighbours_few edgeless rows columns)

  pub board_rules_complete : (b : List ℕ) → Complete (neighbours edgeless rows columns) b (three_rules (neighbours edgeless rows columns))
  board_rules_complete = three_rules_complete (neighbours edgeless rows columns) (neighbours_nodup edgeless rows columns) (neighbours_few edgeless rows columns)
