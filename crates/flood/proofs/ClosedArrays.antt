-- An array with every cell closed, of whose front the code makes a position: it has room for the cells of a board. Assumes nothing.
use mathlib.Core.Path.{◌≡◌, ◌∙◌}
use mathlib.Core.List.{List}
use Prim.Native.Nat.{ℕ, ◌≤◌}
use native.Mathlib.Omega.{arith}
use lib.ListN.{length, take, replicate, length-replicate}
use lib.Seq.{length-take-le}
use Rattle.lists.proofs.Arrays.{take_replicate}
use Rattle.grid.specs.Window.{Board}
use Rattle.grid.proofs.Places.{few_cells}

-- an array that is all closed
abbrev pub array : List ℕ
array = replicate 1024 10

-- has room for the board's cells
module _ {rows columns : ℕ} {b : List ℕ} (board : Board b rows columns) where
  pub few : length b ≤ 1024
  few = omega (arith, board.whole, few_cells board.sized)

  pub front_long : length (take (length b) array) ≡ length b
  front_long = length-take-le (length b) array (omega (arith, few, length-replicate {A = ℕ} 1024 10))

  -- all of them closed
  pub front_closed : take (length b) array ≡ replicate (length b) 10
  front_closed = take_replicate (length b) 1024 10 few

  pub front_board : Board (take (length b) array) rows columns
  front_board = record { sized = board.sized; whole = front_long ∙ board.whole }
