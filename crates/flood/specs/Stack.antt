-- Cited by no public contract. The flood's stack: the opened cells whose neighbours are still to be looked at. What opening cells makes of a position and of
-- the stack, and what the functions that open cells are told and tell of them. Assumes nothing.
use Rattle.std.specs.Prelude.{◌≡◌, ◌≢◌, true, cond, List, [], ◌∷◌, ◌++◌, ℕ, ◌+◌, ◌≤◌, ◌<◌, ltb, eqb, length, take, set}
use Rattle.lists.specs.Lists.{count, all}
use Rattle.grid.specs.Cells.{cell_of, shows}

-- a position, and the stack; the last cell of the stack is taken next
pub record Flooding : Type 0 where
  pub position : List ℕ
  pub stack : List ℕ

-- as the code holds it: the stack is the first n of an array
abbrev pub held : List ℕ → List ℕ → ℕ → Flooding
held p array n = record { position = p; stack = take n array }

-- a closed cell gets the board's number and goes on the stack; any other cell stays as it is
unfoldable pub open_one : List ℕ → Flooding → ℕ → Flooding
open_one b s c =
    cond (eqb (shows s.position c) 10)
    (record { position = set s.position c (cell_of b c); stack = s.stack ++ (c ∷ []) })
    s

-- so each cell of a list in turn
unfoldable pub open_each : List ℕ → Flooding → List ℕ → Flooding
open_each b s [] = s
open_each b s (c ∷ cs) = open_each b (open_one b s c) cs

-- the array has room on the stack for every closed cell, since a cell is opened as it is put there (no cell of the board is 10, closed); the cells on the
-- stack are on the board
pub record Room (b p array : List ℕ) (n : ℕ) : Type 0 where
  pub numbers : (c : ℕ) → c < length b → cell_of b c ≢ 10
  pub whole : length p ≡ length b
  pub long : length array ≡ 1024
  pub room : n + count (λ v. eqb v 10) p ≤ 1024
  pub on_board : all (λ c. ltb c (length b)) (take n array) ≡ true
