-- The solver of demand 3 (SPECIFICATION 6). It has a position of its own, which each ask may change and nothing else does; an opened 0 opens no neighbour.
-- The layouts that it goes by are those that fit and pass the test `also`, so the mine total plays a part exactly where `also` asks for it. Assumes nothing.
use Rattle.std.specs.Prelude.{◌≡◌, Bool, cond, ◌&&◌, List, [], ◌∷◌, ℕ, eqb, length, set, replicate}
use Rattle.grid.specs.Cells.{cell_of, shows}
use Rattle.fitting.specs.Layouts.{any_layout, free_in_every}

-- at first all cells are closed but the start, which shows its number
abbrev pub first : List ℕ → ℕ → List ℕ
first b s = set (replicate (length b) 10) s (cell_of b s)

-- an ask opens its cell exactly when the cell is on the board, is closed, and is free in every layout that fits and passes the test `also`; any other ask is
-- passed over
unfoldable pub ask_among : (ℕ → List ℕ) → (List Bool → Bool) → List ℕ → List ℕ → ℕ → List ℕ
ask_among near also b p c = cond (eqb (shows p c) 10 && free_in_every near also p c) (set p c (cell_of b c)) p

-- a list of asks, each on the position that the one before it left
abbrev pub asks_among : (ℕ → List ℕ) → (List Bool → Bool) → List ℕ → List ℕ → List ℕ → List ℕ
asks_among near also b p [] = p
asks_among near also b p (c ∷ cs) = asks_among near also b (ask_among near also b p c) cs

-- the solver's position after the list, from its first position on
abbrev pub solved_among : (ℕ → List ℕ) → (List Bool → Bool) → List ℕ → ℕ → List ℕ → List ℕ
solved_among near also b s cs = asks_among near also b (first b s) cs

-- the solver is done: no ask would open a cell
abbrev pub DoneAmong : (ℕ → List ℕ) → (List Bool → Bool) → List ℕ → List ℕ → Type 0
DoneAmong near also b p = (c : ℕ) → ask_among near also b p c ≡ p

-- ---- the solver of a plain board, which does not know the mine total

abbrev pub ask : (ℕ → List ℕ) → List ℕ → List ℕ → ℕ → List ℕ
ask near b p c = ask_among near any_layout b p c

abbrev pub solved : (ℕ → List ℕ) → List ℕ → ℕ → List ℕ → List ℕ
solved near b s cs = solved_among near any_layout b s cs

abbrev pub Done : (ℕ → List ℕ) → List ℕ → List ℕ → Type 0
Done near b p = DoneAmong near any_layout b p
