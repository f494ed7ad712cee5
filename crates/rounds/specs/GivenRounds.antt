-- Cited by no public contract. A round given to cells: each open cell that has none yet gets it. Assumes nothing.
use Rattle.std.specs.Prelude.{cond, ◌&&◌, List, map, ℕ, leb, eqb, length, get_or}
use Rattle.lists.specs.Lists.{range}
use Rattle.grid.specs.Cells.{shows}

-- the round of a cell that shows v and had the round kept
abbrev pub round_after : ℕ → ℕ → ℕ → ℕ
round_after round v kept = cond (leb v 8 && eqb kept 65535) round kept

-- of each cell, by the position
unfoldable pub round_given : ℕ → List ℕ → List ℕ → List ℕ
round_given round p opened_in = map (λ (c : ℕ). round_after round (shows p c) (get_or opened_in c 0)) (range 0 (length opened_in))
