-- Cited by no public contract. Numbers as text, each in decimal with a byte before it: with a space the bytes of a position, as ` 1 10 11`, and the rounds in which
-- its cells were opened, as ` 0 2 65535`. Assumes nothing.
use Rattle.std.specs.Prelude.{List, ◌∷◌, map, ℕ}
use Rattle.lists.specs.Lists.{joined}
use Rattle.text.specs.Text.{decimal}

-- a number with a byte before it
abbrev pub marked_text : ℕ → ℕ → List ℕ
marked_text mark n = mark ∷ decimal n

unfoldable pub cells_text : List ℕ → List ℕ
cells_text cells = joined (map (marked_text 32) cells)
