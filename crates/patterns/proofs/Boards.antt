-- Boards worked out by the definition. On a board of 8 rows and 8 columns each shape stands in the middle, at the top, the bottom, the left and the right, and in the
-- corners top left, top right, bottom left and bottom right, in this order; and it is the only pattern of its board, since without the first mine there is none. And the
-- answers to SPECIFICATION 12.9 and to boards that are refused. All by computation. Assumes nothing.
use mathlib.Core.Path.{◌≡◌, refl}
use mathlib.Core.Bool.{Bool, true, false, not, cond, ◌&&◌}
use mathlib.Core.List.{List, [], ◌∷◌, map}
use Prim.Native.Nat.{ℕ, ◌+◌, ◌*◌}
use lib.ListN.{drop, replicate}
use Rattle.lists.specs.Lists.{range, has, all, joined}
use Rattle.refusals.specs.declared.Refusal.TheVariants.{Size, Length, Cell}
use Rattle.refusals.specs.Tests.{size_ok, length_ok, board_cells_ok, pattern_tested}
use Rattle.std.specs.Prelude.{Ok, Err}
use Rattle.patterns.specs.Shapes.{among_mines, framed, found_at, found_anywhere, found_in_corner, pattern_found}
use Rattle.patterns.specs.Answer.{unsolvable_structure}

-- ---- each shape everywhere

-- the board with these mines: 34 is the cell in row 3 and column 4, counted from 1
unfoldable pub board : List ℕ → List ℕ
board mines = joined (map (λ (row : ℕ). map (λ (column : ℕ). cond (has mines (row * 10 + column)) 255 0) (range 1 8)) (range 1 8))

-- a pattern is found, and without the first mine none is
unfoldable pub decides : List ℕ → Bool
decides mines = pattern_found 8 8 (board mines) && not (pattern_found 8 8 (board (drop 1 mines)))

unfoldable pub boards : List (List ℕ)
boards =
    -- 4 × 4, mines at the corners and on a diagonal of the middle
    (33 ∷ 36 ∷ 44 ∷ 55 ∷ 63 ∷ 66 ∷ [])
    ∷ (14 ∷ 25 ∷ 33 ∷ 36 ∷ [])
    ∷ (63 ∷ 66 ∷ 74 ∷ 85 ∷ [])
    ∷ (33 ∷ 41 ∷ 52 ∷ 63 ∷ [])
    ∷ (36 ∷ 47 ∷ 58 ∷ 66 ∷ [])
    ∷ (22 ∷ 11 ∷ 33 ∷ [])
    ∷ (17 ∷ 28 ∷ 36 ∷ [])
    ∷ (63 ∷ 71 ∷ 82 ∷ [])
    ∷ (66 ∷ 77 ∷ 88 ∷ [])
    -- 4 × 4, on the other diagonal
    ∷ (33 ∷ 36 ∷ 45 ∷ 54 ∷ 63 ∷ 66 ∷ [])
    ∷ (15 ∷ 24 ∷ 33 ∷ 36 ∷ [])
    ∷ (63 ∷ 66 ∷ 75 ∷ 84 ∷ [])
    ∷ (33 ∷ 42 ∷ 51 ∷ 63 ∷ [])
    ∷ (36 ∷ 48 ∷ 57 ∷ 66 ∷ [])
    ∷ (12 ∷ 21 ∷ 33 ∷ [])
    ∷ (27 ∷ 18 ∷ 36 ∷ [])
    ∷ (63 ∷ 72 ∷ 81 ∷ [])
    ∷ (66 ∷ 78 ∷ 87 ∷ [])
    -- 3 × 4, mines in the outer columns and at the left between them
    ∷ (33 ∷ 36 ∷ 43 ∷ 44 ∷ 46 ∷ 53 ∷ 56 ∷ [])
    ∷ (13 ∷ 14 ∷ 16 ∷ 23 ∷ 26 ∷ [])
    ∷ (73 ∷ 76 ∷ 83 ∷ 84 ∷ 86 ∷ [])
    ∷ (33 ∷ 41 ∷ 43 ∷ 53 ∷ [])
    ∷ (36 ∷ 46 ∷ 47 ∷ 56 ∷ [])
    ∷ (11 ∷ 13 ∷ 23 ∷ [])
    ∷ (16 ∷ 17 ∷ 26 ∷ [])
    ∷ (73 ∷ 81 ∷ 83 ∷ [])
    ∷ (76 ∷ 86 ∷ 87 ∷ [])
    -- 3 × 4, at the right between them
    ∷ (33 ∷ 36 ∷ 43 ∷ 45 ∷ 46 ∷ 53 ∷ 56 ∷ [])
    ∷ (13 ∷ 15 ∷ 16 ∷ 23 ∷ 26 ∷ [])
    ∷ (73 ∷ 76 ∷ 83 ∷ 85 ∷ 86 ∷ [])
    ∷ (33 ∷ 42 ∷ 43 ∷ 53 ∷ [])
    ∷ (36 ∷ 46 ∷ 48 ∷ 56 ∷ [])
    ∷ (12 ∷ 13 ∷ 23 ∷ [])
    ∷ (16 ∷ 18 ∷ 26 ∷ [])
    ∷ (73 ∷ 82 ∷ 83 ∷ [])
    ∷ (76 ∷ 86 ∷ 88 ∷ [])
    -- 3 × 3, mines around a safe cell
    ∷ (33 ∷ 34 ∷ 35 ∷ 43 ∷ 45 ∷ 53 ∷ 54 ∷ 55 ∷ [])
    ∷ (13 ∷ 15 ∷ 23 ∷ 24 ∷ 25 ∷ [])
    ∷ (73 ∷ 74 ∷ 75 ∷ 83 ∷ 85 ∷ [])
    ∷ (31 ∷ 32 ∷ 42 ∷ 51 ∷ 52 ∷ [])
    ∷ (37 ∷ 38 ∷ 47 ∷ 57 ∷ 58 ∷ [])
    ∷ (12 ∷ 21 ∷ 22 ∷ [])
    ∷ (17 ∷ 27 ∷ 28 ∷ [])
    ∷ (71 ∷ 72 ∷ 82 ∷ [])
    ∷ (77 ∷ 78 ∷ 87 ∷ [])
    -- 4 × 3, mines in the outer rows and at the top between them
    ∷ (33 ∷ 34 ∷ 35 ∷ 44 ∷ 63 ∷ 64 ∷ 65 ∷ [])
    ∷ (14 ∷ 33 ∷ 34 ∷ 35 ∷ [])
    ∷ (63 ∷ 64 ∷ 65 ∷ 74 ∷ [])
    ∷ (31 ∷ 32 ∷ 41 ∷ 61 ∷ 62 ∷ [])
    ∷ (37 ∷ 38 ∷ 48 ∷ 67 ∷ 68 ∷ [])
    ∷ (11 ∷ 31 ∷ 32 ∷ [])
    ∷ (18 ∷ 37 ∷ 38 ∷ [])
    ∷ (61 ∷ 62 ∷ 71 ∷ [])
    ∷ (67 ∷ 68 ∷ 78 ∷ [])
    -- 4 × 3, at the bottom between them
    ∷ (33 ∷ 34 ∷ 35 ∷ 54 ∷ 63 ∷ 64 ∷ 65 ∷ [])
    ∷ (24 ∷ 33 ∷ 34 ∷ 35 ∷ [])
    ∷ (63 ∷ 64 ∷ 65 ∷ 84 ∷ [])
    ∷ (31 ∷ 32 ∷ 51 ∷ 61 ∷ 62 ∷ [])
    ∷ (37 ∷ 38 ∷ 58 ∷ 67 ∷ 68 ∷ [])
    ∷ (21 ∷ 31 ∷ 32 ∷ [])
    ∷ (28 ∷ 37 ∷ 38 ∷ [])
    ∷ (61 ∷ 62 ∷ 81 ∷ [])
    ∷ (67 ∷ 68 ∷ 88 ∷ [])
    -- the diagonals in the four corners, where the corner cell is not as the shapes above have it
    ∷ (22 ∷ 33 ∷ [])
    ∷ (12 ∷ 11 ∷ 21 ∷ 33 ∷ [])
    ∷ (17 ∷ 18 ∷ 28 ∷ 36 ∷ [])
    ∷ (27 ∷ 36 ∷ [])
    ∷ (63 ∷ 71 ∷ 81 ∷ 82 ∷ [])
    ∷ (63 ∷ 72 ∷ [])
    ∷ (66 ∷ 77 ∷ [])
    ∷ (66 ∷ 78 ∷ 87 ∷ 88 ∷ [])
    ∷ []

pub every_shape_found : all decides boards ≡ true
unfolding boards decides board among_mines framed found_at found_anywhere found_in_corner pattern_found
every_shape_found = refl

-- ---- answers

-- case 9: 3 × 3, all mines but the first cell
pub all_mines_but_one : unsolvable_structure 3 3 (3 ∷ replicate 8 255) ≡ Ok true
unfolding unsolvable_structure pattern_tested size_ok length_ok board_cells_ok among_mines framed found_at found_anywhere found_in_corner pattern_found
all_mines_but_one = refl

-- no mine; and any number is accepted
pub no_mine : unsolvable_structure 3 3 (8 ∷ replicate 8 0) ≡ Ok false
unfolding unsolvable_structure pattern_tested size_ok length_ok board_cells_ok among_mines framed found_at found_anywhere found_in_corner pattern_found
no_mine = refl

pub two_rows_lem : unsolvable_structure 2 3 (replicate 6 255) ≡ Err Size
unfolding unsolvable_structure pattern_tested size_ok
two_rows_lem = refl

pub thirty_three_columns : unsolvable_structure 3 33 (replicate 99 255) ≡ Err Size
unfolding unsolvable_structure pattern_tested size_ok
thirty_three_columns = refl

pub eight_cells : unsolvable_structure 3 3 (replicate 8 255) ≡ Err Length
unfolding unsolvable_structure pattern_tested size_ok length_ok
eight_cells = refl

pub nine : unsolvable_structure 3 3 (replicate 9 9) ≡ Err Cell
unfolding unsolvable_structure pattern_tested size_ok length_ok board_cells_ok
nine = refl
