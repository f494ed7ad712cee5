-- combine (SPECIFICATION 11.1): cells of a block with equal columns, that is, cells that the same equations have, form a group, named by the
-- first; groups stand in the order of their first cells. Each equation is then one over groups. Assumes nothing.
use Rattle.std.specs.Prelude.{Bool, cond, List, [], ◌∷◌, ◌++◌, map, ℕ, length, get_or}
use Rattle.lists.specs.Lists.{range, keep, any, has, same, first_place}
use Rattle.blocks.specs.Blocks.{BlockEquation, Block}

-- an equation without cells
abbrev pub no_cells : BlockEquation
no_cells = record { cells = []; rest = 0 }

-- a cell's column: the places of the equations that have it
abbrev pub column : Block → ℕ → List ℕ
column b c = keep (λ (i : ℕ). has (get_or b.equations i no_cells).cells c) (range 0 (length b.equations))

-- two cells have equal columns
abbrev pub alike : Block → ℕ → ℕ → Bool
alike b c d = same (column b c) (column b d)

-- cells are added to a list of first cells, unless one of these is like them
abbrev pub add_firsts : (ℕ → ℕ → Bool) → List ℕ → List ℕ → List ℕ
add_firsts like l [] = l
add_firsts like l (c ∷ cs) = add_firsts like (cond (any (like c) l) l (l ++ (c ∷ []))) cs

-- the first cell of each group
unfoldable pub firsts : Block → List ℕ
firsts b = add_firsts (alike b) [] b.cells

-- the groups' cells, each group in the block's order
unfoldable pub groups : Block → List (List ℕ)
groups b = map (λ (c : ℕ). keep (alike b c) b.cells) (firsts b)

-- the place of a cell's group
unfoldable pub group_of_cell : Block → ℕ → ℕ
group_of_cell b c = first_place (alike b c) (firsts b)

-- how many cells each has
unfoldable pub sizes : Block → List ℕ
sizes b = map (λ (g : List ℕ). length g) (groups b)

-- the places of the groups that an equation has
unfoldable pub groups_in : Block → BlockEquation → List ℕ
groups_in b e = keep (λ (g : ℕ). has e.cells (get_or (firsts b) g 0)) (range 0 (length (firsts b)))
