-- solve_enumerate on blocks (SPECIFICATION 8.6): a cell that is safe in all solutions of its block, or a mine in all. Lists go by block, then
-- group, then the group's cells. Refusal 6 where some block has no solution. Assumes nothing.
use Rattle.std.specs.Prelude.{Bool, cond, List, [], map, ℕ, eqb, length, get_or}
use Rattle.lists.specs.Lists.{range, keep, any, all, empty, joined}
use Rattle.blocks.specs.Blocks.{Block}
use Rattle.direct.specs.Found.{Found, contradicted, found}
use Rattle.groups.specs.Groups.{firsts, groups, sizes}
use Rattle.search.specs.Solutions.{solutions}

-- the cells of the groups that pass a test, group after group
abbrev pub cells_where : Block → (ℕ → Bool) → List ℕ
cells_where b f = joined (map (λ (g : ℕ). get_or (groups b) g []) (keep f (range 0 (length (firsts b)))))

-- the groups without a mine in every solution
abbrev pub never_mined : Block → ℕ → Bool
never_mined b g = all (λ (row : List ℕ). eqb (get_or row g 0) 0) (solutions b)

-- the groups full of mines in every solution
abbrev pub always_mined : Block → ℕ → Bool
always_mined b g = all (λ (row : List ℕ). eqb (get_or row g 0) (get_or (sizes b) g 0)) (solutions b)

unfoldable pub safe_cells : Block → List ℕ
safe_cells b = cells_where b (never_mined b)

unfoldable pub mine_cells : Block → List ℕ
mine_cells b = cells_where b (always_mined b)

-- some block has no solution
abbrev pub unsolvable : List Block → Bool
unsolvable bs = any (λ (b : Block). empty (solutions b)) bs

-- solve_enumerate: it leaves no blocks
unfoldable pub enumerated : List Block → Found
enumerated bs = cond (unsolvable bs) contradicted (found (joined (map safe_cells bs)) (joined (map mine_cells bs)) [])
