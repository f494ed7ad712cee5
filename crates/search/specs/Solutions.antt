-- The solutions of a block and the solution table (SPECIFICATION 11): a solution gives each group a number of mines from 0 to its size with which each equation
-- has its remainder. The table lists every solution once, groups first met in later equations weighing more, and within one equation the earlier group.
-- Assumes nothing.
use Rattle.std.specs.Prelude.{Bool, List, [], ◌∷◌, map, reverse, ℕ, suc, ◌+◌, eqb, length, get_or}
use Rattle.lists.specs.Lists.{range, keep, all, joined, first_place}
use Rattle.blocks.specs.Blocks.{BlockEquation, Block}
use Rattle.groups.specs.Groups.{column, firsts, sizes, groups_in}

-- a sum of numbers
abbrev pub sum : List ℕ → ℕ
sum [] = 0
sum (n ∷ ns) = n + sum ns

-- a row, a number for each group, solves an equation: its groups' numbers add up to its remainder, which is counted from 8
abbrev pub meets_rest : Block → List ℕ → BlockEquation → Bool
meets_rest b row e = eqb (sum (map (λ (g : ℕ). get_or row g 0) (groups_in b e)) + 8) e.rest

-- and all equations of a block
abbrev pub solves : Block → List ℕ → Bool
solves b row = all (meets_rest b row) b.equations

-- all lists of values for groups of these sizes, the first weighing most
abbrev pub vectors : List ℕ → List (List ℕ)
vectors [] = [] ∷ []
vectors (n ∷ ns) = joined (map (λ (v : ℕ). map (λ (row : List ℕ). v ∷ row) (vectors ns)) (range 0 (suc n)))

-- so many groups by their weight, given each group's first equation and the number of equations
abbrev pub by_weight : (ℕ → ℕ) → ℕ → ℕ → List ℕ
by_weight first groups equations = joined (map (λ (e : ℕ). keep (λ (g : ℕ). eqb (first g) e) (range 0 groups)) (reverse (range 0 equations)))

-- the groups by their weight: those that the last equation is the first to have come first
unfoldable pub weighed : Block → List ℕ
weighed b = by_weight (λ (g : ℕ). get_or (column b (get_or (firsts b) g 0)) 0 0) (length (firsts b)) (length b.equations)

-- values in the order of a list of groups, as a row: by group
abbrev pub by_group : List ℕ → List ℕ → List ℕ
by_group order values = map (λ (g : ℕ). get_or values (first_place (eqb g) order) 0) (range 0 (length order))

-- cal_all_solution: every list of values within the sizes, in the order of weights, kept where it solves
unfoldable pub solutions : Block → List (List ℕ)
solutions b = keep (solves b) (map (by_group (weighed b)) (vectors (map (λ (g : ℕ). get_or (sizes b) g 0) (weighed b))))
