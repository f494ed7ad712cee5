-- Cited by no public contract. The search for solutions (SPECIFICATION 11.2, 14.3): groups are set one after another, each to a number of mines from 0 to its
-- size. The state is, for each equation, what it still needs, and how many cells its unset groups have. A value that an equation cannot take, or after which
-- it could not get what it needs, is not tried; where no group is left, every equation must have what it needs. The order of the groups is an argument.
-- Assumes nothing.
use Rattle.std.specs.Prelude.{Bool, cond, ◌&&◌, List, [], ◌∷◌, map, ℕ, suc, ◌+◌, ◌-◌, leb, eqb, get_or, set}
use Rattle.lists.specs.Lists.{range, all, joined}

-- the numbers at some places, each lowered
abbrev pub lowered : ℕ → List ℕ → List ℕ → List ℕ
lowered v [] l = l
lowered v (e ∷ es) l = lowered v es (set l e (get_or l e 0 - v))

-- may a group of so many cells, which these equations have, get v mines? No more than each needs; and the cells of its other groups must do for the rest
abbrev pub possible : ℕ → List ℕ → List ℕ → List ℕ → ℕ → Bool
possible size es needs rooms v = all (λ (e : ℕ). leb v (get_or needs e 0) && leb (get_or needs e 0 + size) (v + get_or rooms e 0)) es

module _ (size : ℕ → ℕ) (column : ℕ → List ℕ) where
  -- what follows for each of k values of group g, from v up; `sub` goes on with the other groups
  abbrev pub branches : (List ℕ → List ℕ → List (List ℕ)) → ℕ → ℕ → ℕ → List ℕ → List ℕ → List (List ℕ)
  branches sub g v k needs rooms =
      joined (map (λ (x : ℕ). cond (possible (size g) (column g) needs rooms x)
      (map (λ (row : List ℕ). x ∷ row) (sub (lowered x (column g) needs) (lowered (size g) (column g) rooms))) []) (range v k))

  -- the values of the groups of a list, one row for each solution, in the order in which the search finds them
  abbrev pub tree : List ℕ → List ℕ → List ℕ → List (List ℕ)
  tree [] needs rooms = cond (all (λ n. eqb n 0) needs) ([] ∷ []) []
  tree (g ∷ gs) needs rooms = branches (tree gs) g 0 (suc (size g)) needs rooms
