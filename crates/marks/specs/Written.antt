-- A value written at cells of a position. Assumes nothing.
use Rattle.std.specs.Prelude.{cond, List, map, ℕ, length, get_or}
use Rattle.lists.specs.Lists.{range, has}

-- the position with each listed cell set to a value
unfoldable pub written : ℕ → List ℕ → List ℕ → List ℕ
written value l p = map (λ c. cond (has l c) value (get_or p c 0)) (range 0 (length p))
