-- The counts that a call stores, each where there is room for it: what is stored behind a count leaves it as it is. Assumes nothing.
use mathlib.Core.Path.{◌≡◌, refl, ◌∙◌}
use mathlib.Core.List.{List, [], ◌∷◌}
use Prim.Native.Nat.{ℕ, zero, suc, ◌+◌, ◌<◌}
use native.Mathlib.Omega.{arith}
use lib.ListN.{length, get_or, set, length-set}
use lib.Seq.{sets, get_or-set_same, get_or-set_other}
use Rattle.export.specs.Returned.{laid}

-- stores from a place on change nothing before it
stores_behind : (l : List ℕ) (i : ℕ) (values : List ℕ) (k : ℕ) → k < i → get_or (sets l i values) k 0 ≡ get_or l k 0
stores_behind l i [] k h = refl
stores_behind l i (v ∷ values) k h = stores_behind (set l i v) (suc i) values k (omega arith) ∙ get_or-set_other l i k v 0 (λ e. omega arith)

-- and each is at its place
stores_there : (values l : List ℕ) (i k place : ℕ) → place ≡ i + k → k < length values → place < length l → get_or (sets l i values) place 0 ≡ get_or values k 0
stores_there [] l i k place is h room = absurd (omega arith)
stores_there (v ∷ values) l i zero place is h room =
    let same : place ≡ i = omega (arith, is) in
    rw same (stores_behind (set l i v) (suc i) values i (omega arith) ∙ get_or-set_same l i v 0 (omega (arith, room, same)))
stores_there (v ∷ values) l i (suc k) place is h room = stores_there values (set l i v) (suc i) k place (omega (arith, is)) (omega (arith, h)) (omega (arith, room, length-set l i v))

-- a count that is stored
pub count_stored : (values counts : List ℕ) (k : ℕ) → k < length values → k < length counts → get_or (laid values counts) k 0 ≡ get_or values k 0
unfolding laid
count_stored values counts k h room = stores_there values counts 0 k k (omega arith) h room
