-- A board's own layout has the board's mine total; and a solver or a judge that knows the total opens no less than one that does not. Rests on MoreOpened. Assumes
-- nothing.
use mathlib.Core.Path.{◌≡◌, refl}
use mathlib.Core.Logic.{◌≢◌}
use mathlib.Core.Bool.{Bool, true}
use mathlib.Core.List.{List}
use Prim.Native.Nat.{ℕ, ◌≤◌, ◌<◌}
use lib.ListN.{length}
use lib.Dec.{eqb}
use borrow.Author.Tests.{eq-eqb}
use Rattle.lists.proofs.CountsAlike.{counts_map}
use Rattle.grid.specs.Cells.{cell_of, shows}
use Rattle.fitting.specs.Layouts.{any_layout, of_total}
use Rattle.fitting.specs.Boards.{own, mine_total, Accepted}
use Rattle.fitting.specs.Demand.{Demand3, Demand3Among}
use Rattle.fitting.proofs.MoreOpened.{more_opened}

-- the board's own layout has the board's total
pub own_of_total : (b : List ℕ) → of_total (mine_total b) (own b) ≡ true
own_of_total b = eq-eqb _ (mine_total b) (counts_map (λ (x : Bool). x) (λ (v : ℕ). eqb v 255) b)

-- with the total known, all is shown that is shown without it, with the same numbers; a yes stays a yes, and no fewer cells are opened
pub total_opens_more : (near : ℕ → List ℕ) (b : List ℕ) (s : ℕ) → Accepted near b → s < length b → cell_of b s ≢ 255
    → (v w : Bool) (n k : ℕ) (p q : List ℕ) → Demand3 near b s v n p → Demand3Among near (of_total (mine_total b)) b s w k q
    → ((c : ℕ) → shows p c ≤ 8 → shows q c ≡ shows p c) × (v ≡ true → w ≡ true) × (n ≤ k)
total_opens_more near b s ok l safe = more_opened near any_layout (of_total (mine_total b)) (λ m _. refl) b ok (own_of_total b) s l safe
