-- Laws of equations, for any number of cells. An equation is a sum: the mines among its cells and the known ones make its number. So a remainder
-- below 0 is a number less than the known ones, and the laws are sums of counts. `f` says where the mines are. Rests on the laws of counts.
-- Assumes nothing.
use mathlib.Core.Path.{◌≡◌}
use mathlib.Core.Bool.{Bool, true, false, not}
use mathlib.Core.List.{List, [], ◌∷◌, map}
use Prim.Native.Nat.{ℕ, ◌+◌, ◌<◌}
use native.Mathlib.Omega.{arith}
use lib.ListN.{length}
use lib.Dec.{eqb}
use Rattle.lists.specs.Lists.{keep, has, nodup}
use Rattle.lists.proofs.Members.{nodup_keep}
use Rattle.lists.proofs.Counts.{count_le, count_none, count_full, count_out, count_own}
use Rattle.fitting.specs.Equations.{Equation, Holds, take_out}

-- mines placed as f says solve each equation of a family
abbrev pub Solution : {ι : Type 0} → (ι → Equation) → (ℕ → Bool) → Type 0
Solution {ι} eq f = (i : ι) → Holds f (eq i)

-- ---- one equation

-- the remainder is the number of cells: all are mines
pub all_mines : (f : ℕ → Bool) (e : Equation) → Holds f e → length e.cells + e.known ≡ e.number
    → (c : ℕ) → has e.cells c ≡ true → f c ≡ true
all_mines f e h n c k = count_full f e.cells (omega arith) c k

-- the remainder is 0: all are safe
pub all_safe : (f : ℕ → Bool) (e : Equation) → Holds f e → e.known ≡ e.number → (c : ℕ) → has e.cells c ≡ true → f c ≡ false
all_safe f e h n c k = count_none f e.cells (omega arith) c k

-- a negative remainder: no solution
pub negative_none : (f : ℕ → Bool) (e : Equation) → e.number < e.known → Holds f e → ⊥
negative_none f e n h = omega arith

-- ---- two equations

-- the cells of the first list that the second lacks
abbrev pub own_cells : List ℕ → List ℕ → List ℕ
own_cells k l = keep (λ c. not (has l c)) k

-- the remainder of the first equation is that of the second and the number of the first one's own cells
abbrev pub Exceeds : Equation → Equation → Type 0
Exceeds d e = d.number + e.known ≡ e.number + d.known + length (own_cells d.cells e.cells)

module _ (f : ℕ → Bool) (d e : Equation) (once_d : nodup d.cells ≡ true) (once_e : nodup e.cells ≡ true)
    (holds_d : Holds f d) (holds_e : Holds f e) (exceeds : Exceeds d e) where
  -- then the first one's own cells are mines
  pub subtract_mines : (c : ℕ) → has (own_cells d.cells e.cells) c ≡ true → f c ≡ true
  subtract_mines = count_full f (own_cells d.cells e.cells) (omega (arith, count_own f d.cells e.cells once_d once_e))

  -- and the second one's own cells are safe
  pub subtract_safe : (c : ℕ) → has (own_cells e.cells d.cells) c ≡ true → f c ≡ false
  subtract_safe = count_none f (own_cells e.cells d.cells)
      (omega (arith, count_own f d.cells e.cells once_d once_e, count_le f (own_cells d.cells e.cells)))

-- ---- a found cell is taken out

-- of one equation, which goes on to hold
pub take_holds : (f : ℕ → Bool) (e : Equation) (c : ℕ) (v : Bool) → nodup e.cells ≡ true → f c ≡ v → Holds f e → Holds f (take_out c v e)
unfolding take_out
take_holds f e c v n x h = rw (← x) (omega (arith, count_out f c e.cells n))

-- each equation of a list has no cell twice and holds
abbrev pub AllHold : (ℕ → Bool) → List Equation → Type 0
AllHold f [] = Unit {0}
AllHold f (e ∷ es) = (nodup e.cells ≡ true) × Holds f e × AllHold f es

-- of all equations, which go on to hold; so cells may be taken out one after the other, in any order
pub take_all_hold : (f : ℕ → Bool) (es : List Equation) (c : ℕ) (v : Bool) → f c ≡ v → AllHold f es → AllHold f (map (take_out c v) es)
unfolding take_out
take_all_hold f [] c v x h = tt
take_all_hold f (e ∷ es) c v x h =
    (nodup_keep (λ y. not (eqb y c)) e.cells h.0, take_holds f e c v h.0 x h.1, take_all_hold f es c v x h.2)
