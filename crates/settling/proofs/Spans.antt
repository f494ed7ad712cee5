-- The values that the equations of a list leave a group (`Leaves`), equation by equation: one more equation leaves no more than it needs, and no fewer than make
-- its other cells do for the rest. Rests on what an equation can take. Assumes nothing.
use mathlib.Core.Path.{refl, sym, ◌∙◌}
use mathlib.Core.List.{List, [], ◌∷◌, ◌++◌}
use Prim.Native.Nat.{ℕ, ◌+◌, ◌-◌, ◌<◌}
use Rattle.std.proofs.Common.{max, min}
use native.Mathlib.Numerals.{add-one}
use native.Mathlib.Omega.{arith}
use lib.Dec.{leb}
use lib.ListN.{length, get_or, take}
use lib.Seq.{take-suc}
use borrow.Author.Tests.{leb-true}
use Rattle.lists.proofs.Tests.{and_left, and_right}
use Rattle.lists.proofs.All.{all_append, all_push, all_head}
use Rattle.search.specs.Trees.{possible}
use Rattle.search.proofs.Lowering.{takes, takes_both}
use Rattle.settling.specs.Settling.{Leaves}

-- no equation leaves every value
pub leaves_all : (size : ℕ) (needs rooms : List ℕ) → Leaves size [] needs rooms 0 size
leaves_all size needs rooms = record { within = omega arith; only = λ v h p. (omega arith, h); each = λ v l u. refl }

-- one equation more: no more than it needs, and so many that its other cells do for the rest
pub leaves_next : {size : ℕ} {es needs rooms : List ℕ} {least most : ℕ} (e : ℕ) → Leaves size es needs rooms least most
    → Leaves size (es ++ (e ∷ [])) needs rooms (max least (get_or needs e 0 + size - get_or rooms e 0)) (min most (get_or needs e 0))
leaves_next {size} {es} {needs} {rooms} {least} {most} e held =
    record {
      within = omega (arith, held.within);
      only = λ v h p.
          let parts = sym (all_append (takes size needs rooms v) es (e ∷ [])) ∙ p in
          let before = held.only v h (and_left (possible size es needs rooms v) (possible size (e ∷ []) needs rooms v) parts) in
          let here = all_head (takes size needs rooms v) e [] (and_right (possible size es needs rooms v) (possible size (e ∷ []) needs rooms v) parts) in
          let less = leb-true v (get_or needs e 0) (and_left (leb v (get_or needs e 0)) (leb (get_or needs e 0 + size) (v + get_or rooms e 0)) here) in
          let more = leb-true (get_or needs e 0 + size) (v + get_or rooms e 0) (and_right (leb v (get_or needs e 0)) (leb (get_or needs e 0 + size) (v + get_or rooms e 0)) here) in
          (omega (arith, before, more), omega (arith, before, less));
      each = λ v l u.
          all_push (takes size needs rooms v) es e (held.each v (omega arith) (omega arith))
          (takes_both size needs rooms v e (omega arith) (omega arith));
    }

-- the same in a list of which an equation is read at a place
pub leaves_more : (es : List ℕ) {size : ℕ} {needs rooms : List ℕ} {least most : ℕ} (k : ℕ) → k < length es → Leaves size (take k es) needs rooms least most
    → Leaves size (take (k + 1) es) needs rooms (max least (get_or needs (get_or es k 0) 0 + size - get_or rooms (get_or es k 0) 0)) (min most (get_or needs (get_or es k 0) 0))
leaves_more es k h held = rw (add-one, take-suc es k 0 h) (leaves_next (get_or es k 0) held)
