-- Cells marked in an array of bytes, 1 for a cell of a list and 0 for any other: a mark read, a mark set, and the next cell of a list looked at. Rests
-- on `get_or-set_other`. Assumes nothing.
use mathlib.Core.Path.{◌≡◌, refl, sym, ap, ◌∙◌}
use mathlib.Core.Logic.{inl, inr}
use mathlib.Core.Bool.{Bool, true, ◌||◌, or-false, or-true}
use mathlib.Core.List.{List, [], ◌∷◌, ◌++◌}
use Prim.Native.Nat.{ℕ, ◌+◌, ◌<◌}
use native.Mathlib.Omega.{arith}
use lib.Dec.{eqb, ltb}
use lib.ListN.{length, get_or, set, take, drop, replicate, length-replicate}
use native.Mathlib.Numerals.{add-one}
use lib.Seq.{get_or-set_same, get_or-set_other, take-suc}
use borrow.Author.Tests.{eqb-true, eqb-false, ltb-true}
use Rattle.lists.specs.Lists.{bit, any, has, meets}
use Rattle.lists.proofs.Tests.{Decided, decided, bit_is_one}
use Rattle.lists.proofs.Members.{has_append}
use Rattle.lists.proofs.Occurrences.{any_agree}
use Rattle.lists.proofs.Counted.{counted_more, counted_passes}
use Rattle.lists.proofs.Elements.{replicate_all}
use Rattle.grid.specs.declared.window.UpToEight.{UpToEight}
use Rattle.blocks.specs.Places.{marked, Marks, OnBoard}

-- ---- a mark read

pub marks_has : {marks cells : List ℕ} → Marks marks cells → (c : ℕ) → marked marks c ≡ has cells c
marks_has {marks} {cells} h c = ap (λ (n : ℕ). eqb n 1) (h.at c) ∙ bit_is_one (has cells c)

pub marks_meets : {marks cells : List ℕ} → Marks marks cells → (l : List ℕ) → any (marked marks) l ≡ meets l cells
marks_meets {marks} {cells} h l = any_agree (marked marks) (has cells) l (λ c m. marks_has h c)

-- ---- a mark set

pub marks_push : (marks cells : List ℕ) (c : ℕ) → c < length marks → Marks marks cells → Marks (set marks c 1) (cells ++ (c ∷ []))
marks_push marks cells c u h = record { at = λ d. go d (decided (eqb d c)) }
  where
    go : (d : ℕ) → Decided (eqb d c) → get_or (set marks c 1) d 0 ≡ bit (has (cells ++ (c ∷ [])) d)
    go d (inl e) =
        let w : d ≡ c = eqb-true d c e in
        let there : has (cells ++ (c ∷ [])) d ≡ true = has_append cells (c ∷ []) d ∙ rw e (or-true (has cells d)) in
        ap (λ (x : ℕ). get_or (set marks c 1) x 0) w ∙ get_or-set_same marks c 1 0 u ∙ sym (ap bit there)
    go d (inr e) =
        let same : has (cells ++ (c ∷ [])) d ≡ has cells d = has_append cells (c ∷ []) d ∙ rw e (or-false (has cells d)) in
        get_or-set_other marks c d 1 0 (eqb-false d c e) ∙ h.at d ∙ sym (ap bit same)

-- nothing is marked
pub marks_none : (n : ℕ) → Marks (replicate n 0) []
marks_none n = record { at = λ c. replicate_all (λ i x. x ≡ 0) n 0 0 (λ i u. refl) (λ i u. refl) c }

-- the next cell of a list
pub marks_next : (marks cells : List ℕ) (k c : ℕ) → k < length cells → c ≡ get_or cells k 0 → c < length marks → Marks marks (take k cells)
    → Marks (set marks c 1) (take (k + 1) cells)
marks_next marks cells k c h at u m = rw (add-one, take-suc cells k 0 h, ← at) (marks_push marks (take k cells) c u m)

-- the first mark
pub marks_first : (n c : ℕ) → c < n → Marks (set (replicate n 0) c 1) (c ∷ [])
marks_first n c h = marks_push (replicate n 0) [] c (omega (arith, length-replicate {A = ℕ} n 0)) (marks_none n)

-- as a test
pub marked_set : (marks : List ℕ) (c d : ℕ) → c < length marks → marked (set marks c 1) d ≡ (eqb d c || marked marks d)
marked_set marks c d u = go (decided (eqb d c))
  where
    go : Decided (eqb d c) → marked (set marks c 1) d ≡ (eqb d c || marked marks d)
    go (inl e) =
        let w : d ≡ c = eqb-true d c e in
        ap (λ (n : ℕ). eqb n 1) (ap (λ (x : ℕ). get_or (set marks c 1) x 0) w ∙ get_or-set_same marks c 1 0 u) ∙ sym (ap (λ (t : Bool). t || marked marks d) e)
    go (inr e) = ap (λ (n : ℕ). eqb n 1) (get_or-set_other marks c d 1 0 (eqb-false d c e)) ∙ sym (ap (λ (t : Bool). t || marked marks d) e)

-- ---- the next cell of a list

module _ (list : UpToEight) (on : OnBoard list) (whole : length list.cells ≡ 8) (k x : ℕ) (before : k < list.len) (at : x ≡ get_or list.cells k 0) where
  pub list_next : drop k (take list.len list.cells) ≡ x ∷ drop (k + 1) (take list.len list.cells)
  list_next = rw at (counted_more list.cells list.len k 0 before (omega (arith, on.few)))

  pub list_below : x < 1024
  list_below =
      rw at (ltb-true (get_or list.cells k 0) 1024 (counted_passes list.cells list.len k 0 before (omega (arith, on.few)) (λ c. ltb c 1024) on.below))
