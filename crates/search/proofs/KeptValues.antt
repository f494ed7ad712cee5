-- Values of which only those of some groups changed: one change after another, one group more, one value set. And rows put into them: what was changed of the
-- groups that a row sets plays no part. Rests on `ext_get_or`. Assumes nothing.
use mathlib.Core.Path.{◌≡◌, refl, sym, ◌∙◌}
use mathlib.Core.Logic.{inl, inr}
use mathlib.Core.Bool.{false}
use mathlib.Core.List.{List, [], ◌∷◌}
use Prim.Native.Nat.{ℕ, ◌<◌}
use native.Mathlib.Omega.{arith}
use lib.Dec.{eqb}
use lib.ListN.{length, get_or, set, length-set}
use lib.Seq.{get_or-set_same, get_or-set_other, ext_get_or}
use borrow.Author.Tests.{eqb-true, eqb-false}
use Rattle.lists.specs.Lists.{has}
use Rattle.lists.proofs.Tests.{Decided, decided, or_false_left, or_false_right}
use Rattle.search.specs.Searching.{placed, Kept}
use Rattle.search.proofs.ListLaws.{set_read}

-- ---- which values are kept

pub kept_same : (gs values : List ℕ) → Kept gs values values
kept_same gs values = record { whole = refl; others = λ g h. refl }

pub kept_both : {gs a b c : List ℕ} → Kept gs a b → Kept gs b c → Kept gs a c
kept_both h k = record { whole = k.whole ∙ h.whole; others = λ g e. k.others g e ∙ h.others g e }

-- the first group's value is set, and then those of the others may change
pub kept_set : {gs b : List ℕ} (a : List ℕ) (g v : ℕ) → Kept gs (set a g v) b → Kept (g ∷ gs) a b
kept_set {gs} a g v h = record {
  whole = h.whole ∙ length-set a g v;
  others = λ x e.
      h.others x (or_false_right (eqb x g) (has gs x) e)
      ∙ get_or-set_other a g x v 0 (eqb-false x g (or_false_left (eqb x g) (has gs x) e));
}

-- ---- rows put into values

kept_next : {gs a b : List ℕ} (g v : ℕ) → Kept (g ∷ gs) a b → Kept gs (set a g v) (set b g v)
kept_next {gs} {a} {b} g v h = record {
  whole = length-set b g v ∙ h.whole ∙ sym (length-set a g v);
  others = λ x e. go x e (decided (eqb x g));
}
  where
    go : (x : ℕ) → has gs x ≡ false → Decided (eqb x g) → get_or (set b g v) x 0 ≡ get_or (set a g v) x 0
    go x e (inl w) = rw (eqb-true x g w) (set_read a b g v h.whole)
    go x e (inr w) =
        get_or-set_other b g x v 0 (eqb-false x g w) ∙ h.others x (rw (w, e)) ∙ sym (get_or-set_other a g x v 0 (eqb-false x g w))

-- a row that sets each of the groups
pub placed_kept : (gs row a b : List ℕ) → Kept gs a b → length row ≡ length gs → placed b gs row ≡ placed a gs row
placed_kept [] row a b h e = ext_get_or 0 b a h.whole (λ i u. h.others i refl)
placed_kept (g ∷ gs) [] a b h e = absurd (omega arith)
placed_kept (g ∷ gs) (v ∷ row) a b h e = placed_kept gs row (set a g v) (set b g v) (kept_next g v h) (omega arith)

-- ---- the first group's value is read as it was set

pub kept_first : {gs b : List ℕ} (a : List ℕ) (g v : ℕ) → Kept gs (set a g v) b → has gs g ≡ false → g < length a → get_or b g 0 ≡ v
kept_first a g v h e u = h.others g e ∙ get_or-set_same a g v 0 u
