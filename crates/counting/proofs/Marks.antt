-- Places marked in an array of bytes by a test: nowhere, at one place, by one test after another; what is marked stays marked; and where everything that a test
-- asks for is marked already, nothing changes. Assumes nothing.
use mathlib.Core.Path.{◌≡◌, refl, sym, ap, ◌∙◌}
use mathlib.Core.Logic.{inl, inr}
use mathlib.Core.Bool.{Bool, true, false, cond, ◌&&◌, ◌||◌}
use mathlib.Core.List.{List}
use Prim.Native.Nat.{ℕ, ◌<◌}
use lib.Dec.{eqb}
use lib.ListN.{length, get_or, set, replicate, length-set}
use lib.Seq.{get_or-set_same, get_or-set_other}
use borrow.Author.Tests.{eqb-true, eqb-false}
use Rattle.lists.specs.Lists.{bit}
use Rattle.lists.proofs.Tests.{Decided, decided}
use Rattle.lists.proofs.Elements.{replicate_all}
use Rattle.counting.specs.Counting.{Marked}
use Rattle.counting.specs.States.{AllMarked}

module _ (test : ℕ → Bool) (before : List ℕ) where
  -- the test passes nowhere
  pub marked_nowhere : ((x : ℕ) → test x ≡ false) → Marked test before before
  marked_nowhere h = record { whole = refl; at = λ x. rw (h x) }

  -- what it asks for is marked
  pub marked_already : AllMarked test before → Marked test before before
  marked_already h = record { whole = refl; at = λ x. go x (decided (test x)) }
    where
      go : (x : ℕ) → Decided (test x) → get_or before x 0 ≡ cond (test x) 1 (get_or before x 0)
      go x (inl e) = rw e (h x e)
      go x (inr e) = rw e

-- one place, if a test of something else passes
pub marked_place : (before : List ℕ) (g : ℕ) (t : Bool) → g < length before → t ≡ true → Marked (λ x. eqb g x && t) before (set before g 1)
marked_place before g t h e = record { whole = length-set before g 1; at = λ x. go x (decided (eqb g x)) }
  where
    go : (x : ℕ) → Decided (eqb g x) → get_or (set before g 1) x 0 ≡ cond (eqb g x && t) 1 (get_or before x 0)
    go x (inl w) = rw (w, e, ← eqb-true g x w) (get_or-set_same before g 1 0 h)
    go x (inr w) = rw w (get_or-set_other before g x 1 0 (λ z. eqb-false g x w (sym z)))

pub marked_no_place : (before : List ℕ) (g : ℕ) (t : Bool) → t ≡ false → Marked (λ x. eqb g x && t) before before
marked_no_place before g t e = marked_nowhere (λ x. eqb g x && t) before (λ x. go (eqb g x))
  where
    go : (b : Bool) → (b && t) ≡ false
    go true = e
    go false = refl

module _ {f : ℕ → Bool} {a b : List ℕ} (m : Marked f a b) where
  -- another test that says the same
  pub marked_same : {g : ℕ → Bool} → ((x : ℕ) → f x ≡ g x) → Marked g a b
  marked_same h = record { whole = m.whole; at = λ x. m.at x ∙ ap (λ (t : Bool). cond t 1 (get_or a x 0)) (h x) }

  -- one test after another
  pub marked_both : {g : ℕ → Bool} {c : List ℕ} → Marked g b c → Marked (λ x. f x || g x) a c
  marked_both {g} {c} n = record { whole = n.whole ∙ m.whole; at = λ x. n.at x ∙ go x (f x) (g x) (m.at x) }
    where
      go : (x : ℕ) (s t : Bool) → get_or b x 0 ≡ cond s 1 (get_or a x 0) → cond t 1 (get_or b x 0) ≡ cond (s || t) 1 (get_or a x 0)
      go x true true e = refl
      go x true false e = e
      go x false t e = ap (λ (n : ℕ). cond t 1 n) e

  -- what the test asks for is marked afterwards
  pub marked_all : AllMarked f b
  marked_all x e = m.at x ∙ rw e

  -- and what was marked still is
  pub marked_stays : (x : ℕ) → get_or a x 0 ≡ 1 → get_or b x 0 ≡ 1
  marked_stays x e = m.at x ∙ go (f x)
    where
      go : (t : Bool) → cond t 1 (get_or a x 0) ≡ 1
      go true = refl
      go false = e

-- where nothing was marked, a mark says that the test passes
pub marked_from_none : (n : ℕ) {f : ℕ → Bool} {after : List ℕ} → Marked f (replicate n 0) after → (x : ℕ) → get_or after x 0 ≡ bit (f x)
marked_from_none n {f} m x = m.at x ∙ go (f x)
  where
    go : (t : Bool) → cond t 1 (get_or (replicate n 0) x 0) ≡ bit t
    go true = refl
    go false = replicate_all (λ _ v. v ≡ 0) n 0 0 (λ i h. refl) (λ i h. refl) x
