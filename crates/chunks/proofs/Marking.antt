-- Cells marked one after another, and equations looked at one after another: the marks are those of a list, and what is still to come, done to that list,
-- gives what the whole does to the list at the start. Where nothing was newly marked the list is the one at the start. Rests on the laws of marks. Assumes nothing.
use mathlib.Core.Path.{◌≡◌, refl, sym, ap, ◌∙◌}
use mathlib.Core.Logic.{inl, inr}
use mathlib.Core.Bool.{Bool, true, false, cond, ◌&&◌, ◌||◌}
use mathlib.Core.List.{List, [], ◌∷◌, ◌++◌}
use Prim.Native.Nat.{ℕ, ◌+◌, ◌<◌}
use native.Mathlib.Numerals.{add-one}
use lib.Dec.{eqb}
use lib.ListN.{length, set}
use borrow.Author.Tests.{eqb-true}
use Rattle.lists.specs.Lists.{has, add_new}
use Rattle.lists.proofs.Tests.{Decided, decided, clash}
use Rattle.blocks.specs.Blocks.{BlockEquation}
use Rattle.blocks.specs.Places.{marked, Marks}
use Rattle.blocks.proofs.MarkLaws.{marks_has, marked_set}
use Rattle.chunks.specs.Chunks.{widened, connected}
use Rattle.chunks.specs.Splitting.{Changed}
use Rattle.chunks.proofs.Connected.{connected_stays}

-- ---- on the way

-- the marks are those of a list from which `rest` leads to the goal; without a new mark it is the list at the start
pub record Towards (rest : List ℕ → List ℕ) (goal cells marks : List ℕ) (new : Bool) : Type 0 where
  pub list : List ℕ
  pub shown : Marks marks list
  pub left : rest list ≡ goal
  pub same : new ≡ false → list ≡ cells

pub towards_start : {f : List ℕ → List ℕ} {cells marks : List ℕ} → Marks marks cells → Towards f (f cells) cells marks false
towards_start {cells = cells} h = record { list = cells; shown = h; left = refl; same = λ e. refl }

module _ {f : List ℕ → List ℕ} {goal cells marks : List ℕ} {new : Bool} (t : Towards f goal cells marks new) where
  -- nothing is left
  pub towards_end : ((l : List ℕ) → f l ≡ l) → Marks marks goal × (new ≡ false → goal ≡ cells)
  towards_end none =
      let e : t.list ≡ goal = sym (none t.list) ∙ t.left in
      (rw e at t.shown, λ n. sym e ∙ t.same n)

  -- the next thing to do changes nothing
  pub towards_pass : {g : List ℕ → List ℕ} → ((l : List ℕ) → Marks marks l → f l ≡ g l) → Towards g goal cells marks new
  towards_pass h = record { list = t.list; shown = t.shown; left = sym (h t.list t.shown) ∙ t.left; same = t.same }

  -- the next thing to do marks something new
  pub towards_new : {g : List ℕ → List ℕ} {after : List ℕ} (s : List ℕ → List ℕ) → ((l : List ℕ) → Marks marks l → f l ≡ g (s l)) → ((l : List ℕ) → Marks marks l → Marks after (s l))
      → Towards g goal cells after true
  towards_new s h k = record { list = s t.list; shown = k t.list t.shown; left = sym (h t.list t.shown) ∙ t.left; same = λ e. clash true refl e }

  -- the next thing to do marks something new, or does not
  pub towards_changed : {g s : List ℕ → List ℕ} {after : List ℕ} {r : Bool} → ((l : List ℕ) → Marks marks l → f l ≡ g (s l)) → Changed s marks after r → r ≡ false
      → Towards g goal cells after new
  towards_changed {s = s} h k e =
      record {
        list = s t.list;
        shown = k.marks t.list t.shown;
        left = sym (h t.list t.shown) ∙ t.left;
        same = λ n. k.same t.list t.shown e ∙ t.same n;
      }

-- ---- looks one after another

-- the marks are those of a list which so many more looks connect with the cell
pub record Connecting (es : List BlockEquation) (looks all c : ℕ) (marks : List ℕ) : Type 0 where
  pub list : List ℕ
  pub shown : Marks marks list
  pub left : connected es looks list ≡ connected es all (c ∷ [])

module _ {es : List BlockEquation} {looks all c : ℕ} {marks : List ℕ} (k : Connecting es looks all c marks) where
  pub connecting_next : (fewer : ℕ) → looks ≡ fewer + 1 → {after : List ℕ} {new : Bool} → Changed (widened es) marks after new → Connecting es fewer all c after
  connecting_next fewer e w =
      record {
        list = widened es k.list;
        shown = w.marks k.list k.shown;
        left = ap (λ (n : ℕ). connected es n k.list) (sym (add-one fewer) ∙ sym e) ∙ k.left;
      }

  -- a look that marks nothing new changes nothing, nor do the others
  pub connecting_still : {after : List ℕ} {new : Bool} → Changed (widened es) marks after new → new ≡ false → Marks after (connected es all (c ∷ []))
  connecting_still w e =
      let same : widened es k.list ≡ k.list = w.same k.list k.shown e in
      rw (sym (connected_stays es looks k.list same) ∙ k.left) at (rw same at (w.marks k.list k.shown))

  pub connecting_end : looks ≡ 0 → Marks marks (connected es all (c ∷ []))
  connecting_end e = rw (ap (λ (n : ℕ). connected es n k.list) (sym e) ∙ k.left) at k.shown

-- ---- cells added one after another

module _ (marks : List ℕ) {r k : List ℕ} (c : ℕ) (more : k ≡ c ∷ r) where
  pub adding_old : marked marks c ≡ true → (l : List ℕ) → Marks marks l → add_new l k ≡ add_new l r
  adding_old m l h = ap (add_new l) more ∙ ap (λ (t : Bool). add_new (cond t l (l ++ (c ∷ []))) r) (sym (marks_has h c) ∙ m)

  pub adding_new : marked marks c ≡ false → (l : List ℕ) → Marks marks l → add_new l k ≡ add_new (l ++ (c ∷ [])) r
  adding_new m l h = ap (add_new l) more ∙ ap (λ (t : Bool). add_new (cond t l (l ++ (c ∷ []))) r) (sym (marks_has h c) ∙ m)

-- ---- cells of a block done

-- what is done, once the cells of a list that are marked are done too
abbrev pub done_with : List ℕ → List ℕ → List ℕ → ℕ → Bool
done_with done marks l d = marked done d || (marked marks d && has l d)

module _ (done marks : List ℕ) {r l : List ℕ} (c : ℕ) (more : l ≡ c ∷ r) where
  pub done_marked : c < length done → marked marks c ≡ true → (d : ℕ) → done_with (set done c 1) marks r d ≡ done_with done marks l d
  done_marked u m d =
      ap (λ (t : Bool). t || (marked marks d && has r d)) (marked_set done c d u)
      ∙ go (decided (eqb d c))
      ∙ sym (ap (λ (k : List ℕ). done_with done marks k d) more)
    where
      on : (a b : Bool) → true ≡ (a || (true && (true || b)))
      on true b = refl
      on false b = refl

      go : Decided (eqb d c) → ((eqb d c || marked done d) || (marked marks d && has r d)) ≡ (marked done d || (marked marks d && (eqb d c || has r d)))
      go (inl e) = let here : marked marks d ≡ true = ap (marked marks) (eqb-true d c e) ∙ m in rw (e, here) (on (marked done d) (has r d))
      go (inr e) = rw e

  pub done_unmarked : marked marks c ≡ false → (d : ℕ) → done_with done marks r d ≡ done_with done marks l d
  done_unmarked m d = go (decided (eqb d c)) ∙ sym (ap (λ (k : List ℕ). done_with done marks k d) more)
    where
      go : Decided (eqb d c) → done_with done marks r d ≡ done_with done marks (c ∷ r) d
      go (inl e) = let here : marked marks d ≡ false = ap (marked marks) (eqb-true d c e) ∙ m in rw here
      go (inr e) = rw e

pub done_end : (done marks : List ℕ) {l : List ℕ} → l ≡ [] → (d : ℕ) → done_with done marks l d ≡ marked done d
done_end done marks {l} e d = ap (λ (k : List ℕ). done_with done marks k d) e ∙ off (marked done d) (marked marks d)
  where
    off : (a b : Bool) → (a || (b && false)) ≡ a
    off true b = refl
    off false true = refl
    off false false = refl
