-- Numbers at some places lowered, and raised again. Where no place stands twice and none is lowered by more than it is, raising gives back what was there. The
-- loops that do it: what is still to be lowered or raised, from here on, gives what the whole gives. And a value that is possible cuts nothing off. Assumes nothing.
use mathlib.Core.Path.{◌≡◌, refl, sym, ap, ◌∙◌}
use mathlib.Core.Logic.{◌≢◌}
use mathlib.Core.Bool.{Bool, true, false, ◌&&◌, and-false}
use mathlib.Core.List.{List, [], ◌∷◌}
use Prim.Native.Nat.{ℕ, ◌+◌, ◌-◌, ◌*◌, ◌≤◌, ◌<◌}
use native.Mathlib.Omega.{arith}
use lib.Dec.{eqb, leb, ltb}
use lib.ListN.{length, get_or, set, length-set}
use lib.Seq.{get_or-set_same, get_or-set_other, set-get_or, set-set, set_comm}
use borrow.Author.Tests.{leb-true, le-leb, lt-leb, ltb-true, eqb-false}
use Rattle.lists.specs.Lists.{all, has, nodup}
use Rattle.lists.proofs.Tests.{clash, and_left, and_right, or_false_left, or_false_right}
use Rattle.lists.proofs.Members.{nodup_head, nodup_tail}
use Rattle.lists.proofs.All.{all_head, all_tail, all_implied, has_all, all_has}
use Rattle.lists.proofs.Elements.{set_all}
use Rattle.search.specs.Trees.{lowered, possible}
use Rattle.search.specs.Searching.{raised, State}
use Rattle.search.proofs.TreeLaws.{lowered_length}

-- ---- lowered

-- no number grows
pub lowered_less : (v : ℕ) (es l : List ℕ) (i : ℕ) → get_or (lowered v es l) i 0 ≤ get_or l i 0
lowered_less v [] l i = omega arith
lowered_less v (e ∷ es) l i =
    omega (
      arith,
      lowered_less v es (set l e (get_or l e 0 - v)) i,
      set_all (λ k x. x ≤ get_or l k 0) l 0 e (get_or l e 0 - v) (omega arith) (λ k. omega arith) i,
    )

-- a place that is not among them
module _ (e : ℕ) where
  other : (f : ℕ) (es : List ℕ) → has (f ∷ es) e ≡ false → e ≢ f
  other f es h = eqb-false e f (or_false_left (eqb e f) (has es e) h)

  pub lowered_other : (v : ℕ) (es l : List ℕ) → has es e ≡ false → get_or (lowered v es l) e 0 ≡ get_or l e 0
  lowered_other v [] l h = refl
  lowered_other v (f ∷ es) l h =
      lowered_other v es (set l f (get_or l f 0 - v)) (or_false_right (eqb e f) (has es e) h)
      ∙ get_or-set_other l f e (get_or l f 0 - v) 0 (other f es h)

  lowered_set : (v : ℕ) (es l : List ℕ) (x : ℕ) → has es e ≡ false → set (lowered v es l) e x ≡ lowered v es (set l e x)
  lowered_set v [] l x h = refl
  lowered_set v (f ∷ es) l x h =
      lowered_set v es (set l f (get_or l f 0 - v)) x (or_false_right (eqb e f) (has es e) h)
      ∙ ap (lowered v es) (set_comm l f e (get_or l f 0 - v) x (λ w. other f es h (sym w)) ∙ ap (λ (y : ℕ). set (set l e x) f (y - v)) (sym (get_or-set_other l e f x 0 (λ w. other f es h (sym w)))))

-- ---- raised again

-- v can be taken from each number at the places
abbrev pub Enough : ℕ → List ℕ → List ℕ → Type 0
Enough v es l = all (λ e. leb v (get_or l e 0)) es ≡ true

pub raised_lowered : (v : ℕ) (es l : List ℕ) → nodup es ≡ true → Enough v es l → all (λ e. ltb e (length l)) es ≡ true → raised v es (lowered v es l) ≡ l
raised_lowered v [] l n h b = refl
raised_lowered v (e ∷ es) l n h b =
    let out : has es e ≡ false = nodup_head e es n in
    let much : v ≤ get_or l e 0 = leb-true v (get_or l e 0) (all_head (λ x. leb v (get_or l x 0)) e es h) in
    let inside : e < length l = ltb-true e (length l) (all_head (λ x. ltb x (length l)) e es b) in
    let read : get_or (lowered v es (set l e (get_or l e 0 - v))) e 0 ≡ get_or l e 0 - v = lowered_other e v es (set l e (get_or l e 0 - v)) out ∙ get_or-set_same l e (get_or l e 0 - v) 0 inside in
    let back : get_or (lowered v es (set l e (get_or l e 0 - v))) e 0 + v ≡ get_or l e 0 = omega arith in
    ap (λ (x : ℕ). raised v es (set (lowered v es (set l e (get_or l e 0 - v))) e x)) back
    ∙ ap (raised v es) (lowered_set e v es (set l e (get_or l e 0 - v)) (get_or l e 0) out ∙ ap (lowered v es) (set-set l e (get_or l e 0 - v) (get_or l e 0) ∙ set-get_or l e 0))
    ∙ raised_lowered v es l (nodup_tail e es n) (all_tail (λ x. leb v (get_or l x 0)) e es h) (all_tail (λ x. ltb x (length l)) e es b)

-- ---- the loops

-- `rest` is still to be lowered, of `es` in `before`
pub record Lowering (v : ℕ) (es before numbers rest : List ℕ) : Type 0 where
  pub whole : length numbers ≡ 1024
  pub once : nodup rest ≡ true
  pub enough : Enough v rest numbers
  pub left : lowered v rest numbers ≡ lowered v es before

module _ {v : ℕ} {es before numbers rest : List ℕ} (s : Lowering v es before numbers rest) where
  module _ {e : ℕ} {r : List ℕ} (more : rest ≡ e ∷ r) where
    pub lowering_enough : v ≤ get_or numbers e 0
    lowering_enough = leb-true v (get_or numbers e 0) (all_head (λ x. leb v (get_or numbers x 0)) e r (rw more at s.enough))

    pub lowering_next : Lowering v es before (set numbers e (get_or numbers e 0 - v)) r
    lowering_next =
        let once : nodup (e ∷ r) ≡ true = rw more at s.once in
        let out : has r e ≡ false = nodup_head e r once in
        let tests : Enough v r numbers = all_tail (λ x. leb v (get_or numbers x 0)) e r (rw more at s.enough) in
        record {
          whole = length-set numbers e (get_or numbers e 0 - v) ∙ s.whole;
          once = nodup_tail e r once;
          enough = has_all (λ x. leb v (get_or (set numbers e (get_or numbers e 0 - v)) x 0)) r
              (λ x h.
              ap (leb v) (get_or-set_other numbers e x (get_or numbers e 0 - v) 0 (λ w. clash (has r e) (rw w at h) out))
              ∙ all_has (λ y. leb v (get_or numbers y 0)) r tests x h);
          left = ap (λ (k : List ℕ). lowered v k numbers) (sym more) ∙ s.left;
        }

  pub lowering_end : rest ≡ [] → numbers ≡ lowered v es before
  lowering_end none = ap (λ (k : List ℕ). lowered v k numbers) (sym none) ∙ s.left

-- `rest` is still to be raised, of `es` in `before`, after k turns
pub record Raising (v : ℕ) (es before numbers : List ℕ) (k : ℕ) (rest : List ℕ) : Type 0 where
  pub whole : length numbers ≡ 1024
  pub small : (e : ℕ) → get_or numbers e 0 ≤ 8 + 8 * k
  pub left : raised v rest numbers ≡ raised v es before

module _ {v : ℕ} {es before numbers : List ℕ} {k : ℕ} {rest : List ℕ} (s : Raising v es before numbers k rest) where
  pub raising_next : {e : ℕ} {r : List ℕ} → v ≤ 8 → rest ≡ e ∷ r → Raising v es before (set numbers e (get_or numbers e 0 + v)) (k + 1) r
  raising_next {e} {r} few more =
      record {
        whole = length-set numbers e (get_or numbers e 0 + v) ∙ s.whole;
        small = set_all (λ i x. x ≤ 8 + 8 * (k + 1)) numbers 0 e (get_or numbers e 0 + v) (omega (arith, s.small e)) (λ i. omega (arith, s.small i));
        left = ap (λ (t : List ℕ). raised v t numbers) (sym more) ∙ s.left;
      }

  pub raising_end : rest ≡ [] → numbers ≡ raised v es before
  raising_end none = ap (λ (t : List ℕ). raised v t numbers) (sym none) ∙ s.left

-- ---- a possible value

-- an equation can take the value
abbrev pub takes : ℕ → List ℕ → List ℕ → ℕ → ℕ → Bool
takes size needs rooms v e = leb v (get_or needs e 0) && leb (get_or needs e 0 + size) (v + get_or rooms e 0)

module _ (size : ℕ) (needs rooms : List ℕ) (v e : ℕ) where
  pub takes_less : get_or needs e 0 < v → takes size needs rooms v e ≡ false
  takes_less h = rw (lt-leb v (get_or needs e 0) h)

  pub takes_more : v + get_or rooms e 0 < get_or needs e 0 + size → takes size needs rooms v e ≡ false
  takes_more h = rw (lt-leb (get_or needs e 0 + size) (v + get_or rooms e 0) h) (and-false (leb v (get_or needs e 0)))

  pub takes_both : v ≤ get_or needs e 0 → get_or needs e 0 + size ≤ v + get_or rooms e 0 → takes size needs rooms v e ≡ true
  takes_both h k = rw (le-leb v (get_or needs e 0) h) (le-leb (get_or needs e 0 + size) (v + get_or rooms e 0) k)

module _ (size : ℕ) (es needs rooms : List ℕ) (v : ℕ) where
  pub possible_needs : possible size es needs rooms v ≡ true → Enough v es needs
  possible_needs h = all_implied (takes size needs rooms v) (λ e. leb v (get_or needs e 0)) es (λ e t. and_left (leb v (get_or needs e 0)) (leb (get_or needs e 0 + size) (v + get_or rooms e 0)) t) h

  pub possible_rooms : possible size es needs rooms v ≡ true → Enough size es rooms
  possible_rooms h =
      all_implied (takes size needs rooms v) (λ e. leb size (get_or rooms e 0)) es
      (λ e t.
      le-leb size (get_or rooms e 0)
      (omega (
        arith,
        leb-true v (get_or needs e 0) (and_left (leb v (get_or needs e 0)) (leb (get_or needs e 0 + size) (v + get_or rooms e 0)) t),
        leb-true (get_or needs e 0 + size) (v + get_or rooms e 0) (and_right (leb v (get_or needs e 0)) (leb (get_or needs e 0 + size) (v + get_or rooms e 0)) t),
      )))
      h

-- ---- the state after lowering

pub state_lowered : {equations : ℕ} {needs rooms : List ℕ} (v size : ℕ) (es : List ℕ) → State equations needs rooms → State equations (lowered v es needs) (lowered size es rooms)
state_lowered {equations} {needs} {rooms} v size es s =
    record {
      whole_needs = lowered_length v es needs ∙ s.whole_needs;
      whole_rooms = lowered_length size es rooms ∙ s.whole_rooms;
      needs_small = λ e. omega (arith, lowered_less v es needs e, s.needs_small e);
      rooms_small = λ e. omega (arith, lowered_less size es rooms e, s.rooms_small e);
      past = λ e h. omega (arith, lowered_less v es needs e, s.past e h);
    }
