-- The first cell of each class of an equivalence: `add_firsts` goes through the cells and keeps one that is like none kept before. So each cell is like
-- exactly one that is kept, which is the first of the cells like it, and those kept stand in the order in which they were met. The invariant, `FirstOf`,
-- says this of the cells met so far. Assumes nothing.
use mathlib.Core.Path.{◌≡◌, refl, sym, ◌∙◌}
use mathlib.Core.Logic.{◌⊎◌, inl, inr}
use mathlib.Core.Bool.{Bool, true, false, ◌||◌}
use mathlib.Core.List.{List, [], ◌∷◌, ◌++◌, append_assoc, append-nil}
use Prim.Native.Nat.{ℕ, ◌≤◌}
use native.Mathlib.Omega.{arith}
use lib.ListN.{length, length-append}
use borrow.Author.Tests.{ne_eqb, not-false}
use Rattle.lists.specs.Lists.{keep, any, empty, has, nodup, same}
use Rattle.lists.proofs.Tests.{Decided, decided, clash, or_left, or_right}
use Rattle.lists.proofs.Members.{has_head, kept_has, nodup_append}
use Rattle.lists.proofs.Counts.{any_at, any_of}
use Rattle.lists.proofs.Kept.{keep_append, keep_ext, some_kept}
use Rattle.lists.proofs.Unions.{any_append, last_cases, last_own, last_other}
use Rattle.lists.proofs.Occurrences.{empty_nil}
use Rattle.lists.proofs.Among.{among_left, among_nodup}
use Rattle.lists.proofs.TurnedRound.{nodup_apart}
use Rattle.lists.proofs.PartedLists.{same_equal, same_self}
use Rattle.groups.specs.Groups.{add_firsts}

-- a test of two numbers that is an equivalence
pub record Equivalence (like : ℕ → ℕ → Bool) : Type 0 where
  pub reflexive : (c : ℕ) → like c c ≡ true
  pub symmetric : (c d : ℕ) → like c d ≡ true → like d c ≡ true
  pub transitive : (c d e : ℕ) → like c d ≡ true → like d e ≡ true → like c e ≡ true

-- numbers with equal lists
pub same_equivalence : (f : ℕ → List ℕ) → Equivalence (λ c d. same (f c) (f d))
same_equivalence f = record {
  reflexive = λ c. same_self (f c);
  symmetric = λ c d h. rw (same_equal (f c) (f d) h) (same_self (f d));
  transitive = λ c d e h k. rw (same_equal (f c) (f d) h) k;
}

-- what is true of the first cells l of the cells met so far
pub record FirstOf (like : ℕ → ℕ → Bool) (met l : List ℕ) : Type 0 where
  -- each cell met is like one of them
  pub covered : (c : ℕ) → has met c ≡ true → any (like c) l ≡ true
  -- no two of them are alike
  pub unlike : (c d : ℕ) → has l c ≡ true → has l d ≡ true → like c d ≡ true → c ≡ d
  pub once : nodup l ≡ true
  -- each is the first of the cells like it
  pub first : (c : ℕ) → has l c ≡ true → (r : List ℕ) × (keep (like c) met ≡ c ∷ r)
  -- they are no more than the cells met
  pub few : length l ≤ length met
  -- and stand in the order in which they were met, if no cell was met twice
  pub in_order : nodup met ≡ true → keep (has l) met ≡ l

module _ (like : ℕ → ℕ → Bool) (same : Equivalence like) where
  -- a first cell was met
  pub first_met_lem : {met l : List ℕ} → FirstOf like met l → (c : ℕ) → has l c ≡ true → has met c ≡ true
  first_met_lem {met} o c h = let (r, e) = o.first c h in kept_has (like c) met c (rw e (has_head c r))

  module _ {met l : List ℕ} (o : FirstOf like met l) (x : ℕ) where
    -- where no cell is met twice, the next one was not met before
    front_once : nodup (met ++ (x ∷ [])) ≡ true → nodup met ≡ true
    front_once = among_nodup met (met ++ (x ∷ [])) (among_left met (x ∷ []))

    new : nodup (met ++ (x ∷ [])) ≡ true → has met x ≡ false
    new n = go (decided (has met x))
      where
        go : Decided (has met x) → has met x ≡ false
        go (inl k) = clash (has (x ∷ []) x) (has_head x []) (nodup_apart met (x ∷ []) n x k)
        go (inr k) = k

    -- the next cell is like one of the first ones
    first_passed : any (like x) l ≡ true → FirstOf like (met ++ (x ∷ [])) l
    first_passed h = record {
      covered = λ c k. cover c (last_cases met x c k);
      unlike = o.unlike;
      once = o.once;
      first = λ c k. let (r, e) = o.first c k in (r ++ keep (like c) (x ∷ []), keep_append (like c) met (x ∷ []) ∙ rw e);
      few = omega (arith, o.few, length-append met (x ∷ []));
      in_order = λ n. keep_append (has l) met (x ∷ []) ∙ rw (other n (decided (has l x)), append-nil, o.in_order (front_once n));
    }
      where
        cover : (c : ℕ) → (has met c ≡ true) ⊎ (c ≡ x) → any (like c) l ≡ true
        cover c (inl k) = o.covered c k
        cover c (inr e) = rw e h

        other : nodup (met ++ (x ∷ [])) ≡ true → Decided (has l x) → has l x ≡ false
        other n (inl k) = clash (has met x) (first_met_lem o x k) (new n)
        other n (inr k) = k

    -- or it is the first of its class
    first_added : any (like x) l ≡ false → FirstOf like (met ++ (x ∷ [])) (l ++ (x ∷ []))
    first_added h = record {
      covered = λ c k. any_append (like c) l (x ∷ []) ∙ cover c (last_cases met x c k);
      unlike = λ c d k j. apart c d (last_cases l x c k) (last_cases l x d j);
      once = nodup_append l (x ∷ []) o.once refl (λ c k. rw (ne_eqb c x (λ w. none x (rw w at k) (same.reflexive x))));
      first = λ c k. begins c (last_cases l x c k);
      few = omega (arith, o.few, length-append met (x ∷ []), length-append l (x ∷ []));
      in_order = λ n.
          keep_append (has (l ++ (x ∷ []))) met (x ∷ [])
          ∙ rw (
            keep_ext (has (l ++ (x ∷ []))) (has l) met (before n),
            o.in_order (front_once n),
            last_own l x,
          );
    }
      where
        -- no first cell is like it
        none : (c : ℕ) → has l c ≡ true → like x c ≡ true → ⊥
        none c k e = clash (any (like x) l) (any_of (like x) l c k e) h

        -- so no cell met is
        none_met : Decided (any (like x) met) → any (like x) met ≡ false
        none_met (inr e) = e
        none_met (inl e) =
            let (d, k, w) = any_at (like x) met e in
            let (c, j, v) = any_at (like d) l (o.covered d k) in
            absurd (none c j (same.transitive x d c w v))

        before : nodup (met ++ (x ∷ [])) ≡ true → (c : ℕ) → has met c ≡ true → has (l ++ (x ∷ [])) c ≡ has l c
        before n c k = last_other l x c (λ w. clash (has met x) (rw w at k) (new n))

        cover : (c : ℕ) → (has met c ≡ true) ⊎ (c ≡ x) → (any (like c) l || any (like c) (x ∷ [])) ≡ true
        cover c (inl k) = or_left (any (like c) l) (any (like c) (x ∷ [])) (o.covered c k)
        cover c (inr e) = or_right (any (like c) l) (any (like c) (x ∷ [])) (rw (e, same.reflexive x))

        apart : (c d : ℕ) → (has l c ≡ true) ⊎ (c ≡ x) → (has l d ≡ true) ⊎ (d ≡ x) → like c d ≡ true → c ≡ d
        apart c d (inl k) (inl j) e = o.unlike c d k j e
        apart c d (inl k) (inr j) e = absurd (none c k (same.symmetric c x (rw j at e)))
        apart c d (inr k) (inl j) e = absurd (none d j (rw k at e))
        apart c d (inr k) (inr j) e = k ∙ sym j

        begins : (c : ℕ) → (has l c ≡ true) ⊎ (c ≡ x) → (r : List ℕ) × (keep (like c) (met ++ (x ∷ [])) ≡ c ∷ r)
        begins c (inl k) = let (r, e) = o.first c k in (r ++ keep (like c) (x ∷ []), keep_append (like c) met (x ∷ []) ∙ rw e)
        begins c (inr k) = ([], rw k (keep_append (like x) met (x ∷ []) ∙ rw (nothing, same.reflexive x)))
          where
            nothing : keep (like x) met ≡ []
            nothing =
                empty_nil (keep (like x) met)
                (not-false (empty (keep (like x) met)) (some_kept (like x) met ∙ none_met (decided (any (like x) met))))

  -- so of any cells
  firsts_so_far : (met l cs : List ℕ) → FirstOf like met l → FirstOf like (met ++ cs) (add_firsts like l cs)
  firsts_so_far met l [] o = rw append-nil o
  firsts_so_far met l (x ∷ cs) o = go (decided (any (like x) l)) (λ k. firsts_so_far (met ++ (x ∷ [])) k cs)
    where
      split : (met ++ (x ∷ [])) ++ cs ≡ met ++ (x ∷ cs)
      split = append_assoc met (x ∷ []) cs

      go : Decided (any (like x) l) → ((k : List ℕ) → FirstOf like (met ++ (x ∷ [])) k → FirstOf like ((met ++ (x ∷ [])) ++ cs) (add_firsts like k cs))
          → FirstOf like (met ++ (x ∷ cs)) (add_firsts like l (x ∷ cs))
      go (inl e) ih = rw (e, ← split) (ih l (first_passed o x e))
      go (inr e) ih = rw (e, ← split) (ih (l ++ (x ∷ [])) (first_added o x e))

  pub firsts_of : (cs : List ℕ) → FirstOf like cs (add_firsts like [] cs)
  firsts_of cs = firsts_so_far [] [] cs none
    where
      none : FirstOf like [] []
      none = record {
        covered = λ c h. clash false h refl;
        unlike = λ c d h k e. clash false h refl;
        once = refl;
        first = λ c h. clash false h refl;
        few = omega arith;
        in_order = λ _. refl;
      }
