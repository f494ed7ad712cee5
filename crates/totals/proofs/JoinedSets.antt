-- A set joined with others place by place: a place that holds a number adds its sums, and any other adds none.
-- And the sets of blocks joined one after another. Rests on the laws of sums and of sets in arrays. Assumes nothing.
use mathlib.Core.Path.{◌≡◌, sym, ap, ◌∙◌}
use mathlib.Core.Logic.{◌⊎◌, inl, inr}
use mathlib.Core.Bool.{Bool, true, false, not, ◌&&◌, ◌||◌, and-false, or-false}
use mathlib.Core.List.{List, [], ◌∷◌, ◌++◌, map, map-append, append-nil}
use Prim.Native.Nat.{ℕ, ◌+◌, ◌-◌, ◌≤◌, ◌<◌}
use native.Mathlib.Decide.{dec_lt}
use native.Mathlib.Omega.{arith}
use lib.Dec.{leb, ltb, eqb}
use lib.ListN.{length, get_or, take, drop, replicate, length-take, length-drop, length-append, length-replicate, get_or-append, get_or-eq_default}
use lib.Seq.{length-take-le, take_at, drop_at, get_or-take, get_or-drop, get_or-append-add}
use Rattle.std.proofs.lemmas.List.{get_or-replicate, get_or-reverse, length-reverse}
use Rattle.std.proofs.Common.{reverse}
use borrow.Author.Tests.{ltb-true, lt-ltb, le-ltb, le-leb, lt-leb, eqb-true, eqb-false, eq-eqb, ne_eqb}
use Rattle.lists.specs.Lists.{range, keep}
use Rattle.lists.proofs.Tests.{Decided, decided, or_cases, same_test}
use Rattle.lists.proofs.Kept.{keep_range_push, keep_range_pass}
use Rattle.counting.specs.Counting.{Marked}
use Rattle.counting.proofs.Marks.{marked_nowhere}
use Rattle.totals.specs.Totals.{up_to, sums_to}
use Rattle.totals.specs.Joining.{holds, set_at, counts_at, counts_but, SumsAre, Joined, raised}
use Rattle.totals.proofs.SumsOfSets.{sums_one, nothing_sums, sums_alike, sums_with_one, sums_moved}
use Rattle.totals.proofs.SetsInArrays.{below_other, marked_read, zeros_read}

-- what holds up to a number holds up to a smaller one
pub sums_below : {rest most : ℕ} {sets : List (ℕ → Bool)} {sums : List ℕ} → SumsAre most sets sums → rest ≤ most → SumsAre rest sets sums
sums_below a h = record { whole = a.whole; at = λ n k. a.at n (omega arith) }

-- ---- a set with one place more

module _ (set : List ℕ) where
  -- what the part of a set before a place holds
  pub before_place : (i t : ℕ) → holds (take i set) t ≡ (ltb t i && holds set t)
  before_place i t = go (dec_lt t i)
    where
      go : Dec (t < i) → holds (take i set) t ≡ (ltb t i && holds set t)
      go (yes h) = rw (lt-ltb t i h) (ap (λ (x : ℕ). eqb x 1) (get_or-take i set t 0 h))
      go (no n) = rw (le-ltb t i (omega (arith, n))) (ap (λ (x : ℕ). eqb x 1) (get_or-eq_default (take i set) 0 {n = t} (omega (arith, n, length-take i set))))

  module _ (i : ℕ) where
    -- at any number but that of the place
    pub set_other : (t : ℕ) → (t ≡ i → ⊥) → holds (take i set) t ≡ holds (take (i + 1) set) t
    set_other t h = rw (before_place i t, before_place (i + 1) t, below_other t i h)

    -- where it holds none
    pub set_passed : holds set i ≡ false → (t : ℕ) → holds (take i set) t ≡ holds (take (i + 1) set) t
    set_passed e t = go (decided (eqb t i))
      where
        go : Decided (eqb t i) → holds (take i set) t ≡ holds (take (i + 1) set) t
        go (inl w) = rw (before_place i t, before_place (i + 1) t, eqb-true t i w, e, and-false (ltb i i), and-false (ltb i (i + 1)))
        go (inr w) = set_other t (eqb-false t i w)

    -- and where it does
    pub set_gained : holds set i ≡ true → (t : ℕ) → holds (take (i + 1) set) t ≡ (holds (take i set) t || eqb t i)
    set_gained e t = go (decided (eqb t i))
      where
        go : Decided (eqb t i) → holds (take (i + 1) set) t ≡ (holds (take i set) t || eqb t i)
        go (inl w) = rw (w, before_place (i + 1) t, before_place i t, eqb-true t i w, e, lt-ltb i (i + 1) (omega arith), le-ltb i i (omega arith))
        go (inr w) = rw (w, or-false (holds (take i set) t)) (sym (set_other t (eqb-false t i w)))

-- a set that stands between two places of an array
pub set_between : (counts : List ℕ) (first end : ℕ) → first ≤ end → (t : ℕ) → holds (take (end - first) (drop first counts)) t ≡ set_at counts first end t
set_between counts first end h t =
    before_place (drop first counts) (end - first) t
    ∙ ap (λ (x : ℕ). ltb t (end - first) && eqb x 1) (get_or-drop first counts t 0)
    ∙ ap (λ (s : Bool). s && eqb (get_or counts (first + t) 0) 1)
    (same_test (ltb t (end - first)) (ltb (first + t) end) (λ e. lt-ltb (first + t) end (omega (arith, ltb-true t (end - first) e)))
    (λ e. lt-ltb t (end - first) (omega (arith, ltb-true (first + t) end e))))

-- ---- its sums with others

-- no number is below t and t more than another
pub raised_none : (set : List ℕ) (t : ℕ) (a : List ℕ) → Marked (raised set t t) a a
raised_none set t a = marked_nowhere (raised set t t) a (λ x. go x (decided (ltb x t)))
  where
    go : (x : ℕ) → Decided (ltb x t) → raised set t t x ≡ false
    go x (inl e) = rw (e, lt-leb t x (ltb-true x t e))
    go x (inr e) = rw e

pub join_none : (rest : ℕ) (before : List ℕ) → Joined rest [] before (replicate 1025 0)
join_none rest before = record {
  whole = length-replicate {A = ℕ} 1025 0;
  sums = λ sets b. record {
    whole = length-replicate {A = ℕ} 1025 0;
    at = λ n h. zeros_read 1025 n ∙ sym (nothing_sums (holds []) sets n (λ t. ap (λ (x : ℕ). eqb x 1) (get_or-eq_default [] 0 {n = t} (omega arith))));
  };
}

module _ {rest : ℕ} (set : List ℕ) (i : ℕ) {before after : List ℕ} (a : Joined rest (take i set) before after) where
  -- a place that adds nothing up to `rest`
  alike : ((t : ℕ) → t ≤ rest → holds (take i set) t ≡ holds (take (i + 1) set) t) → Joined rest (take (i + 1) set) before after
  alike same = record {
    whole = a.whole;
    sums = λ sets b. record {
      whole = a.whole;
      at = λ n h. (a.sums sets b).at n h ∙ sums_alike (holds (take i set)) sets n (holds (take (i + 1) set)) (λ t k. same t (omega arith));
    };
  }

  pub join_passed : holds set i ≡ false → Joined rest (take (i + 1) set) before after
  join_passed e = alike (λ t _. set_passed set i e t)

  pub join_far : rest < i → Joined rest (take (i + 1) set) before after
  join_far far = alike (λ t k. set_other set i t (λ z. omega arith))

  -- and one that holds a number
  pub join_gained : {more : List ℕ} → holds set i ≡ true → Marked (raised before i (rest + 1)) after more → Joined rest (take (i + 1) set) before more
  join_gained {more} e m = record {
    whole = m.whole ∙ a.whole;
    sums = λ sets b. record {
      whole = m.whole ∙ a.whole;
      at = λ n k.
          marked_read m n
          ∙ rw (lt-ltb n (rest + 1) (omega arith), b.at (n - i) (omega arith), (a.sums sets b).at n k)
          (sym (sums_with_one (holds (take i set)) sets n (holds (take (i + 1) set)) i (set_gained set i e)));
    };
  }

-- the sums with a set that holds the same numbers
pub sums_same : {rest : ℕ} {s t : ℕ → Bool} {sets : List (ℕ → Bool)} {sums : List ℕ} → ((n : ℕ) → s n ≡ t n) → SumsAre rest (s ∷ sets) sums → SumsAre rest (t ∷ sets) sums
sums_same {s = s} {t = t} {sets = sets} same a = record { whole = a.whole; at = λ n h. a.at n h ∙ sums_alike s sets n t (λ k _. same k) }

-- ---- every number of a set passes

module _ (set : List ℕ) (i : ℕ) (test : ℕ → Bool) (so : (t : ℕ) → holds (take i set) t ≡ true → test t ≡ true) where
  pub all_passed : holds set i ≡ false → (t : ℕ) → holds (take (i + 1) set) t ≡ true → test t ≡ true
  all_passed e t k = so t (set_passed set i e t ∙ k)

  pub all_gained : holds set i ≡ true → test i ≡ true → (t : ℕ) → holds (take (i + 1) set) t ≡ true → test t ≡ true
  all_gained e p t k = go (or_cases (holds (take i set) t) (eqb t i) (sym (set_gained set i e t) ∙ k))
    where
      go : (holds (take i set) t ≡ true) ⊎ (eqb t i ≡ true) → test t ≡ true
      go (inl w) = so t w
      go (inr w) = rw (eqb-true t i w) p

-- ---- the sets of the blocks

-- free cells alone
free_marked : (k : ℕ) → k ≤ 1024 → SumsAre 1024 (up_to k ∷ []) (replicate (k + 1) 1 ++ drop (k + 1) (replicate 1025 0))
free_marked k h = record {
  whole = omega (arith, length-append ones zeros, many, length-drop {A = ℕ} (k + 1) (replicate 1025 0), length-replicate {A = ℕ} 1025 0);
  at = λ n l. go n (dec_lt n (k + 1)) ∙ sym (sums_one (up_to k) n);
}
  where
    ones : List ℕ
    ones = replicate (k + 1) 1

    zeros : List ℕ
    zeros = drop (k + 1) (replicate 1025 0)

    many : length ones ≡ k + 1
    many = length-replicate {A = ℕ} (k + 1) 1

    go : (n : ℕ) → Dec (n < k + 1) → holds (ones ++ zeros) n ≡ leb n k
    go n (yes l) =
        rw (le-leb n k (omega arith))
        (ap (λ (x : ℕ). eqb x 1) (get_or-append ones zeros 0 n (omega (arith, many)) ∙ get_or-replicate (k + 1) n 1 0 l))
    go n (no m) =
        let past : n ≡ length ones + (n - (k + 1)) = omega (arith, many, m) in
        rw (lt-leb n k (omega (arith, m)))
        (ap (λ (x : ℕ). holds (ones ++ zeros) x) past
        ∙ ap (λ (x : ℕ). eqb x 1) (get_or-append-add ones zeros (n - (k + 1)) 0 ∙ get_or-drop (k + 1) (replicate 1025 0) (n - (k + 1)) 0)
        ∙ zeros_read 1025 (k + 1 + (n - (k + 1))))

pub free_alone : (k : ℕ) → k ≤ 1024 → {ones : List ℕ} → ones ≡ replicate (length {A = ℕ} (take (k + 1) (replicate 1025 0))) 1
    → SumsAre 1024 (up_to k ∷ []) (ones ++ drop (k + 1) (replicate 1025 0))
free_alone k h is =
    let many : length {A = ℕ} (take (k + 1) (replicate 1025 0)) ≡ k + 1 = omega (arith, length-take {A = ℕ} (k + 1) (replicate 1025 0), length-replicate {A = ℕ} 1025 0) in
    rw (is, many) (free_marked k h)

-- ---- a set turned round

-- a part of an array turned round, the rest of which is 0: it has what the part has from the other end
pub turned_round : (sums : List ℕ) (rest : ℕ) → rest ≤ 1024 → length sums ≡ 1025 → {part turned : List ℕ} → part ≡ take (rest + 1) sums
    → turned ≡ reverse (take (rest + 1) (part ++ drop (rest + 1) (replicate 1025 0)))
    → (length (turned ++ drop (rest + 1) (part ++ drop (rest + 1) (replicate 1025 0))) ≡ 1025)
    × ((t : ℕ) → holds (turned ++ drop (rest + 1) (part ++ drop (rest + 1) (replicate 1025 0))) t ≡ (leb t rest && holds sums (rest - t)))
turned_round sums rest few whole {part} {turned} is turns =
    rw (turns, is, take_at first zeros (rest + 1) many, drop_at first zeros (rest + 1) many)
    (omega (arith, length-append (reverse first) zeros, length-reverse first, many, length-drop {A = ℕ} (rest + 1) (replicate 1025 0), length-replicate {A = ℕ} 1025 0), λ t. go t (dec_lt t (rest + 1)))
  where
    first : List ℕ
    first = take (rest + 1) sums

    zeros : List ℕ
    zeros = drop (rest + 1) (replicate 1025 0)

    many : length first ≡ rest + 1
    many = length-take-le (rest + 1) sums (omega (arith, whole))

    back_many : length (reverse first) ≡ rest + 1
    back_many = length-reverse first ∙ many

    go : (t : ℕ) → Dec (t < rest + 1) → holds (reverse first ++ zeros) t ≡ (leb t rest && holds sums (rest - t))
    go t (yes l) =
        let place : length first - 1 - t ≡ rest - t = omega (arith, many) in
        rw (le-leb t rest (omega arith))
        (ap (λ (x : ℕ). eqb x 1)
        (get_or-append (reverse first) zeros 0 t (omega (arith, back_many))
        ∙ get_or-reverse first t 0 (omega (arith, many))
        ∙ ap (λ (x : ℕ). get_or first x 0) place
        ∙ get_or-take (rest + 1) sums (rest - t) 0 (omega arith)))
    go t (no m) =
        let past : t ≡ length (reverse first) + (t - (rest + 1)) = omega (arith, back_many, m) in
        rw (lt-leb t rest (omega (arith, m)))
        (ap (λ (x : ℕ). holds (reverse first ++ zeros) x) past
        ∙ ap (λ (x : ℕ). eqb x 1) (get_or-append-add (reverse first) zeros (t - (rest + 1)) 0 ∙ get_or-drop (rest + 1) (replicate 1025 0) (t - (rest + 1)) 0)
        ∙ zeros_read 1025 (rest + 1 + (t - (rest + 1))))

-- ---- the sets of blocks, one after another

module _ (counts ends : List ℕ) (but free j : ℕ) {rest : ℕ} {sums : List ℕ} where
  -- one block more
  pub blocks_joined : (j ≡ but → ⊥) → SumsAre rest (counts_at counts ends j ∷ (up_to free ∷ counts_but counts ends but j)) sums
      → SumsAre rest (up_to free ∷ counts_but counts ends but (j + 1)) sums
  blocks_joined h a = record {
    whole = a.whole;
    at = λ n k.
        a.at n k
        ∙ ap (λ (l : List (ℕ → Bool)). sums_to (counts_at counts ends j ∷ l) n) (sym (append-nil (up_to free ∷ counts_but counts ends but j)))
        ∙ sym (sums_moved (up_to free ∷ counts_but counts ends but j) (counts_at counts ends j) [] n)
        ∙ ap (λ (l : List (ℕ → Bool)). sums_to (up_to free ∷ l) n) (sym last);
  }
    where
      last : counts_but counts ends but (j + 1) ≡ counts_but counts ends but j ++ (counts_at counts ends j ∷ [])
      last =
          ap (map (counts_at counts ends)) (keep_range_push (λ x. not (eqb x but)) j (rw (ne_eqb j but h)))
          ∙ map-append (counts_at counts ends) (keep (λ x. not (eqb x but)) (range 0 j)) (j ∷ [])

  -- the one that is left out
  pub block_left_out : j ≡ but → SumsAre rest (up_to free ∷ counts_but counts ends but j) sums → SumsAre rest (up_to free ∷ counts_but counts ends but (j + 1)) sums
  block_left_out h a = rw (keep_range_pass (λ x. not (eqb x but)) j (rw (eq-eqb j but h))) a
