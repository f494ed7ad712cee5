-- Arrays of a byte for each cell or count, filled place by place: numbers copied, the cells of a list told, what is 2 given a value, and the cells that pass a test
-- listed. Each law is a turn of a loop. Assumes nothing.
use mathlib.Core.Path.{◌≡◌, refl, sym, ap, ◌∙◌}
use mathlib.Core.Logic.{inl, inr}
use mathlib.Core.Bool.{Bool, true, false, cond, ◌&&◌, ◌||◌, or-false}
use mathlib.Core.List.{List, [], ◌∷◌, ◌++◌}
use Prim.Native.Nat.{ℕ, ◌+◌, ◌-◌, ◌≤◌, ◌<◌}
use native.Mathlib.Omega.{arith}
use native.Mathlib.Decide.{dec_lt}
use lib.Dec.{leb, ltb, eqb}
use native.Mathlib.Numerals.{add-one}
use lib.ListN.{length, get_or, set, take, drop, length-set, length-append, length-drop, get_or-append, get_or-eq_default}
use lib.Seq.{get_or-set_same, get_or-set_other, get_or-take, get_or-drop, get_or-append-add, length-take-le, take-suc, sets, sets-eq}
use borrow.Author.Tests.{eqb-true, eqb-false, le-leb, lt-leb, lt-ltb, le-ltb}
use Rattle.lists.specs.Lists.{range, bit, keep, has, pad}
use Rattle.lists.proofs.Tests.{Decided, decided}
use Rattle.lists.proofs.Elements.{get_d_any}
use Rattle.fitting.specs.Equations.{is_closed}
use Rattle.lists.proofs.Members.{has_append}
use Rattle.lists.proofs.Arrays.{pad_push}
use Rattle.lists.proofs.Kept.{keep_range_push, keep_range_pass}
use Rattle.lists.proofs.Collected.{keep_few}
use Rattle.lists.proofs.Rearranged.{length_range}
use Rattle.total_rule.specs.Cells.{Copied, Told, Filled}

-- ---- numbers copied

-- the first of them put into an array
pub copied_over : (numbers before : List ℕ) (many at : ℕ) → many ≤ length numbers → at + many ≤ length before → Copied numbers many at before (sets before at (take many numbers))
copied_over numbers before many at h l = rw (sets-eq part before at (omega (arith, long))) record {
  whole = omega (arith, length-append front rest, length-append (take at before) part, first_long, long, length-drop (at + length part) before);
  at_place = λ i. go i (dec_lt i (at + many)) (dec_lt i at);
}
  where
    part : List ℕ
    part = take many numbers

    long : length part ≡ many
    long = length-take-le many numbers h

    first_long : length (take at before) ≡ at
    first_long = length-take-le at before (omega arith)

    front : List ℕ
    front = take at before ++ part

    rest : List ℕ
    rest = drop (at + length part) before

    front_long : length front ≡ at + many
    front_long = omega (arith, length-append (take at before) part, first_long, long)

    go : (i : ℕ) → Dec (i < at + many) → Dec (i < at) → get_or (front ++ rest) i 0 ≡ cond (leb at i && ltb i (at + many)) (get_or numbers (i - at) 0) (get_or before i 0)
    go i (yes u) (yes v) =
        rw (lt-leb at i v)
        (get_or-append front rest 0 i (omega (arith, front_long)) ∙ get_or-append (take at before) part 0 i (omega (arith, first_long)) ∙ get_or-take at before i 0 v)
    go i (yes u) (no v) =
        let place : i ≡ length (take at before) + (i - at) = omega (arith, first_long, v) in
        rw (le-leb at i (omega (arith, v)), lt-ltb i (at + many) u)
        (get_or-append front rest 0 i (omega (arith, front_long))
        ∙ ap (λ (k : ℕ). get_or front k 0) place
        ∙ get_or-append-add (take at before) part (i - at) 0
        ∙ get_or-take many numbers (i - at) 0 (omega (arith, v)))
    go i (no u) v =
        let place : i ≡ length front + (i - (at + many)) = omega (arith, front_long, u) in
        let back : at + length part + (i - (at + many)) ≡ i = omega (arith, long, u) in
        rw (le-leb at i (omega (arith, u)), le-ltb i (at + many) (omega (arith, u)))
        (ap (λ (k : ℕ). get_or (front ++ rest) k 0) place
        ∙ get_or-append-add front rest (i - (at + many)) 0
        ∙ get_or-drop (at + length part) before (i - (at + many)) 0
        ∙ ap (λ (k : ℕ). get_or before k 0) back)

-- ---- cells told

pub told_none : (value : ℕ → ℕ) (before : List ℕ) → Told [] value before before
told_none value before = record { whole = refl; at_cell = λ c. refl }

-- one more, which is read at a place of a list
pub told_more : (cells : List ℕ) (k : ℕ) {value : ℕ → ℕ} {before after : List ℕ} → k < length cells → Told (take k cells) value before after
    → (c : ℕ) → c ≡ get_or cells k 0 → c < length before → Told (take (k + 1) cells) value before (set after c (value c))
told_more cells k {value} {before} {after} h t c is l = record {
  whole = length-set after c (value c) ∙ t.whole;
  at_cell = λ d. rw more (go d (decided (eqb d c)));
}
  where
    more : take (k + 1) cells ≡ take k cells ++ (c ∷ [])
    more = rw (add-one, take-suc cells k 0 h, ← is)

    go : (d : ℕ) → Decided (eqb d c) → get_or (set after c (value c)) d 0 ≡ cond (has (take k cells ++ (c ∷ [])) d) (value d) (get_or before d 0)
    go d (inl e) =
        let same : d ≡ c = eqb-true d c e in
        rw (has_append (take k cells) (c ∷ []) d, e, same) (get_or-set_same after c (value c) 0 (omega (arith, t.whole, l)) ∙ last (has (take k cells) c))
      where
        last : (b : Bool) → value c ≡ cond (b || true) (value c) (get_or before c 0)
        last true = refl
        last false = refl
    go d (inr n) =
        rw (has_append (take k cells) (c ∷ []) d, n, or-false (has (take k cells) d)) (get_or-set_other after c d (value c) 0 (eqb-false d c n) ∙ t.at_cell d)

-- ---- what is 2 given a value

-- the places before n
pub record FilledTo (n value : ℕ) (before after : List ℕ) : Type 0 where
  pub whole : length after ≡ length before
  pub at_cell : (c : ℕ) → get_or after c 0 ≡ cond (ltb c n && eqb (get_or before c 0) 2) value (get_or before c 0)

pub filled_none : (value : ℕ) (before : List ℕ) → FilledTo 0 value before before
filled_none value before = record { whole = refl; at_cell = λ c. rw (le-ltb c 0 (omega arith)) }

module _ {n value : ℕ} {before after : List ℕ} (f : FilledTo n value before after) where
  -- the place itself is as it was
  pub filled_here : get_or after n 0 ≡ get_or before n 0
  filled_here = f.at_cell n ∙ rw (le-ltb n n (omega arith))

  elsewhere : (c : ℕ) → eqb c n ≡ false → Dec (c < n) → get_or after c 0 ≡ cond (ltb c (n + 1) && eqb (get_or before c 0) 2) value (get_or before c 0)
  elsewhere c e (yes h) = f.at_cell c ∙ rw (lt-ltb c n h, lt-ltb c (n + 1) (omega arith))
  elsewhere c e (no h) = f.at_cell c ∙ rw (le-ltb c n (omega arith), le-ltb c (n + 1) (omega (arith, eqb-false c n e)))

  pub filled_two : get_or after n 0 ≡ 2 → n < length before → FilledTo (n + 1) value before (set after n value)
  filled_two two l = record { whole = length-set after n value ∙ f.whole; at_cell = λ c. go c (decided (eqb c n)) }
    where
      go : (c : ℕ) → Decided (eqb c n) → get_or (set after n value) c 0 ≡ cond (ltb c (n + 1) && eqb (get_or before c 0) 2) value (get_or before c 0)
      go c (inl e) =
          let was : get_or before n 0 ≡ 2 = sym filled_here ∙ two in
          rw (eqb-true c n e) (get_or-set_same after n value 0 (omega (arith, f.whole, l)) ∙ rw (lt-ltb n (n + 1) (omega arith), was))
      go c (inr e) = get_or-set_other after n c value 0 (eqb-false c n e) ∙ elsewhere c e (dec_lt c n)

  pub filled_other : eqb (get_or after n 0) 2 ≡ false → FilledTo (n + 1) value before after
  filled_other other = record { whole = f.whole; at_cell = λ c. go c (decided (eqb c n)) }
    where
      go : (c : ℕ) → Decided (eqb c n) → get_or after c 0 ≡ cond (ltb c (n + 1) && eqb (get_or before c 0) 2) value (get_or before c 0)
      go c (inl e) = rw (eqb-true c n e) (filled_here ∙ rw (lt-ltb n (n + 1) (omega arith), ← filled_here, other))
      go c (inr e) = elsewhere c e (dec_lt c n)

  pub filled_all : length before ≤ n → Filled value before after
  filled_all h = record { whole = f.whole; at_cell = λ c. go c (dec_lt c n) }
    where
      go : (c : ℕ) → Dec (c < n) → get_or after c 0 ≡ cond (eqb (get_or before c 0) 2) value (get_or before c 0)
      go c (yes l) = f.at_cell c ∙ rw (lt-ltb c n l)
      go c (no l) = let off : get_or before c 0 ≡ 0 = get_or-eq_default before 0 (omega arith) in f.at_cell c ∙ rw (le-ltb c n (omega arith), off)

-- with a value that is the same
pub filled_value : {value other : ℕ} {before after : List ℕ} → value ≡ other → Filled value before after → Filled other before after
filled_value e f = rw e at f

-- a mine that is placed is one of the rest
module _ (rest : ℕ) (t : Bool) where
  pub rest_some : 0 < rest → bit t ≡ bit (leb 1 rest && t)
  rest_some h = rw (le-leb 1 rest (omega arith))

  pub rest_none : rest ≤ 0 → 0 ≡ bit (leb 1 rest && t)
  rest_none h = rw (lt-leb 1 rest (omega arith))

-- ---- cells listed

-- the cells before c that pass a test, in an array with a count
pub record Listed (test : ℕ → Bool) (cells : List ℕ) (count c : ℕ) : Type 0 where
  pub array : cells ≡ pad 1024 0 (keep test (range 0 c))
  pub many : count ≡ length (keep test (range 0 c))

pub listed_none : (test : ℕ → Bool) → Listed test (pad 1024 0 []) 0 0
listed_none test = record { array = refl; many = refl }

module _ {test : ℕ → Bool} {cells : List ℕ} {count c : ℕ} (l : Listed test cells count c) where
  pub listed_room : count ≤ c
  listed_room = omega (arith, l.many, keep_few {n = c} test (range 0 c) (omega (arith, length_range 0 c)))

  pub listed_next : c < 1024 → test c ≡ true → Listed test (set cells count c) (count + 1) (c + 1)
  listed_next few h = record {
    array = rw (l.array, l.many) (pad_push 1024 0 (keep test (range 0 c)) c (omega (arith, few, listed_room, l.many)) ∙ ap (pad 1024 0) (sym (keep_range_push test c h)));
    many = ap (λ (n : ℕ). n + 1) l.many ∙ sym (ap length (keep_range_push test c h) ∙ length-append (keep test (range 0 c)) (c ∷ []));
  }

  pub listed_pass : test c ≡ false → Listed test cells count (c + 1)
  listed_pass h = record { array = l.array ∙ ap (pad 1024 0) (sym (keep_range_pass test c h)); many = l.many ∙ ap length (sym (keep_range_pass test c h)) }

-- which cells are listed: closed ones that are told 0
module _ (p told : List ℕ) (c : ℕ) (on : c < length p) where
  closed_read : is_closed p c ≡ eqb (get_or p c 0) 10
  closed_read = ap (λ (v : ℕ). eqb v 10) (get_d_any p c 255 0 on)

  pub never_yes : get_or p c 0 ≡ 10 → get_or told c 0 ≡ 0 → (is_closed p c && eqb (get_or told c 0) 0) ≡ true
  never_yes shut e = ap (λ (t : Bool). t && eqb (get_or told c 0) 0) closed_read ∙ rw (shut, e)

  pub never_told : get_or p c 0 ≡ 10 → eqb (get_or told c 0) 0 ≡ false → (is_closed p c && eqb (get_or told c 0) 0) ≡ false
  never_told shut e = ap (λ (t : Bool). t && eqb (get_or told c 0) 0) closed_read ∙ rw (shut, e)

  pub never_shut : eqb (get_or p c 0) 10 ≡ false → (is_closed p c && eqb (get_or told c 0) 0) ≡ false
  never_shut e = ap (λ (t : Bool). t && eqb (get_or told c 0) 0) (closed_read ∙ e)
