-- Groups marked in an array of bytes: those that pass a test are marked one after another (`Noted`), no mark is taken away (`Stay`), and only groups at which
-- some test passes are marked (`Only`). Where each of these is marked, the array is given by the test. Rests on the laws of stores. Assumes nothing.
use mathlib.Core.Path.{◌≡◌, refl, sym, ap, ◌∙◌}
use mathlib.Core.Logic.{inl, inr}
use mathlib.Core.Bool.{Bool, true, false, cond, ◌&&◌}
use mathlib.Core.List.{List, map}
use Prim.Native.Nat.{ℕ, ◌+◌, ◌≤◌, ◌<◌}
use native.Mathlib.Decide.{dec_lt}
use native.Mathlib.Omega.{arith}
use lib.Dec.{ltb, eqb}
use lib.ListN.{length, get_or, set, replicate, length-map, length-set, length-replicate, get_or-eq_default}
use lib.Seq.{get_or-set_same, get_or-set_other, ext_get_or}
use borrow.Author.Tests.{eqb-true, eqb-false, lt-ltb, le-ltb, ltb-true}
use Rattle.lists.specs.Lists.{range, bit, pad}
use Rattle.lists.proofs.Tests.{Decided, decided, clash, and_left, and_right}
use Rattle.lists.proofs.Elements.{replicate_all}
use Rattle.lists.proofs.Rearranged.{length_range}
use Rattle.lists.proofs.Arrays.{length_pad, pad_read}
use Rattle.enumeration.specs.Asking.{Noted, Only, Stay, Stays}
use Rattle.enumeration.specs.declared.asking.Shown.{Shown}
use Rattle.lists.proofs.ReadBack.{range_made}

-- ---- one group after another

module _ (f : ℕ → Bool) (before : List ℕ) where
  -- no group is looked at
  pub noted_none : length before ≡ 1024 → Noted 0 f before before
  noted_none h = record { whole = h; at = λ g. rw (le-ltb g 0 (omega arith)) }

  module _ (n : ℕ) (after : List ℕ) (held : Noted n f before after) where
    same_below : (g : ℕ) → eqb g n ≡ false → ltb g (n + 1) ≡ ltb g n
    same_below g e = go (dec_lt g n)
      where
        go : Dec (g < n) → ltb g (n + 1) ≡ ltb g n
        go (yes h) = lt-ltb g (n + 1) (omega arith) ∙ sym (lt-ltb g n h)
        go (no h) = le-ltb g (n + 1) (omega (arith, eqb-false g n e)) ∙ sym (le-ltb g n (omega arith))

    elsewhere : (g : ℕ) → eqb g n ≡ false → get_or after g 0 ≡ cond (ltb g (n + 1) && f g) 1 (get_or before g 0)
    elsewhere g e = held.at g ∙ ap (λ (t : Bool). cond (t && f g) 1 (get_or before g 0)) (sym (same_below g e))

    -- the next group does not pass
    pub noted_passed : f n ≡ false → Noted (n + 1) f before after
    noted_passed t = record { whole = held.whole; at = λ g. go g (decided (eqb g n)) }
      where
        go : (g : ℕ) → Decided (eqb g n) → get_or after g 0 ≡ cond (ltb g (n + 1) && f g) 1 (get_or before g 0)
        go g (inl e) =
            rw (eqb-true g n e) (held.at n ∙ rw (le-ltb n n (omega arith), lt-ltb n (n + 1) (omega arith), t))
        go g (inr e) = elsewhere g e

    -- it passes, and is marked
    pub noted_marked : n < 1024 → f n ≡ true → Noted (n + 1) f before (set after n 1)
    noted_marked h t = record { whole = length-set after n 1 ∙ held.whole; at = λ g. go g (decided (eqb g n)) }
      where
        go : (g : ℕ) → Decided (eqb g n) → get_or (set after n 1) g 0 ≡ cond (ltb g (n + 1) && f g) 1 (get_or before g 0)
        go g (inl e) =
            rw (eqb-true g n e) (get_or-set_same after n 1 0 (omega (arith, held.whole)) ∙ rw (lt-ltb n (n + 1) (omega arith), t))
        go g (inr e) = get_or-set_other after n g 1 0 (eqb-false g n e) ∙ elsewhere g e

module _ {n : ℕ} {f : ℕ → Bool} {before after : List ℕ} (held : Noted n f before after) where
  -- a group that passes is marked
  pub noted_there : (g : ℕ) → g < n → f g ≡ true → get_or after g 0 ≡ 1
  noted_there g h t = held.at g ∙ rw (lt-ltb g n h, t)

  -- and those that were
  pub noted_stay : Stay before after
  noted_stay = record { at = λ g m. held.at g ∙ go (ltb g n && f g) (get_or before g 0) m }
    where
      go : (t : Bool) (x : ℕ) → x ≡ 1 → cond t 1 x ≡ 1
      go true x m = refl
      go false x m = m

  -- only groups at which another test passes
  pub only_noted : (t : ℕ → Bool) → ((g : ℕ) → g < n → f g ≡ true → t g ≡ true) → Only n t before → Only n t after
  only_noted t implied o =
      record {
        whole = held.whole;
        bits = λ g. rw (held.at g) (small (ltb g n && f g) (get_or before g 0) (o.bits g));
        right = λ g m. go g (decided (ltb g n && f g)) (sym (held.at g) ∙ m);
      }
    where
      small : (s : Bool) (x : ℕ) → x ≤ 1 → cond s 1 x ≤ 1
      small true x h = omega arith
      small false x h = h

      go : (g : ℕ) → Decided (ltb g n && f g) → cond (ltb g n && f g) 1 (get_or before g 0) ≡ 1 → (g < n) × (t g ≡ true)
      go g (inl e) m =
          let h : g < n = ltb-true g n (and_left (ltb g n) (f g) e) in
          (h, implied g h (and_right (ltb g n) (f g) e))
      go g (inr e) m = o.right g (rw e at m)

-- ---- no mark is taken away

pub stay_same : (marks : List ℕ) → Stay marks marks
stay_same marks = record { at = λ g m. m }

pub stay_twice : {a b c : List ℕ} → Stay a b → Stay b c → Stay a c
stay_twice s r = record { at = λ g m. r.at g (s.at g m) }

-- nor a mark of a mine or of a free cell
pub stays_same : (marks : Shown) → Stays marks marks
stays_same marks = record { mines = stay_same marks.mined; frees = stay_same marks.unfilled }

pub stays_twice : {a b c : Shown} → Stays a b → Stays b c → Stays a c
stays_twice s r = record { mines = stay_twice s.mines r.mines; frees = stay_twice s.frees r.frees }

-- ---- only groups at which a test passes

module _ (n : ℕ) (t : ℕ → Bool) where
  -- no group is marked
  pub only_none : Only n t (replicate 1024 0)
  only_none =
      record {
        whole = length-replicate {A = ℕ} 1024 0;
        bits = λ g. rw (zero g) (omega arith);
        right = λ g m. absurd (omega (arith, zero g, m));
      }
    where
      zero : (g : ℕ) → ◌≡◌ {A = ℕ} (get_or (replicate 1024 0) g 0) 0
      zero g = replicate_all (λ i x. x ≡ 0) 1024 0 0 (λ i h. refl) (λ i h. refl) g

  module _ (marks : List ℕ) (o : Only n t marks) where
    -- a group at which it does not is not marked
    pub only_unmarked : (g : ℕ) → t g ≡ false → get_or marks g 0 ≡ 0
    only_unmarked g e = go (get_or marks g 0) (o.bits g) (λ m. clash (t g) (o.right g m).1 e)
      where
        go : (x : ℕ) → x ≤ 1 → (x ≡ 1 → ⊥) → x ≡ 0
        go x h m = omega (arith, m)

    -- nor is one past the groups
    pub only_past : (g : ℕ) → n ≤ g → get_or marks g 0 ≡ 0
    only_past g h = go (get_or marks g 0) (o.bits g) (λ m. omega (arith, (o.right g m).0))
      where
        go : (x : ℕ) → x ≤ 1 → (x ≡ 1 → ⊥) → x ≡ 0
        go x h m = omega (arith, m)

    -- where all at which it passes are marked, the test gives the array
    pub only_whole : n ≤ 1024 → ((g : ℕ) → g < n → t g ≡ true → get_or marks g 0 ≡ 1) → marks ≡ pad 1024 0 (map (λ (g : ℕ). bit (t g)) (range 0 n))
    only_whole few all =
        ext_get_or 0 marks (pad 1024 0 tests) (o.whole ∙ sym (length_pad 1024 0 tests (omega (arith, long))))
        (λ i h. go i (dec_lt i n) (decided (t i)) ∙ sym (pad_read 1024 0 tests i))
      where
        tests : List ℕ
        tests = map (λ (g : ℕ). bit (t g)) (range 0 n)

        long : length tests ≡ n
        long = length-map (range 0 n) (λ (g : ℕ). bit (t g)) ∙ length_range 0 n

        read : (i : ℕ) → i < n → get_or tests i 0 ≡ bit (t i)
        read i h = let e : 0 + i ≡ i = omega arith in rw e at (range_made (λ (g : ℕ). bit (t g)) 0 n i 0 h)

        go : (i : ℕ) → Dec (i < n) → Decided (t i) → get_or marks i 0 ≡ get_or tests i 0
        go i (yes h) (inl e) = all i h e ∙ sym (read i h ∙ ap bit e)
        go i (yes h) (inr e) = only_unmarked i e ∙ sym (read i h ∙ ap bit e)
        go i (no h) d = only_past i (omega arith) ∙ sym (get_or-eq_default tests 0 {n = i} (omega (arith, long)))
