-- The rule that the first test that fails gives its refusal, over any list of tests: a list accepts exactly where every test passes, a refusal is
-- that of a test which fails with every test before it passing, and where the list is in the order of the numbers it has the lowest number of those
-- that apply. By recursion on the list. Assumes nothing.
use Rattle.std.specs.Prelude.{Ok, Err}
use mathlib.Core.Path.{◌≡◌, refl, ◌∙◌, ap}
use mathlib.Core.Logic.{inl, inr, ◌≢◌}
use mathlib.Core.Bool.{Bool, true, false, cond, ◌&&◌, ◌||◌}
use mathlib.Core.List.{List, [], ◌∷◌, ◌++◌}
use Prim.Native.Nat.{ℕ, ◌<◌}
use native.Mathlib.Omega.{arith}
use lib.Dec.{eqb, leb}
use lib.ListN.{length, get_or}
use borrow.Author.Tests.{le-leb, ne_eqb}
use Rattle.lists.specs.Lists.{all, has}
use Rattle.lists.proofs.All.{all_at}
use Rattle.lists.proofs.Tests.{Decided, decided, clash, and_left, and_right, or_right}
use Rattle.refusals.specs.declared.Refusal.{Refusal}
use Rattle.refusals.specs.declared.Refusal.TheVariants.{Size, Length, Cell, Start, Number, Contradiction, Block, Table, Mark, Short, StartMine}
use Rattle.refusals.specs.Refusals.{Accepted, Tested, refusal_number, Test, test, tested}

-- ---- acceptance

-- no answer is both
pub not_both : {P : Type 0} (a : Tested) (r : Refusal) → a ≡ Accepted → a ≡ Err r → P
not_both a r p q = let z : ◌≡◌ {A = ℕ} 0 1 = cc in absurd (omega arith)

-- an answer of Accepted: this test passed, and the rest accepts
pub accepted_on : (t : Bool) (rest : Tested) (r : Refusal) → cond t rest (Err r) ≡ Accepted → (t ≡ true) × (rest ≡ Accepted)
accepted_on true rest r h = (refl, h)
accepted_on false rest r h = not_both (Err r) r h refl

pub accepted_passes : (ts : List Test) → tested ts ≡ Accepted → all (λ t. t.passes) ts ≡ true
accepted_passes [] h = refl
accepted_passes (t ∷ ts) h = let (p, rest) = accepted_on t.passes (tested ts) t.else h in rw p (accepted_passes ts rest)

pub passes_accepted : (ts : List Test) → all (λ t. t.passes) ts ≡ true → tested ts ≡ Accepted
passes_accepted [] h = refl
passes_accepted (t ∷ ts) h = let p = and_left t.passes (all (λ u. u.passes) ts) h in rw p (passes_accepted ts (and_right t.passes (all (λ u. u.passes) ts) h))

-- the test at a place of the list
pub accepted_at : (ts : List Test) → tested ts ≡ Accepted → (i : ℕ) → i < length ts → (get_or ts i (test true Size)).passes ≡ true
accepted_at ts h i w = all_at (λ t. t.passes) ts i (test true Size) (accepted_passes ts h) w

-- ---- two lists of tests, one after the other

-- the refusal of the earlier ones, if they have one, else the answer of the later
abbrev pub then_tested : Tested → Tested → Tested
then_tested (Ok _) later = later
then_tested (Err r) later = Err r

pub tested_append : (ts us : List Test) {answer : Tested} → tested ts ≡ answer → tested (ts ++ us) ≡ then_tested answer (tested us)
tested_append ts us e = rw (← e) (both ts)
  where
    both : (l : List Test) → tested (l ++ us) ≡ then_tested (tested l) (tested us)
    both [] = refl
    both (t ∷ l) = go t.passes (both l)
      where
        go : (p : Bool) → tested (l ++ us) ≡ then_tested (tested l) (tested us)
            → cond p (tested (l ++ us)) (Err t.else) ≡ then_tested (cond p (tested l) (Err t.else)) (tested us)
        go true below = below
        go false below = refl

-- ---- refusal

-- the numbers that are given
abbrev pub given_numbers : List ℕ
given_numbers = 1 ∷ 2 ∷ 3 ∷ 4 ∷ 5 ∷ 6 ∷ 8 ∷ 9 ∷ 10 ∷ 11 ∷ 13 ∷ []

refusal_given : (r : Refusal) → has given_numbers (refusal_number r) ≡ true
refusal_given Size = refl
refusal_given Length = refl
refusal_given Cell = refl
refusal_given Start = refl
refusal_given Number = refl
refusal_given Contradiction = refl
refusal_given Block = refl
refusal_given Table = refl
refusal_given Mark = refl
refusal_given Short = refl
refusal_given StartMine = refl

refusal_not : (n : ℕ) → has given_numbers n ≡ false → (r : Refusal) → refusal_number r ≢ n
refusal_not n out r e = clash (has given_numbers n) (rw e at (refusal_given r)) out

-- 0 is the number of an answer
pub refusal_not_zero : (r : Refusal) → eqb (refusal_number r) 0 ≡ false
refusal_not_zero r = ne_eqb (refusal_number r) 0 (refusal_not 0 refl r)

-- 7 is never given again
pub refusal_not_seven : (r : Refusal) → refusal_number r ≢ 7
refusal_not_seven r = refusal_not 7 refl r

-- a test of the list fails and gives r, and every test before it passes
pub record FirstFailing (ts : List Test) (r : Refusal) : Type 0 where
  pub earlier : List Test
  pub failing : Test
  pub later : List Test
  pub split : ts ≡ earlier ++ (failing ∷ later)
  pub pass : all (λ t. t.passes) earlier ≡ true
  pub fails : failing.passes ≡ false
  pub gives : failing.else ≡ r

pub refused_first : (ts : List Test) (r : Refusal) → tested ts ≡ Err r → FirstFailing ts r
refused_first [] r h = not_both Accepted r refl h
refused_first (t ∷ ts) r h = go (decided t.passes) (refused_first ts r)
  where
    go : Decided t.passes → (tested ts ≡ Err r → FirstFailing ts r) → FirstFailing (t ∷ ts) r
    go (inl p) below =
        let f = below (rw p at h) in
        record {
          earlier = t ∷ f.earlier;
          failing = f.failing;
          later = f.later;
          split = ap (λ (l : List Test). t ∷ l) f.split;
          pass = rw p f.pass;
          fails = f.fails;
          gives = f.gives;
        }
    go (inr p) below =
        let same : Err t.else ≡ Err r = rw p at h in
        record { earlier = []; failing = t; later = ts; split = refl; pass = refl; fails = p; gives = cc }

pub first_refused : {ts : List Test} {r : Refusal} → FirstFailing ts r → tested ts ≡ Err r
first_refused f =
    rw f.split (tested_append f.earlier (f.failing ∷ f.later) (passes_accepted f.earlier f.pass) ∙ rw (f.fails, f.gives))

-- ---- the lowest number

-- no test of the list has a refusal with a lower number than an earlier one
abbrev pub ascending : List Test → Bool
ascending [] = true
ascending (t ∷ ts) = all (λ u. leb (refusal_number t.else) (refusal_number u.else)) ts && ascending ts

-- every test that fails has a number that is at least n
abbrev pub fails_from : ℕ → List Test → Bool
fails_from n ts = all (λ t. t.passes || leb n (refusal_number t.else)) ts

later_fails : (n : ℕ) (ts : List Test) → all (λ t. leb n (refusal_number t.else)) ts ≡ true → fails_from n ts ≡ true
later_fails n [] h = refl
later_fails n (t ∷ ts) h =
    let low = leb n (refusal_number t.else) in
    let rest = all (λ u. leb n (refusal_number u.else)) ts in
    rw (or_right t.passes low (and_left low rest h)) (later_fails n ts (and_right low rest h))

pub refused_lowest : (ts : List Test) (r : Refusal) → ascending ts ≡ true → tested ts ≡ Err r → fails_from (refusal_number r) ts ≡ true
refused_lowest [] r a h = refl
refused_lowest (t ∷ ts) r a h = go (decided t.passes) (refused_lowest ts r (and_right above (ascending ts) a))
  where
    above : Bool
    above = all (λ u. leb (refusal_number t.else) (refusal_number u.else)) ts

    go : Decided t.passes → (tested ts ≡ Err r → fails_from (refusal_number r) ts ≡ true) → fails_from (refusal_number r) (t ∷ ts) ≡ true
    go (inl p) below = rw p (below (rw p at h))
    go (inr p) below =
        let same : Err t.else ≡ Err r = rw p at h in
        let is : t.else ≡ r = cc in
        rw (p, is, le-leb (refusal_number r) (refusal_number r) (omega arith)) (later_fails (refusal_number r) ts (rw is at (and_left above (ascending ts) a)))
