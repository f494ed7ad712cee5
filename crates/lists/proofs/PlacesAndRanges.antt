-- What stands at which place: an element of a list at some place, a list mapped, a test on all elements or a count of them place by place, and a list without
-- repetition, in which a number has one place. And ranges, read and parted. By recursion on the lists. Assumes nothing.
use mathlib.Core.Path.{◌≡◌, refl, sym, ap, ◌∙◌}
use mathlib.Core.Logic.{◌≢◌}
use mathlib.Core.Bool.{Bool, true, false, ◌&&◌}
use mathlib.Core.List.{List, [], ◌∷◌, ◌++◌, map, append-nil, Memᴰ}
use Prim.Native.Nat.{ℕ, zero, suc, ◌+◌, ◌-◌, ◌≤◌, ◌<◌}
use native.Mathlib.Nat.{not-suc-le-zero, le_of_suc-le-suc}
use native.Mathlib.Omega.{arith}
use lib.Dec.{leb, ltb}
use lib.ListN.{length, get_or, take, set, length-append}
use borrow.Author.Tests.{ne_eqb, le-leb, lt-leb, lt-ltb, le-ltb}
use Rattle.lists.specs.Lists.{range, keep, count, all, has, nodup}
use Rattle.lists.proofs.Tests.{clash}
use Rattle.lists.proofs.Members.{get_d_has, nodup_head, nodup_tail, range_in}
use Rattle.lists.proofs.Unions.{all_of}
use Rattle.lists.proofs.Kept.{keep_append, keep_all, keep_none, keep_ext}
use Rattle.lists.proofs.CountsAlike.{counts_map}
use Rattle.lists.proofs.Joined.{read_all}

-- ---- elements by their places

module _ {A : Type 0} where
  -- an element stands at a place
  pub mem_place : {x : A} (l : List A) (d : A) → Memᴰ x l → (i : ℕ) × (i < length l) × (get_or l i d ≡ x)
  mem_place [] d x'' = elim x'' [ ]
  mem_place (y ∷ l) d (Memᴰ.head e) = (0, omega arith, sym e)
  mem_place (y ∷ l) d (Memᴰ.tail m) = let (i, w, e) = mem_place l d m in (suc i, omega arith, e)

  -- a test passes at all elements where it passes at each place
  pub all_places : (f : A → Bool) (l : List A) (d : A) → ((i : ℕ) → i < length l → f (get_or l i d) ≡ true) → all f l ≡ true
  all_places f l d h = all_of f l (λ x m. let (i, w, e) = mem_place l d m in rw (← e) (h i w))

  -- the places whose elements pass a test are as many as these elements
  pub count_places : (f : A → Bool) (l : List A) (d : A) → count (λ (i : ℕ). f (get_or l i d)) (range 0 (length l)) ≡ count f l
  count_places f l d = sym (counts_map f (λ (i : ℕ). get_or l i d) (range 0 (length l))) ∙ ap (count f) (read_all l d)

-- what a list mapped has at a place
pub map_read : {A B : Type 0} (f : A → B) (l : List A) (i : ℕ) (d : A) (e : B) → i < length l → get_or (map f l) i e ≡ f (get_or l i d)
map_read f [] i d e h = absurd (not-suc-le-zero h)
map_read f (x ∷ l) zero d e h = refl
map_read f (x ∷ l) (suc i) d e h = map_read f l i d e (le_of_suc-le-suc h)

-- one element is written anew, and the functions agree on the others
pub set_mapped : (f g : ℕ → ℕ) (l : List ℕ) (i v : ℕ) → i < length l → v ≡ g (get_or l i 0)
    → ((k : ℕ) → k < length l → k ≢ i → f (get_or l k 0) ≡ g (get_or l k 0)) → set (map f l) i v ≡ map g l
set_mapped f g [] i v h at others = absurd (not-suc-le-zero h)
set_mapped f g (x ∷ l) zero v h at others = rw at (ap (λ (r : List ℕ). g x ∷ r) (rest l (λ k u. others (suc k) (omega arith) (λ e. absurd (omega arith)))))
  where
    rest : (r : List ℕ) → ((k : ℕ) → k < length r → f (get_or r k 0) ≡ g (get_or r k 0)) → map f r ≡ map g r
    rest [] same = refl
    rest (y ∷ r) same = rw (same 0 (omega arith), rest r (λ k u. same (suc k) (omega arith)))
set_mapped f g (x ∷ l) (suc i) v h at others =
    rw (others 0 (omega arith) (λ e. absurd (omega arith)))
    (ap (λ (r : List ℕ). g x ∷ r) (set_mapped f g l i v (le_of_suc-le-suc h) at (λ k u d. others (suc k) (omega arith) (λ e. d (omega arith)))))

-- where no number stands twice, one number has one place
pub nodup_place : (l : List ℕ) → nodup l ≡ true → (i j d : ℕ) → i < length l → j < length l → get_or l i d ≡ get_or l j d → i ≡ j
nodup_place [] n i j d a b e = absurd (not-suc-le-zero a)
nodup_place (x ∷ l) n zero zero d a b e = refl
nodup_place (x ∷ l) n zero (suc j) d a b e = clash (has l x) (rw e (get_d_has l j d (le_of_suc-le-suc b))) (nodup_head x l n)
nodup_place (x ∷ l) n (suc i) zero d a b e = clash (has l x) (rw (← e) (get_d_has l i d (le_of_suc-le-suc a))) (nodup_head x l n)
nodup_place (x ∷ l) n (suc i) (suc j) d a b e = ap suc (nodup_place l (nodup_tail x l n) i j d (le_of_suc-le-suc a) (le_of_suc-le-suc b) e)

-- and the number at a place does not stand before it
pub nodup_before : (l : List ℕ) (k : ℕ) → nodup l ≡ true → k < length l → has (take k l) (get_or l k 0) ≡ false
nodup_before [] k n h = absurd (not-suc-le-zero h)
nodup_before (x ∷ l) zero n h = refl
nodup_before (x ∷ l) (suc k) n h =
    let there = get_d_has l k 0 (le_of_suc-le-suc h) in
    let other : get_or l k 0 ≢ x = (λ w. clash (has l x) (rw w at there) (nodup_head x l n)) in
    rw (ne_eqb (get_or l k 0) x other) (nodup_before l k (nodup_tail x l n) (le_of_suc-le-suc h))

-- ---- ranges and their parts

pub range_read : (a k i d : ℕ) → i < k → get_or (range a k) i d ≡ a + i
range_read a zero i d h = absurd (not-suc-le-zero h)
range_read a (suc k) zero d h = omega arith
range_read a (suc k) (suc i) d h = range_read (suc a) k i d (le_of_suc-le-suc h) ∙ omega arith

pub range_append : (a m n : ℕ) → range a (m + n) ≡ range a m ++ range (a + m) n
range_append a zero n = let e : 0 + n ≡ n = omega arith in let d : a + 0 ≡ a = omega arith in rw (e, d)
range_append a (suc m) n =
    let e : suc m + n ≡ suc (m + n) = omega arith in
    let d : suc a + m ≡ a + suc m = omega arith in
    rw (e, ← d) (ap (λ (l : List ℕ). a ∷ l) (range_append (suc a) m n))

-- more is kept of a longer range
pub keep_range_within : (f : ℕ → Bool) (k m : ℕ) → k ≤ m → length (keep f (range 0 k)) ≤ length (keep f (range 0 m))
keep_range_within f k m h =
    let parts : k + (m - k) ≡ m = omega arith in
    let split : keep f (range 0 m) ≡ keep f (range 0 k) ++ keep f (range (0 + k) (m - k)) =
    ap (λ (n : ℕ). keep f (range 0 n)) (sym parts) ∙ ap (keep f) (range_append 0 k (m - k)) ∙ keep_append f (range 0 k) (range (0 + k) (m - k)) in
    omega (arith, ap length split, length-append (keep f (range 0 k)) (keep f (range (0 + k) (m - k))))

-- the numbers of a range from v on, k of them
pub range_part : (n v k : ℕ) → v + k ≤ n → keep (λ x. leb v x && ltb x (v + k)) (range 0 n) ≡ range v k
range_part n v k h =
    ap (keep t) split
    ∙ keep_append t (range 0 v) (range v k ++ range (v + k) (n - (v + k)))
    ∙ rw (none (range 0 v) (λ x m. low x (range_in 0 v x m)))
    (keep_append t (range v k) (range (v + k) (n - (v + k)))
    ∙ rw (each, none (range (v + k) (n - (v + k))) (λ x m. high x (range_in (v + k) (n - (v + k)) x m))) (append-nil (range v k)))
  where
    t : ℕ → Bool
    t x = leb v x && ltb x (v + k)

    split : range 0 n ≡ range 0 v ++ (range v k ++ range (v + k) (n - (v + k)))
    split =
        let e : n ≡ v + (k + (n - (v + k))) = omega arith in
        let d : 0 + v ≡ v = omega arith in
        ap (range 0) e ∙ range_append 0 v (k + (n - (v + k))) ∙ rw d (ap (λ (l : List ℕ). range 0 v ++ l) (range_append v k (n - (v + k))))

    none : (l : List ℕ) → ((x : ℕ) → has l x ≡ true → t x ≡ false) → keep t l ≡ []
    none l out = keep_ext t (λ _. false) l out ∙ keep_none l

    low : (x : ℕ) → (0 ≤ x) × (x < 0 + v) → t x ≡ false
    low x u = rw (lt-leb v x (omega arith))

    between : (x : ℕ) → (v ≤ x) × (x < v + k) → t x ≡ true
    between x u = rw (le-leb v x (omega arith), lt-ltb x (v + k) (omega arith))

    high : (x : ℕ) → (v + k ≤ x) × (x < v + k + (n - (v + k))) → t x ≡ false
    high x u = rw (le-leb v x (omega arith), le-ltb x (v + k) (omega arith))

    each : keep t (range v k) ≡ range v k
    each = keep_ext t (λ _. true) (range v k) (λ x m. between x (range_in v k x m)) ∙ keep_all (λ _. true) (range v k) (λ _. refl)
