-- Words about lists and tests. A test is a function to Bool. Every definition computes. Assumes nothing.
use Rattle.std.specs.Prelude.{Bool, true, false, not, cond, ◌&&◌, ◌||◌, List, [], ◌∷◌, ◌++◌, ℕ, zero, suc, ◌+◌, ◌-◌, eqb, length, take, drop, replicate}

-- range a k: the k numbers a, a + 1, ..
abbrev pub range : ℕ → ℕ → List ℕ
range a zero = []
range a (suc k) = a ∷ range (suc a) k

-- every n f: the test f passes at each number below n
abbrev pub every : ℕ → (ℕ → Bool) → Bool
every zero f = true
every (suc n) f = f n && every n f

-- 1 where a test passes, else 0
abbrev pub bit : Bool → ℕ
bit true = 1
bit false = 0

module _ {A : Type 0} where
  -- the elements that pass a test, in order
  abbrev pub keep : (A → Bool) → List A → List A
  keep f [] = []
  keep f (x ∷ l) = cond (f x) (x ∷ keep f l) (keep f l)

  -- how many elements pass a test
  abbrev pub count : (A → Bool) → List A → ℕ
  count f [] = 0
  count f (x ∷ l) = bit (f x) + count f l

  -- some element passes a test
  abbrev pub any : (A → Bool) → List A → Bool
  any f [] = false
  any f (x ∷ l) = f x || any f l

  -- every element passes a test
  abbrev pub all : (A → Bool) → List A → Bool
  all f [] = true
  all f (x ∷ l) = f x && all f l

  -- the lists of a list, one after another
  abbrev pub joined : List (List A) → List A
  joined [] = []
  joined (l ∷ ls) = l ++ joined ls

  -- the last element goes to the front
  unfoldable pub rotated : List A → List A
  rotated l = drop (length l - 1) l ++ take (length l - 1) l

  -- the place of the first element that passes a test; the length where none does
  abbrev pub first_place : (A → Bool) → List A → ℕ
  first_place f [] = 0
  first_place f (x ∷ l) = cond (f x) 0 (suc (first_place f l))

  -- pad n d l: the list l and, up to n elements, d after it. An array of n slots with a count holds a list so
  abbrev pub pad : ℕ → A → List A → List A
  pad n d l = l ++ replicate (n - length l) d

  -- a list has no element
  abbrev pub empty : List A → Bool
  empty [] = true
  empty (x ∷ l) = false

-- has l c: the number c stands in the list l
abbrev pub has : List ℕ → ℕ → Bool
has [] c = false
has (x ∷ l) c = eqb c x || has l c

-- no number stands twice
abbrev pub nodup : List ℕ → Bool
nodup [] = true
nodup (x ∷ l) = not (has l x) && nodup l

-- the numbers of a list other than c, in order
abbrev pub without : ℕ → List ℕ → List ℕ
without c l = keep (λ x. not (eqb x c)) l

-- two lists have a number in common
abbrev pub meets : List ℕ → List ℕ → Bool
meets l k = any (has k) l

-- the numbers of the second list that are not there yet go to the end of the first, in order
abbrev pub add_new : List ℕ → List ℕ → List ℕ
add_new l [] = l
add_new l (x ∷ k) = add_new (cond (has l x) l (l ++ (x ∷ []))) k

-- two lists are equal, number by number
abbrev pub same : List ℕ → List ℕ → Bool
same [] [] = true
same [] (y ∷ k) = false
same (x ∷ l) [] = false
same (x ∷ l) (y ∷ k) = eqb x y && same l k
