-- Lists turned round, kept, mapped and joined. What is kept of a list, of lists joined or of a list turned round is said element by element; the first k
-- elements of an array are read from the last to the first; and numbers added to a list that has none of them go behind it. Assumes nothing.
use mathlib.Core.Path.{◌≡◌, refl, sym, ap, ◌∙◌}
use mathlib.Core.Logic.{◌⊎◌, inl, inr}
use mathlib.Core.Bool.{Bool, true, false, cond}
use mathlib.Core.List.{List, [], ◌∷◌, ◌++◌, map, map-append, append-nil, append_assoc, reverse, reverse-cons, reverse-append, Memᴰ}
use Prim.Native.Nat.{ℕ, suc, ◌-◌, ◌≤◌, ◌<◌}
use native.Mathlib.Omega.{arith}
use lib.Dec.{eqb}
use lib.ListN.{length, get_or, take}
use lib.Seq.{take-suc}
use borrow.Author.Tests.{eqb-true}
use Rattle.lists.specs.Lists.{keep, has, nodup, joined, add_new}
use Rattle.lists.proofs.Tests.{Decided, decided, clash, or_cases, or_false_right}
use Rattle.lists.proofs.Members.{has_head, has_tail, has_append, nodup_head, nodup_tail}
use Rattle.lists.proofs.AddNew.{add_new_there, add_new_push}
use Rattle.lists.proofs.Kept.{keep_append}

-- ---- elements of any type

module _ {A : Type 0} where
  -- what is kept of a list turned round is what is kept, turned round
  pub keep_reverse : (f : A → Bool) (l : List A) → keep f (reverse l) ≡ reverse (keep f l)
  keep_reverse f [] = refl
  keep_reverse f (x ∷ l) =
      ap (keep f) (reverse-cons x l) ∙ keep_append f (reverse l) (x ∷ []) ∙ ap (λ (k : List A). k ++ keep f (x ∷ [])) (keep_reverse f l) ∙ go (f x)
    where
      go : (t : Bool) → reverse (keep f l) ++ cond t (x ∷ []) [] ≡ reverse (cond t (x ∷ keep f l) (keep f l))
      go true = sym (reverse-cons x (keep f l))
      go false = append-nil (reverse (keep f l))

  -- the first k elements of an array from the last to the first
  pub take_back : (l : List A) (k : ℕ) (d : A) → 0 < k → k ≤ length l → reverse (take k l) ≡ get_or l (k - 1) d ∷ reverse (take (k - 1) l)
  take_back l k d h few =
      let n : k ≡ suc (k - 1) = omega arith in
      ap (λ (j : ℕ). reverse (take j l)) n
      ∙ ap reverse (take-suc l (k - 1) d (omega arith))
      ∙ reverse-append (take (k - 1) l) (get_or l (k - 1) d ∷ [])

module _ {A B : Type 0} where
  -- two functions that agree on the elements
  pub map_agree : (f g : A → B) (l : List A) → ((x : A) → Memᴰ x l → f x ≡ g x) → map f l ≡ map g l
  map_agree f g [] h = refl
  map_agree f g (x ∷ l) h = rw (h x (Memᴰ.head refl), map_agree f g l (λ y m. h y (Memᴰ.tail m)))

  -- what is kept of lists joined
  pub keep_joined : (f : B → Bool) (g : A → List B) (l : List A) → keep f (joined (map g l)) ≡ joined (map (λ (x : A). keep f (g x)) l)
  keep_joined f g [] = refl
  keep_joined f g (x ∷ l) = keep_append f (g x) (joined (map g l)) ∙ ap (λ (k : List B). keep f (g x) ++ k) (keep_joined f g l)

  -- one element for each, as lists joined
  pub joined_each_one : (g : A → B) (l : List A) → joined (map (λ (x : A). g x ∷ []) l) ≡ map g l
  joined_each_one g [] = refl
  joined_each_one g (x ∷ l) = ap (λ (k : List B). g x ∷ k) (joined_each_one g l)

  -- the lists of the elements that pass a test, as lists of all elements, of which some are empty
  pub joined_keep : (g : A → List B) (t : A → Bool) (l : List A) → joined (map g (keep t l)) ≡ joined (map (λ (x : A). cond (t x) (g x) []) l)
  joined_keep g t [] = refl
  joined_keep g t (x ∷ l) = go (t x) (joined_keep g t l)
    where
      rest : List B
      rest = joined (map (λ (y : A). cond (t y) (g y) []) l)

      go : (v : Bool) → joined (map g (keep t l)) ≡ rest → joined (map g (cond v (x ∷ keep t l) (keep t l))) ≡ cond v (g x) [] ++ rest
      go true ih = ap (λ (k : List B). g x ++ k) ih
      go false ih = ih

module _ {A B C : Type 0} where
  -- a function of the elements of lists joined
  pub map_joined : (f : B → C) (g : A → List B) (l : List A) → map f (joined (map g l)) ≡ joined (map (λ (x : A). map f (g x)) l)
  map_joined f g [] = refl
  map_joined f g (x ∷ l) = map-append f (g x) (joined (map g l)) ∙ ap (λ (k : List C). map f (g x) ++ k) (map_joined f g l)

-- ---- numbers

-- of two lists one after the other, in which no number stands twice, the second has none of the first
pub nodup_apart : (k l : List ℕ) → nodup (k ++ l) ≡ true → (c : ℕ) → has k c ≡ true → has l c ≡ false
nodup_apart [] l n c h = clash false h refl
nodup_apart (x ∷ k) l n c h = go (or_cases (eqb c x) (has k c) h) (nodup_apart k l (nodup_tail x (k ++ l) n) c)
  where
    go : (eqb c x ≡ true) ⊎ (has k c ≡ true) → (has k c ≡ true → has l c ≡ false) → has l c ≡ false
    go (inl e) ih = let w : c ≡ x = eqb-true c x e in
        rw w (or_false_right (has k x) (has l x) (sym (has_append k l x) ∙ nodup_head x (k ++ l) n))
    go (inr e) ih = ih e

-- numbers added to a list that has none of them go behind it, each once
pub add_new_behind : (l k r : List ℕ) → ((c : ℕ) → has k c ≡ true → has l c ≡ false) → add_new (l ++ r) k ≡ l ++ add_new r k
add_new_behind l [] r apart = refl
add_new_behind l (x ∷ k) r apart = go (decided (has r x)) (λ q. add_new_behind l k q (λ c h. apart c (has_tail x k c h)))
  where
    here : has l x ≡ false
    here = apart x (has_head x k)

    both : (t : Bool) → has r x ≡ t → has (l ++ r) x ≡ t
    both t e = has_append l r x ∙ rw (here, e)

    go : Decided (has r x) → ((q : List ℕ) → add_new (l ++ q) k ≡ l ++ add_new q k) → add_new (l ++ r) (x ∷ k) ≡ l ++ add_new r (x ∷ k)
    go (inl e) ih = add_new_there (l ++ r) x k (both true e) ∙ ih r ∙ ap (λ (q : List ℕ). l ++ q) (sym (add_new_there r x k e))
    go (inr e) ih =
        add_new_push (l ++ r) x k (both false e)
        ∙ ap (λ (q : List ℕ). add_new q k) (append_assoc l r (x ∷ []))
        ∙ ih (r ++ (x ∷ []))
        ∙ ap (λ (q : List ℕ). l ++ q) (sym (add_new_push r x k e))
