-- Lists one after another, in a list and in an array: where a part of a joined list stands, joined lists of equal length, what is read over a range of
-- places, and a list stored behind the one that an array holds. A part is the list `f b` of some b. Assumes nothing.
use mathlib.Core.Path.{◌≡◌, refl, sym, ap, ◌∙◌}
use mathlib.Core.Bool.{true}
use mathlib.Core.List.{List, [], ◌∷◌, ◌++◌, map, append-nil, append_assoc, map-append, map-map}
use Prim.Native.Nat.{ℕ, zero, suc, ◌+◌, ◌-◌, ◌*◌, ◌≤◌, ◌<◌}
use native.Mathlib.Nat.{not-suc-le-zero, le_of_suc-le-suc, zero-mul, suc-mul}
use native.Mathlib.Omega.{arith}
use lib.Dec.{eqb}
use lib.ListN.{length, get_or, take, drop, replicate, length-append, length-drop}
use lib.Seq.{sets, drop-cons, split_at, take-append_seam, drop-append_seam, take-append-le, drop-append-le, take_at, drop_at, drop-drop, get_or-take, get_or-drop, take-length}
use borrow.Author.Tests.{eqb-true}
use Rattle.lists.specs.Lists.{range, all, has, joined, pad}
use Rattle.lists.proofs.All.{all_head, all_tail}
use Rattle.lists.proofs.Arrays.{pad_nil, pad_push}
use Rattle.lists.proofs.Members.{has_head, has_tail, range_last}

-- ---- ranges of places

module _ {A : Type 0} where
  -- the elements from a on, k of them
  pub read_range : (l : List A) (d : A) (a k : ℕ) → a + k ≤ length l → map (λ (i : ℕ). get_or l i d) (range a k) ≡ take k (drop a l)
  read_range l d a zero h = refl
  read_range l d a (suc k) h = rw (read_range l d (suc a) k (omega arith), drop-cons l a d (omega arith))

  pub read_all : (l : List A) (d : A) → map (λ (i : ℕ). get_or l i d) (range 0 (length l)) ≡ l
  read_all l d = read_range l d 0 (length l) (omega arith) ∙ take-length l

  -- two functions that agree on a range
  pub map_range : (f g : ℕ → A) (a k : ℕ) → ((i : ℕ) → a ≤ i → i < a + k → f i ≡ g i) → map f (range a k) ≡ map g (range a k)
  map_range f g a zero h = refl
  map_range f g a (suc k) h = rw (h a (omega arith) (omega arith), map_range f g (suc a) k (λ i l u. h i (omega arith) (omega arith)))

  -- and on the numbers of any list
  pub map_ext : (f g : ℕ → A) (l : List ℕ) → ((c : ℕ) → has l c ≡ true → f c ≡ g c) → map f l ≡ map g l
  map_ext f g [] h = refl
  map_ext f g (x ∷ l) h = rw (h x (has_head x l), map_ext f g l (λ c e. h c (has_tail x l c e)))

  -- a slice of a list does not see what stands behind the list
  pub slice_append : (l r : List A) (a k : ℕ) → a + k ≤ length l → take k (drop a (l ++ r)) ≡ take k (drop a l)
  slice_append l r a k h =
      ap (take k) (drop-append-le a l r (omega arith))
      ∙ take-append-le k (drop a l) r (omega (arith, length-drop a l))

-- ---- parts of a joined list

module _ {A : Type 0} where
  pub joined_append : (ks ls : List (List A)) → joined (ks ++ ls) ≡ joined ks ++ joined ls
  joined_append [] ls = refl
  joined_append (k ∷ ks) ls = rw (joined_append ks ls, append_assoc)

module _ {A B : Type 0} (f : B → List A) where
  -- one part more
  pub joined_push : (bs : List B) (b : B) → joined (map f (bs ++ (b ∷ []))) ≡ joined (map f bs) ++ f b
  joined_push bs b =
      ap joined (map-append f bs (b ∷ []))
      ∙ joined_append (map f bs) (f b ∷ [])
      ∙ ap (λ (l : List A). joined (map f bs) ++ l) (append-nil (f b))

  -- what stands before a part, the part, and what stands behind it
  pub joined_split : (bs : List B) (k : ℕ) (d : B) → k < length bs
      → joined (map f bs) ≡ joined (map f (take k bs)) ++ (f (get_or bs k d) ++ joined (map f (drop (suc k) bs)))
  joined_split bs k d h =
      ap (λ (l : List B). joined (map f l)) (split_at bs k d h)
      ∙ ap joined (map-append f (take k bs) (get_or bs k d ∷ drop (suc k) bs))
      ∙ joined_append (map f (take k bs)) (map f (get_or bs k d ∷ drop (suc k) bs))

  -- a part ends inside the joined list
  pub part_within : (bs : List B) (k : ℕ) (d : B) → k < length bs → length (joined (map f (take k bs))) + length (f (get_or bs k d)) ≤ length (joined (map f bs))
  part_within bs k d h =
      let p = joined (map f (take k bs)) in
      let q = f (get_or bs k d) in
      let r = joined (map f (drop (suc k) bs)) in
      omega (arith, ap length (joined_split bs k d h), length-append p (q ++ r), length-append q r)

  -- a part, cut out
  pub part_slice : (bs : List B) (k : ℕ) (d : B) → k < length bs
      → take (length (f (get_or bs k d))) (drop (length (joined (map f (take k bs)))) (joined (map f bs))) ≡ f (get_or bs k d)
  part_slice bs k d h =
      let p = joined (map f (take k bs)) in
      let q = f (get_or bs k d) in
      let r = joined (map f (drop (suc k) bs)) in
      ap (λ (l : List A). take (length q) (drop (length p) l)) (joined_split bs k d h)
      ∙ ap (take (length q)) (drop-append_seam p (q ++ r))
      ∙ take-append_seam q r

  -- ---- parts of equal length

  module _ (n : ℕ) where
    pub length_joined : (bs : List B) → all (λ b. eqb (length (f b)) n) bs ≡ true → length (joined (map f bs)) ≡ length bs * n
    length_joined [] h = rw zero-mul
    length_joined (b ∷ bs) h =
        let e : length (f b) ≡ n = eqb-true (length (f b)) n (all_head (λ x. eqb (length (f x)) n) b bs h) in
        let t : length (joined (map f bs)) ≡ length bs * n = length_joined bs (all_tail (λ x. eqb (length (f x)) n) b bs h) in
        omega (arith, length-append (f b) (joined (map f bs)), suc-mul (length bs) n)

    -- the part at place e stands from e * n on
    pub equal_slice : (bs : List B) (e : ℕ) (d : B) → all (λ b. eqb (length (f b)) n) bs ≡ true → e < length bs → take n (drop (e * n) (joined (map f bs))) ≡ f (get_or bs e d)
    equal_slice [] e d h k = absurd (not-suc-le-zero k)
    equal_slice (b ∷ bs) zero d h k =
        rw zero-mul (take_at (f b) (joined (map f bs)) n (eqb-true (length (f b)) n (all_head (λ x. eqb (length (f x)) n) b bs h)))
    equal_slice (b ∷ bs) (suc e) d h k =
        let l : length (f b) ≡ n = eqb-true (length (f b)) n (all_head (λ x. eqb (length (f x)) n) b bs h) in
        let m : suc e * n ≡ n + e * n = omega (arith, suc-mul e n) in
        rw m
        (ap (take n) (sym (drop-drop (e * n) n (f b ++ joined (map f bs))) ∙ ap (drop (e * n)) (drop_at (f b) (joined (map f bs)) n l))
        ∙ equal_slice bs e d (all_tail (λ x. eqb (length (f x)) n) b bs h) (le_of_suc-le-suc k))

    pub equal_read : (bs : List B) (e k : ℕ) (d : B) (z : A) → all (λ b. eqb (length (f b)) n) bs ≡ true → e < length bs → k < n
        → get_or (joined (map f bs)) (e * n + k) z ≡ get_or (f (get_or bs e d)) k z
    equal_read bs e k d z h l u =
        sym (get_or-drop (e * n) (joined (map f bs)) k z)
        ∙ sym (get_or-take n (drop (e * n) (joined (map f bs))) k z u)
        ∙ ap (λ (t : List A). get_or t k z) (equal_slice bs e d h l)

-- ---- in an array

-- a list stored behind the one that the array holds
pub pad_sets : {A : Type 0} (n : ℕ) (d : A) (l k : List A) → length l + length k ≤ n → sets (pad n d l) (length l) k ≡ pad n d (l ++ k)
pad_sets {A} n d l [] h = ap (pad n d) (sym (append-nil l))
pad_sets {A} n d l (x ∷ k) h =
    let e : length (l ++ (x ∷ [])) ≡ length l + 1 = length-append l (x ∷ []) in
    let s : suc (length l) ≡ length (l ++ (x ∷ [])) = omega arith in
    ap (λ (t : List A). sets t (suc (length l)) k) (pad_push n d l x (omega arith))
    ∙ ap (λ (i : ℕ). sets (pad n d (l ++ (x ∷ []))) i k) s
    ∙ pad_sets n d (l ++ (x ∷ [])) k (omega arith)
    ∙ ap (pad n d) (append_assoc l (x ∷ []) k)

-- stored from the first place on, in an array of the filler alone
pub filled_sets : {A : Type 0} (n : ℕ) (d : A) (l : List A) → length l ≤ n → sets (replicate n d) 0 l ≡ pad n d l
filled_sets {A} n d l h = ap (λ (a : List A). sets a 0 l) (pad_nil n d) ∙ pad_sets n d [] l (omega arith)

-- ---- what a loop over places gives

-- what the places from a up to i give, and place i
pub joined_range_last : {A : Type 0} (f : ℕ → List A) (a i : ℕ) → a ≤ i
    → joined (map f (range a (i + 1 - a))) ≡ joined (map f (range a (i - a))) ++ f i
joined_range_last f a i h =
    let m : i + 1 - a ≡ suc (i - a) = omega arith in
    let e : a + (i - a) ≡ i = omega arith in
    ap (λ (k : ℕ). joined (map f (range a k))) m
    ∙ ap (λ (l : List ℕ). joined (map f l)) (range_last a (i - a) ∙ ap (λ (n : ℕ). range a (i - a) ++ (n ∷ [])) e)
    ∙ joined_push f (range a (i - a)) i

-- two functions one after the other
pub joined_map_map : {A B : Type 0} (g : B → List A) (f : ℕ → B) (l : List ℕ) → joined (map (λ (i : ℕ). g (f i)) l) ≡ joined (map g (map f l))
joined_map_map g f l = ap joined (sym (map-map g f l))

-- what the elements of a list give, by their places, as a loop from 0 up to the length passes them
pub joined_places : {A : Type 0} (g : ℕ → List A) (l : List ℕ) → joined (map (λ (i : ℕ). g (get_or l i 0)) (range 0 (length l - 0))) ≡ joined (map g l)
joined_places g l =
    let e : length l - 0 ≡ length l = omega arith in
    ap (λ (n : ℕ). joined (map (λ (i : ℕ). g (get_or l i 0)) (range 0 n))) e
    ∙ joined_map_map g (λ (i : ℕ). get_or l i 0) (range 0 (length l))
    ∙ ap (λ (k : List ℕ). joined (map g k)) (read_all l 0)

-- lists of one element each
pub joined_singles : (l : List ℕ) → joined (map (λ (x : ℕ). x ∷ []) l) ≡ l
joined_singles [] = refl
joined_singles (x ∷ l) = ap (λ (t : List ℕ). x ∷ t) (joined_singles l)
