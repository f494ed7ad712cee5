-- What is read back: of a list made over a range of numbers, the value at each; of a list stored at the front of another one, the list itself, and behind it
-- what stood there before. General laws of lists, over any elements. Assumes nothing.
use mathlib.Core.Path.{◌≡◌, ap, ◌∙◌}
use mathlib.Core.List.{List, ◌++◌, map}
use Prim.Native.Nat.{ℕ, ◌+◌, ◌-◌, ◌≤◌, ◌<◌}
use native.Mathlib.Omega.{arith}
use lib.ListN.{length, get_or, take, drop, get_or-append}
use lib.Seq.{sets, sets-eq, get_or-append-add, get_or-drop}
use Rattle.lists.specs.Lists.{range}
use Rattle.lists.proofs.Rearranged.{length_range}
use Rattle.lists.proofs.PlacesAndRanges.{map_read, range_read}
use Rattle.lists.proofs.Stores.{slice_stored}

module _ {A : Type 0} where
  -- a list made over a range has at each place what is made of that number
  pub range_made : (f : ℕ → A) (a k i : ℕ) (d : A) → i < k → get_or (map f (range a k)) i d ≡ f (a + i)
  range_made f a k i d h = map_read f (range a k) i 0 d (omega (arith, length_range a k)) ∙ ap f (range_read a k i 0 h)

  -- a list stored at the front of a longer one
  module _ (l xs : List A) (fits : length xs ≤ length l) where
    front : sets l 0 xs ≡ xs ++ drop (length xs) l
    front = let e : 0 + length xs ≡ length xs = omega arith in rw e at (sets-eq xs l 0 (omega arith))

    -- is there
    pub front_taken : take (length xs) (sets l 0 xs) ≡ xs
    front_taken = slice_stored l xs 0 (omega arith)

    -- place by place
    pub front_read : (i : ℕ) (d : A) → i < length xs → get_or (sets l 0 xs) i d ≡ get_or xs i d
    front_read i d h = rw front (get_or-append xs (drop (length xs) l) d i h)

    -- and behind it stands what stood there
    pub front_kept : (i : ℕ) (d : A) → length xs ≤ i → get_or (sets l 0 xs) i d ≡ get_or l i d
    front_kept i d h =
        let n = length xs in
        let e : i ≡ n + (i - n) = omega arith in
        rw (front, e) (get_or-append-add xs (drop n l) (i - n) d ∙ get_or-drop n l (i - n) d)
