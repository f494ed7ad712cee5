-- The part of a list from place a on, as it is lent, and the list once the part has come back: what stood before it stands there still, and behind that stands what came back;
-- what was written at its front, said of the whole. Assumes nothing.
use mathlib.Core.Path.{◌≡◌, sym, ap, ◌∙◌}
use mathlib.Core.List.{List, ◌++◌, append-nil, append_assoc}
use Prim.Native.Nat.{ℕ, ◌+◌, ◌-◌, ◌≤◌}
use native.Mathlib.Nat.{zero-add}
use native.Mathlib.Omega.{arith}
use borrow.Rule.Slice.PartMut.{put_mid}
use lib.ListN.{length, take, drop, length-drop, drop_of_length-le}
use lib.Seq.{sets, sets-eq, length-take-le, take_all, drop-drop, take_at, drop_at}

pub part_is : (t : List ℕ) (a : ℕ) → take (length t - a) (drop a t) ≡ drop a t
part_is t a = take_all (length t - a) (drop a t) (omega (arith, length-drop a t))

pub length_part : (t : List ℕ) (a : ℕ) → length (take (length t - a) (drop a t)) ≡ length t - a
length_part t a = ap length (part_is t a) ∙ length-drop a t

module _ (t : List ℕ) (a : ℕ) (ys : List ℕ) (h : a ≤ length t) where
  part_back : put_mid a (length t - a) t ys ≡ take a t ++ ys
  part_back = rw (drop-drop, drop_of_length-le t {i = a + (length t - a)} (omega arith), append-nil)

  pub front_back : take a (put_mid a (length t - a) t ys) ≡ take a t
  front_back = rw part_back (take_at (take a t) ys a (length-take-le a t h))

  pub behind_back : drop a (put_mid a (length t - a) t ys) ≡ ys
  behind_back = rw part_back (drop_at (take a t) ys a (length-take-le a t h))

pub part_written : (t : List ℕ) (a : ℕ) (xs ys : List ℕ) → a + length xs ≤ length t
    → ys ≡ sets (take (length t - a) (drop a t)) 0 xs → put_mid a (length t - a) t ys ≡ sets t a xs
part_written t a xs ys h e =
    let fits : 0 + length xs ≤ length (drop a t) = omega (arith, length-drop a t) in
    part_back t a ys (omega arith)
    ∙ rw (e, part_is t a, sets-eq xs t a h, sets-eq xs (drop a t) 0 fits, zero-add, drop-drop)
    (sym (append_assoc (take a t) xs (drop (a + length xs) t)))
