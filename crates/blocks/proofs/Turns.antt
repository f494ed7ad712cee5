-- The eight slots of an equation. `put_slots`: the list and the fillers behind it, written into the slots, are the list stored with its fillers. `slots_at`: the
-- slots passed are cells, and with what comes before the filler in the others they are the equation's cells. Assumes nothing.
use mathlib.Core.Path.{◌≡◌, refl, sym, ap, ◌∙◌}
use mathlib.Core.Logic.{◌≢◌}
use mathlib.Core.List.{List, [], ◌∷◌, ◌++◌, append-nil, append_assoc}
use Prim.Native.Nat.{ℕ, ◌+◌, ◌-◌, ◌*◌, ◌≤◌, ◌<◌}
use native.Mathlib.Numerals.{add-one}
use native.Mathlib.Omega.{arith}
use borrow.Rule.Slice.PartMut.{put_mid, mid_of}
use lib.ListN.{length, get_or, take, drop, set, replicate, length-append, length-drop, length-take, length-replicate, drop_of_length-le}
use lib.Seq.{sets, sets-eq, take-suc, length-take-le, drop-drop, take_at}
use borrow.Author.Tests.{ne_eqb}
use Rattle.lists.specs.Lists.{pad}
use Rattle.lists.proofs.Arrays.{pad_push, length_pad, drop_more, drop_none}
use Rattle.grid.specs.Window.{listed}
use Rattle.grid.specs.declared.window.UpToEight.{UpToEight}
use Rattle.blocks.specs.BlockSets.{before, slot_cells}

-- ---- put_slots

-- a part written whole is stored
part_stored : (t : List ℕ) (a k : ℕ) (ys : List ℕ) → a + k ≤ length t → length ys ≡ k → put_mid a k t ys ≡ sets t a ys
part_stored t a k ys h l =
    let fits : a + length ys ≤ length t = omega arith in
    rw (drop-drop, ← l) (sym (append_assoc (take a t) ys (drop (a + length ys) t)) ∙ sym (sets-eq ys t a fits))

-- what stands behind a list that begins a part is written over
behind_written : (own xs ys : List ℕ) (n : ℕ) → length xs ≡ n → n + length ys ≡ length own
    → put_mid n (length (xs ++ drop n own) - n) (xs ++ drop n own) ys ≡ xs ++ ys
behind_written own xs ys n l h =
    let long : length (xs ++ drop n own) ≡ length own = omega (arith, length-append xs (drop n own), length-drop n own) in
    let none : drop (length (xs ++ drop n own) - n) (drop n (xs ++ drop n own)) ≡ [] =
    drop_of_length-le (drop n (xs ++ drop n own)) {i = length (xs ++ drop n own) - n} (omega (arith, length-drop n (xs ++ drop n own))) in
    rw (none, take_at xs (drop n own) n l, append-nil)

module _ (slots : List ℕ) (e : ℕ) (whole : length slots ≡ 8192) (h : e < 1024) where
  pub length_part : length (mid_of (e * 8) (e * 8 + 8 - e * 8) slots) ≡ 8
  length_part =
      let k : e * 8 + 8 - e * 8 ≡ 8 = omega arith in
      rw k (length-take-le 8 (drop (e * 8) slots) (omega (arith, length-drop (e * 8) slots)))

  -- the part, with the list in it
  abbrev copied : List ℕ → ℕ → List ℕ
  copied xs n = xs ++ drop n (mid_of (e * 8) (e * 8 + 8 - e * 8) slots)

  pub put_both : (xs fillers : List ℕ) (n : ℕ) → length xs ≡ n → n ≤ 8 → fillers ≡ replicate (length (take (length (copied xs n) - n) (drop n (copied xs n)))) 65535
      → put_mid (e * 8) (e * 8 + 8 - e * 8) slots (put_mid n (length (copied xs n) - n) (copied xs n) fillers) ≡ sets slots (e * 8) (pad 8 65535 xs)
  put_both xs fillers n l few f =
      let own = mid_of (e * 8) (e * 8 + 8 - e * 8) slots in
      let k : e * 8 + 8 - e * 8 ≡ 8 = omega arith in
      let long : length (copied xs n) ≡ 8 = omega (arith, length_part, length-append xs (drop n own), length-drop n own) in
      let m : length (take (length (copied xs n) - n) (drop n (copied xs n))) ≡ 8 - length xs =
      omega (arith, length-take (length (copied xs n) - n) (drop n (copied xs n)), length-drop n (copied xs n)) in
      let same : fillers ≡ replicate (8 - length xs) 65535 = f ∙ ap (λ (i : ℕ). replicate i 65535) m in
      ap (put_mid (e * 8) (e * 8 + 8 - e * 8) slots)
      (behind_written own xs fillers n l (omega (arith, length_part, ap length same, length-replicate {A = ℕ} (8 - length xs) 65535)))
      ∙ rw (k, same) (part_stored slots (e * 8) 8 (pad 8 65535 xs) (omega arith) (length_pad 8 65535 xs (omega arith)))

-- ---- slots_at: the eight slots of an equation are passed one by one

-- the slots of the equation at place e
abbrev pub own_slots : List ℕ → ℕ → List ℕ
own_slots slots e = take 8 (drop (e * 8) slots)

-- n slots are passed, and the list has them
pub record Passed (own : List ℕ) (list : UpToEight) (n : ℕ) : Type 0 where
  pub counted : list.len ≡ n
  pub held : list.cells ≡ pad 8 0 (take n own)
  pub rest : take n own ++ before 65535 (drop n own) ≡ before 65535 own

pub pass_none : (own : List ℕ) → Passed own (listed []) 0
pass_none own = record { counted = refl; held = refl; rest = refl }

module _ (own : List ℕ) (list : UpToEight) (n : ℕ) (long : length own ≡ 8) (p : Passed own list n) where
  -- the next slot is a cell
  module _ (x : ℕ) (u : n < length own) (at : x ≡ get_or own n 0) (f : x ≢ 65535) where
    length_passed : length (take n own) ≡ n
    length_passed = length-take-le n own (omega arith)

    take_more : take (n + 1) own ≡ take n own ++ (x ∷ [])
    take_more = rw (add-one, at) (take-suc own n 0 u)

    before_more : before 65535 (drop n own) ≡ x ∷ before 65535 (drop (n + 1) own)
    before_more = rw (drop_more own n 0 u, ← at, ne_eqb x 65535 f)

    held_more : set (pad 8 0 (take n own)) n x ≡ pad 8 0 (take (n + 1) own)
    held_more =
        ap (λ (i : ℕ). set (pad 8 0 (take n own)) i x) (sym length_passed)
        ∙ pad_push 8 0 (take n own) x (omega (arith, length_passed))
        ∙ ap (pad 8 0) (sym take_more)

    pub pass_cell : Passed own (record { cells = set list.cells list.len x; len = list.len + 1 }) (n + 1)
    pass_cell =
        record {
          counted = omega (arith, p.counted);
          held = rw (p.counted, p.held) held_more;
          rest = rw (take_more, append_assoc) (ap (λ (r : List ℕ). take n own ++ r) (sym before_more) ∙ p.rest);
        }

  -- no cell is left
  none_left : n ≤ length own → before 65535 (drop n own) ≡ [] → list ≡ listed (before 65535 own)
  none_left h e =
      let l : take n own ≡ before 65535 own = sym (append-nil (take n own)) ∙ ap (λ (r : List ℕ). take n own ++ r) (sym e) ∙ p.rest in
      let m : list.len ≡ length (before 65535 own) = p.counted ∙ sym (length-take-le n own h) ∙ ap length l in
      let c : list.cells ≡ pad 8 0 (before 65535 own) = p.held ∙ ap (pad 8 0) l in
      ap (λ (k : List ℕ). record { cells = k; len = list.len }) c ∙ ap (λ (k : ℕ). record { cells = pad 8 0 (before 65535 own); len = k }) m

  -- the end at the first filler, and the end at the eighth slot
  pub pass_filler : n < length own → get_or own n 0 ≡ 65535 → list ≡ listed (before 65535 own)
  pass_filler u w = none_left (omega arith) (rw (drop_more own n 0 u, w))

  pub pass_last : n ≡ length own → list ≡ listed (before 65535 own)
  pass_last u = none_left (omega arith) (ap (before 65535) (drop_none own n (omega arith)))

-- the slots as the code lends them
module _ (slots : List ℕ) (e : ℕ) (list : UpToEight) (is : list ≡ listed (before 65535 (mid_of (e * 8) (e * 8 + 8 - e * 8) slots))) where
  pub passed_all : list ≡ listed (slot_cells slots e)
  unfolding slot_cells
  passed_all = let k : e * 8 + 8 - e * 8 ≡ 8 = omega arith in rw k at is
