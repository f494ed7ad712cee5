-- A list in an array with a count, each of its cells marked (`Listed`). A cell that is not marked has room behind the list, since a list without
-- repetition of numbers below 1,024 has at most so many. A loop that lists cells has added some to the list, and those with the ones still to be
-- added give the whole (`Adding`). Rests on the laws of marks and of arrays with a count. Assumes nothing.
use mathlib.Core.Path.{◌≡◌, refl, sym, ap, ◌∙◌}
use mathlib.Core.Bool.{Bool, true, false, not, cond}
use mathlib.Core.List.{List, [], ◌∷◌, ◌++◌, reverse}
use Prim.Native.Nat.{ℕ, ◌+◌, ◌-◌, ◌≤◌, ◌<◌}
use native.Mathlib.Numerals.{add-one}
use native.Mathlib.Omega.{arith}
use lib.Dec.{ltb}
use lib.ListN.{length, get_or, set, take, replicate, length-append, length-take, length-set, length-replicate}
use lib.Seq.{length-take-le, take-suc-set}
use borrow.Author.Tests.{ltb-true, lt-ltb, ne_eqb}
use Rattle.lists.specs.Lists.{keep, all, has, nodup, pad, add_new}
use Rattle.lists.proofs.Tests.{clash}
use Rattle.lists.proofs.Members.{nodup_append}
use Rattle.lists.proofs.Rearranged.{nodup_below}
use Rattle.lists.proofs.All.{all_push, all_has}
use Rattle.lists.proofs.Arrays.{length_pad, pad_nil, pad_push}
use Rattle.lists.proofs.AddNew.{add_new_there, add_new_push}
use Rattle.lists.proofs.TurnedRound.{take_back}
use Rattle.blocks.specs.Places.{marked}
use Rattle.blocks.proofs.MarkLaws.{marks_has, marks_push, marks_none}
use Rattle.marks.specs.Marked.{Listed}
use Rattle.marks.specs.CellLists.{cell_list}

-- ---- no cell

-- the list without a cell
pub listed_none : Listed (replicate 1024 0) (replicate 1024 0) 0
listed_none =
    record {
      whole = length-replicate {A = ℕ} 1024 0;
      few = omega arith;
      filled = pad_nil 1024 0;
      shown = marks_none 1024;
      once = refl;
      below = refl;
    }

-- ---- a list

module _ (marks out : List ℕ) (n : ℕ) (held : Listed marks out n) where
  -- the array has 1,024 entries
  pub listed_array : length out ≡ 1024
  listed_array = ap length held.filled ∙ length_pad 1024 0 (take n out) (omega (arith, length-take n out, held.few))

  -- the count is the length of the list
  pub listed_count : length (take n out) ≡ n
  listed_count = length-take-le n out (omega (arith, listed_array, held.few))

  -- and the two are the struct of the list
  pub listed_is : (l : List ℕ) → take n out ≡ l → record { cells = out; count = n } ≡ cell_list l
  listed_is l e = let counted : n ≡ length l = sym listed_count ∙ ap length e in let filled = held.filled ∙ ap (pad 1024 0) e in rw (filled, counted)

  module _ (c : ℕ) (below : c < 1024) (new : marked marks c ≡ false) where
    fresh : has (take n out) c ≡ false
    fresh = sym (marks_has held.shown c) ∙ new

    more_once : nodup (take n out ++ (c ∷ [])) ≡ true
    more_once =
        nodup_append (take n out) (c ∷ []) held.once refl
        (λ x h. rw (ne_eqb x c (λ w. clash (has (take n out) c) (rw w at h) fresh)))

    more_below : all (λ x. ltb x 1024) (take n out ++ (c ∷ [])) ≡ true
    more_below = all_push (λ x. ltb x 1024) (take n out) c held.below (lt-ltb c 1024 below)

    -- there is room for a new cell
    pub listed_room : n < 1024
    listed_room =
        omega (
          arith,
          nodup_below 1024 (take n out ++ (c ∷ [])) more_once
              (λ x h. ltb-true x 1024 (all_has (λ y. ltb y 1024) (take n out ++ (c ∷ [])) more_below x h)),
          length-append (take n out) (c ∷ []),
          listed_count,
        )

    -- it goes to the end of the list
    pub listed_added : take (n + 1) (set out n c) ≡ take n out ++ (c ∷ [])
    listed_added = rw add-one (take-suc-set out n c (omega (arith, listed_array, listed_room)))

    -- and the list with it is one of this kind
    pub listed_push : Listed (set marks c 1) (set out n c) (n + 1)
    listed_push =
        record {
          whole = length-set marks c 1 ∙ held.whole;
          few = omega (arith, listed_room);
          filled = filled;
          shown = rw listed_added (marks_push marks (take n out) c (omega (arith, held.whole, below)) held.shown);
          once = rw listed_added more_once;
          below = rw listed_added more_below;
        }
      where
        filled : set out n c ≡ pad 1024 0 (take (n + 1) (set out n c))
        filled =
            ap (λ (l : List ℕ). set l n c) held.filled
            ∙ ap (λ (j : ℕ). set (pad 1024 0 (take n out)) j c) (sym listed_count)
            ∙ pad_push 1024 0 (take n out) c (omega (arith, listed_count, listed_room))
            ∙ ap (pad 1024 0) (sym listed_added)

-- ---- the cells of an array from the last to the first, but those that are marked there

-- those of the first k
abbrev pub back_unmarked : List ℕ → List ℕ → ℕ → List ℕ
back_unmarked there cells k = keep (λ c. not (marked there c)) (reverse (take k cells))

-- the list, with what the first k still add, is the whole
pub record Adding (there cells whole marks out : List ℕ) (n k : ℕ) : Type 0 where
  pub listed : Listed marks out n
  pub left : add_new (take n out) (back_unmarked there cells k) ≡ whole

module _ (there cells whole marks out : List ℕ) (n k : ℕ) (held : Adding there cells whole marks out n k) where
  -- none is left
  pub adding_end : k ≤ 0 → take n out ≡ whole
  adding_end h = let e : k ≡ 0 = omega arith in ap (λ (j : ℕ). add_new (take n out) (back_unmarked there cells j)) (sym e) ∙ held.left

  -- the last of them is c, at place j
  module _ (j : ℕ) (last : k ≡ j + 1) (few : k ≤ length cells) (c : ℕ) (at : c ≡ get_or cells j 0) where
    -- it comes first, if it is not marked there
    next : (t : Bool) → marked there c ≡ t → back_unmarked there cells k ≡ cond (not t) (c ∷ back_unmarked there cells j) (back_unmarked there cells j)
    next t e =
        ap (keep (λ x. not (marked there x))) (back ∙ ap (λ (x : ℕ). x ∷ reverse (take j cells)) (sym at))
        ∙ ap (λ (v : Bool). cond (not v) (c ∷ back_unmarked there cells j) (back_unmarked there cells j)) e
      where
        back : reverse (take k cells) ≡ get_or cells j 0 ∷ reverse (take j cells)
        back = let e : k - 1 ≡ j = omega arith in rw e at (take_back cells k 0 (omega arith) few)

    -- it is marked there: it is passed over
    pub adding_known : marked there c ≡ true → Adding there cells whole marks out n j
    adding_known e = record { listed = held.listed; left = sym (ap (add_new (take n out)) (next true e)) ∙ held.left }

    -- it is listed already
    pub adding_old : marked there c ≡ false → marked marks c ≡ true → Adding there cells whole marks out n j
    adding_old e m =
        record {
          listed = held.listed;
          left = sym (add_new_there (take n out) c (back_unmarked there cells j) (sym (marks_has held.listed.shown c) ∙ m))
              ∙ sym (ap (add_new (take n out)) (next false e))
              ∙ held.left;
        }

    -- it is new
    pub adding_new : c < 1024 → marked there c ≡ false → marked marks c ≡ false
        → Adding there cells whole (set marks c 1) (set out n (get_or cells j 0)) (n + 1) j
    adding_new below e m =
        rw (← at)
        record {
          listed = listed_push marks out n held.listed c below m;
          left = ap (λ (l : List ℕ). add_new l (back_unmarked there cells j)) (listed_added marks out n held.listed c below m)
              ∙ sym (add_new_push (take n out) c (back_unmarked there cells j) (sym (marks_has held.listed.shown c) ∙ m))
              ∙ sym (ap (add_new (take n out)) (next false e))
              ∙ held.left;
        }
