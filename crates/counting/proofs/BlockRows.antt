-- The walk over a block's groups in their own order. The rows of that order's tree are the block's solutions themselves, so what is told of rows is told of
-- solutions; the sizes of the groups add up to the block's cells, so a count stays on the board. Rests on TreeSolutions and Orders of the crate search.
-- Assumes nothing.
use mathlib.Core.Path.{◌≡◌, refl, sym, ap, ◌∙◌}
use mathlib.Core.Logic.{inl, inr}
use mathlib.Core.Bool.{Bool, true, false, ◌&&◌, ◌||◌}
use mathlib.Core.List.{List, [], ◌∷◌, map, Memᴰ}
use Prim.Native.Nat.{ℕ, ◌+◌, ◌≤◌, ◌<◌}
use native.Mathlib.Nat.{zero-add}
use native.Mathlib.Omega.{arith}
use lib.Dec.{eqb, ltb}
use lib.ListN.{length, get_or, set, take, replicate, length-append}
use borrow.Author.Tests.{eqb-true, eqb-false, eq-eqb, ne_eqb, lt-ltb}
use Rattle.lists.specs.Lists.{range, bit, any, has, nodup, joined, first_place, pad}
use Rattle.lists.proofs.Tests.{Decided, decided, clash, or_false_left, or_false_right, same_test}
use Rattle.lists.proofs.Members.{nodup_head, nodup_tail, in_range, range_in, range_nodup}
use Rattle.lists.proofs.All.{has_all}
use Rattle.lists.proofs.Kept.{range_push}
use Rattle.lists.proofs.Joined.{read_all, map_ext}
use Rattle.lists.proofs.Arrays.{pad_take, pad_push, length_pad}
use Rattle.lists.proofs.Occurrences.{any_in, in_any, any_agree}
use Rattle.lists.proofs.Rearranged.{length_range, rearranged_length}
use Rattle.blocks.specs.Blocks.{Block}
use Rattle.groups.specs.Groups.{firsts, groups, sizes}
use Rattle.groups.specs.Grouping.{Combinable, grouped}
use Rattle.groups.specs.declared.Grouped.{Grouped}
use Rattle.groups.proofs.GroupLaws.{sizes_long, groups_rearranged, combinable_proper}
use Rattle.search.specs.Solutions.{sum, solutions, by_group}
use Rattle.search.specs.TableRows.{read_at}
use Rattle.search.specs.Searching.{Ordered, State, unset, tree_at}
use Rattle.search.proofs.Vectors.{within_length}
use Rattle.search.proofs.Orders.{EachOnce, by_group_length, by_group_read, read_by_group}
use Rattle.search.proofs.ReadingGroups.{groups_read, groups_few, sizes_read, grouped_ordered, grouped_state}
use Rattle.search.proofs.ListedSolutions.{solutions_in, negative_none}
use Rattle.search.proofs.TreeSolutions.{searched, row_long, searched_solution, solution_searched}
use Rattle.counting.specs.Counting.{counts_to, some_counts, gives, holds_mine, leaves_free, Walked, CountedBy}
use Rattle.counting.specs.States.{Course, Underway, Right}
use Rattle.counting.proofs.Marks.{marked_nowhere, marked_from_none}
use Rattle.counting.proofs.UnderwayStates.{course_from, underway_start}
use Rattle.counting.proofs.Tables.{right_start}

-- ---- what a row gives a group

-- a group that is not among them gets nothing
gives_none : (test : ℕ → ℕ → Bool) (gs : List ℕ) (x : ℕ) (row : List ℕ) → has gs x ≡ false → gives test gs x row ≡ false
gives_none test [] x row h = refl
gives_none test (g ∷ gs) x [] h = refl
gives_none test (g ∷ gs) x (v ∷ row) h =
    let away : eqb g x ≡ false = ne_eqb g x (λ e. eqb-false x g (or_false_left (eqb x g) (has gs x) h) (sym e)) in
    rw away (gives_none test gs x row (or_false_right (eqb x g) (has gs x) h))

-- one that is gets the value at its place
pub gives_there : (test : ℕ → ℕ → Bool) (gs : List ℕ) (x : ℕ) (row : List ℕ) → nodup gs ≡ true → length row ≡ length gs → has gs x ≡ true
    → gives test gs x row ≡ test x (get_or row (first_place (eqb x) gs) 0)
gives_there test [] x row once long h = clash false h refl
gives_there test (g ∷ gs) x [] once long h = absurd (omega arith)
gives_there test (g ∷ gs) x (v ∷ row) once long h = go (decided (eqb x g)) (gives_there test gs x row (nodup_tail g gs once) (omega arith))
  where
    plain : (t : Bool) → (t || false) ≡ t
    plain true = refl
    plain false = refl

    go : Decided (eqb x g) → (has gs x ≡ true → gives test gs x row ≡ test x (get_or row (first_place (eqb x) gs) 0))
        → gives test (g ∷ gs) x (v ∷ row) ≡ test x (get_or (v ∷ row) (first_place (eqb x) (g ∷ gs)) 0)
    go (inl e) ih =
        let same : x ≡ g = eqb-true x g e in
        rw (same, eq-eqb g g refl, gives_none test gs g row (nodup_head g gs once)) (plain (test g v))
    go (inr e) ih =
        let away : eqb g x ≡ false = ne_eqb g x (λ w. eqb-false x g e (sym w)) in
        rw (away, e) (ih (rw e at h))

-- ---- the groups in their own order

pub own_order_once : (n : ℕ) → EachOnce (range 0 n) n
own_order_once n = record {
  long = length_range 0 n;
  below = has_all (λ g. ltb g n) (range 0 n) (λ g h. lt-ltb g n (omega (arith, range_in 0 n g h)));
  once = range_nodup 0 n;
}

-- the array begins with them
own_order_front : (n : ℕ) → take n (pad 1024 0 (range 0 n)) ≡ range 0 n
own_order_front n = ap (λ (k : ℕ). take k (pad 1024 0 (range 0 n))) (sym (length_range 0 n)) ∙ pad_take 1024 0 (range 0 n)

-- and gets them one after another
pub own_order_next : (g : ℕ) → g < 1024 → set (pad 1024 0 (range 0 g)) g g ≡ pad 1024 0 (range 0 (g + 1))
own_order_next g h =
    ap (λ (i : ℕ). set (pad 1024 0 (range 0 g)) i g) (sym (length_range 0 g))
    ∙ pad_push 1024 0 (range 0 g) g (omega (arith, length_range 0 g))
    ∙ ap (pad 1024 0) (sym (range_push g))

-- a row is read in that order as it is
own_order_read : (n : ℕ) (row : List ℕ) → length row ≡ n → read_at (range 0 n) row ≡ row
own_order_read n row long = ap (λ (k : ℕ). read_at (range 0 k) row) (sym long) ∙ read_all row 0

-- and its values are by group already
own_order_by_group : (n : ℕ) (row : List ℕ) → length row ≡ n → by_group (range 0 n) row ≡ row
own_order_by_group n row long =
    sym (own_order_read n (by_group (range 0 n) row) (by_group_length (range 0 n) n (own_order_once n) row)) ∙ read_by_group (range 0 n) n (own_order_once n) row long

-- so each group gets the value at its own place
own_order_gives : (test : ℕ → ℕ → Bool) (n g : ℕ) (row : List ℕ) → length row ≡ n → g < n → gives test (range 0 n) g row ≡ test g (get_or row g 0)
own_order_gives test n g row long h =
    gives_there test (range 0 n) g row (range_nodup 0 n) (long ∙ sym (length_range 0 n)) (in_range 0 n g (omega arith) (omega arith))
    ∙ ap (test g) (sym (by_group_read (range 0 n) n (own_order_once n) row g h) ∙ ap (λ (r : List ℕ). get_or r g 0) (own_order_by_group n row long))

-- ---- the sizes of a block's groups

sum_lengths : (ls : List (List ℕ)) → sum (map (λ (l : List ℕ). length l) ls) ≡ length (joined ls)
sum_lengths [] = refl
sum_lengths (l ∷ ls) = omega (arith, sum_lengths ls, length-append l (joined ls))

module _ (b : Block) where
  -- they add up to its cells
  pub sizes_sum : sum (sizes b) ≡ length b.cells
  unfolding sizes
  sizes_sum = sum_lengths (groups b) ∙ rearranged_length (joined (groups b)) b.cells (groups_rearranged b)

  -- also as the array has them
  own_order_sizes : map (λ (g : ℕ). get_or (grouped b).sizes g 0) (range 0 (length (firsts b))) ≡ sizes b
  own_order_sizes =
      map_ext (λ (g : ℕ). get_or (grouped b).sizes g 0) (λ (g : ℕ). get_or (sizes b) g 0) (range 0 (length (firsts b))) (λ g _. sizes_read b g)
      ∙ ap (λ (n : ℕ). map (λ (g : ℕ). get_or (sizes b) g 0) (range 0 n)) (sym (sizes_long b))
      ∙ read_all (sizes b) 0

-- ---- the walk over a block's groups in their own order

module _ (b : Block) (k : Combinable b) where
  abbrev own_order : List ℕ
  own_order = pad 1024 0 (range 0 (grouped b).groups)

  front : take (grouped b).groups own_order ≡ range 0 (grouped b).groups
  front = own_order_front (grouped b).groups

  each : EachOnce (take (grouped b).groups own_order) (grouped b).groups
  each = rw front (own_order_once (grouped b).groups)

  walk_few : (grouped b).groups ≤ 1024
  walk_few = omega (arith, groups_read b, groups_few b k)

  walk_ordered : Ordered own_order (grouped b).groups (grouped b).equations (grouped b).sizes (grouped b).columns
  walk_ordered = grouped_ordered b k own_order (length_pad 1024 0 (range 0 (grouped b).groups) (omega (arith, walk_few, length_range 0 (grouped b).groups))) each

  -- no count passes the board's cells
  walk_fits : sum (map (λ (g : ℕ). get_or (grouped b).sizes g 0) (take (grouped b).groups own_order)) ≤ 1024
  walk_fits = rw (front, groups_read b, own_order_sizes b, sizes_sum b) k.few_cells

  -- ---- the rows

  solution_long : (row : List ℕ) → Memᴰ row (solutions b) → length row ≡ (grouped b).groups
  solution_long row m = within_length (sizes b) row (solutions_in b (combinable_proper b k) row m).0 ∙ sizes_long b ∙ sym (groups_read b)

  module _ (positive : (grouped b).negative ≡ false) where
    -- the rows of the tree are the solutions
    any_solution : (test : List ℕ → Bool) → any test (searched b own_order) ≡ any test (solutions b)
    any_solution test = same_test (any test (searched b own_order)) (any test (solutions b)) there back
      where
        there : any test (searched b own_order) ≡ true → any test (solutions b) ≡ true
        there h =
            let (row, m, t) = any_in test (searched b own_order) h in
            let by_group_lem : by_group (take (grouped b).groups own_order) row ≡ row = rw front (own_order_by_group (grouped b).groups row (row_long b k positive own_order each row m)) in
            in_any test (solutions b) (rw by_group_lem at (searched_solution b k positive own_order each row m)) t

        back : any test (solutions b) ≡ true → any test (searched b own_order) ≡ true
        back h =
            let (row, m, t) = any_in test (solutions b) h in
            let read : read_at (take (grouped b).groups own_order) row ≡ row = rw front (own_order_read (grouped b).groups row (solution_long row m)) in
            in_any test (searched b own_order) (rw read at (solution_searched b k positive own_order each row m)) t

    -- of those that count, some give a group a value that passes a test
    gives_solution : (allowed : List ℕ) (test : ℕ → ℕ → Bool) (g : ℕ) → g < length (firsts b)
        → some_counts allowed 0 (gives test (unset own_order (grouped b).groups 0) g) (searched b own_order)
        ≡ any (λ (row : List ℕ). counts_to allowed 0 row && test g (get_or row g 0)) (solutions b)
    gives_solution allowed test g h =
        any_solution (λ (row : List ℕ). counts_to allowed 0 row && gives test (take (grouped b).groups own_order) g row)
        ∙ any_agree (λ (row : List ℕ). counts_to allowed 0 row && gives test (take (grouped b).groups own_order) g row)
        (λ (row : List ℕ). counts_to allowed 0 row && test g (get_or row g 0)) (solutions b)
        (λ row m. ap (λ (t : Bool). counts_to allowed 0 row && t) (rw front (own_order_gives test (grouped b).groups g row (solution_long row m) (omega (arith, groups_read b)))))

    -- what the walk tells
    told : {allowed reached mined unfilled : List ℕ} {found : Bool}
        → Walked allowed (grouped b).sizes 0 (unset own_order (grouped b).groups 0) (searched b own_order) found (replicate 1025 0) (replicate 1024 0) (replicate 1024 0) reached mined unfilled
        → CountedBy b allowed (record { reached = reached; mined = mined; unfilled = unfilled })
    told {allowed} w = record {
      reaches = λ t. marked_from_none 1025 w.reaches t ∙ ap bit (any_solution (λ (row : List ℕ). counts_to allowed 0 row && eqb (0 + sum row) t)) ∙ simp zero-add;
      mines = λ g h. marked_from_none 1024 w.mines g ∙ ap bit (gives_solution allowed holds_mine g h) ∙ simp zero-add;
      frees = λ g h. marked_from_none 1024 w.frees g ∙ ap bit (gives_solution allowed (leaves_free (grouped b).sizes) g h) ∙ simp (zero-add, sizes_read b g);
    }

-- ---- as the code has it: the answer of combine, and an array with the order

module _ (b : Block) (k : Combinable b) (r : Grouped) (is : r ≡ grouped b) where
  pub start_few : r.groups ≤ 1024
  start_few = rw is (walk_few b k)

  start_state : State r.equations r.needs r.rooms
  start_state = rw is (grouped_state b k)

  -- of a block with a negative remainder nothing is to be told
  pub counted_negative : (allowed : List ℕ) → r.negative ≡ true → CountedBy b allowed (record { reached = replicate 1025 0; mined = replicate 1024 0; unfilled = replicate 1024 0 })
  counted_negative allowed negative = record { reaches = λ t. nothing 1025 _ t; mines = λ g h. nothing 1024 _ g; frees = λ g h. nothing 1024 _ g }
    where
      nothing : (n : ℕ) (test : List ℕ → Bool) (x : ℕ) → get_or (replicate n 0) x 0 ≡ bit (any test (solutions b))
      nothing n test x = marked_from_none n (marked_nowhere (λ _. any test (solutions b)) (replicate n 0) (λ _. rw (negative_none b (rw is at negative)))) x

  module _ (order : List ℕ) (own : order ≡ pad 1024 0 (range 0 r.groups)) where
    pub start_ordered : Ordered order r.groups r.equations r.sizes r.columns
    start_ordered = rw (own, is) (walk_ordered b k)

    pub start_fits : 0 + sum (map (λ (g : ℕ). get_or r.sizes g 0) (unset order r.groups 0)) ≤ 1024
    start_fits = rw (own, is, zero-add) (walk_fits b k)

    -- where the walk begins, with a table that has no entry of its own
    pub start_walk : (allowed : List ℕ) (first : ℕ) (tags keys results : List ℕ)
        → (length tags ≡ 8192) × (length keys ≡ 8192) × (length results ≡ 8192) × ((i : ℕ) → get_or tags i 0 < first) × (first ≤ 4000000000)
        → (c : Course order r.groups r.sizes r.columns r.rooms) × Underway c r.equations 0 r.needs r.rooms
        × Right c r.equations allowed first tags keys results (replicate 1025 0) (replicate 1024 0) (replicate 1024 0)
    start_walk allowed first tags keys results table =
        let c = course_from order r.groups r.sizes r.columns 0 r.needs r.rooms in
        (c, underway_start order r.groups r.sizes r.columns 0 r.needs r.rooms r.equations start_state, right_start c (table.0, table.1, table.2) table.3)

    -- what the walk tells
    pub counted_walked : {allowed reached mined unfilled : List ℕ} {found : Bool} → r.negative ≡ false
        → Walked allowed r.sizes 0 (unset order r.groups 0) (tree_at order r.groups r.sizes r.columns 0 r.needs r.rooms) found
        (replicate 1025 0) (replicate 1024 0) (replicate 1024 0) reached mined unfilled
        → CountedBy b allowed (record { reached = reached; mined = mined; unfilled = unfilled })
    counted_walked positive w = told b k (rw is at positive) (rw (own, is) at w)
