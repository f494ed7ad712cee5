-- What enumeration lists of a block, from what `grouped` and `shown` hold of it. The block's cells whose group is g, in the block's order, are the cells of group g; so
-- the cells of the groups that no solution shows with a mine are `safe_cells`, and those of the groups that every solution fills are `mine_cells`. Where the first
-- group is shown with no mine and no free cell there is no solution, and only there: the group has a cell. Rests on GroupLaws of the crate groups. Assumes nothing.
use mathlib.Core.Path.{◌≡◌, refl, sym, ap, ◌∙◌}
use mathlib.Core.Logic.{inl, inr}
use mathlib.Core.Bool.{Bool, true, false, not, cond}
use mathlib.Core.List.{List, [], map}
use Prim.Native.Nat.{ℕ, ◌+◌, ◌-◌, ◌≤◌, ◌<◌}
use native.Mathlib.Nat.{zero-add}
use native.Mathlib.Omega.{arith}
use lib.Dec.{eqb, ltb}
use lib.ListN.{length, get_or}
use borrow.Author.Tests.{eqb-true, eq-eqb, ltb-true}
use Rattle.lists.specs.Lists.{range, keep, bit, all, empty, has, joined}
use Rattle.lists.proofs.Tests.{Decided, decided, same_test}
use Rattle.lists.proofs.Members.{range_in, has_kept, kept_has, kept_passes}
use Rattle.lists.proofs.All.{all_has}
use Rattle.lists.proofs.Arrays.{pad_read}
use Rattle.lists.proofs.Joined.{map_ext}
use Rattle.lists.proofs.Kept.{keep_ext}
use Rattle.lists.proofs.Occurrences.{all_in, empty_nil, not_empty}
use Rattle.lists.proofs.ReadBack.{range_made}
use Rattle.blocks.specs.Blocks.{Block}
use Rattle.blocks.specs.Places.{cells_from, block_from}
use Rattle.blocks.specs.declared.Bounds.{Bounds}
use Rattle.groups.specs.declared.Grouped.{Grouped}
use Rattle.groups.specs.Groups.{alike, firsts, groups, group_of_cell, sizes}
use Rattle.groups.specs.Grouping.{Combinable, grouped}
use Rattle.groups.proofs.GroupLaws.{firsts_some, group_at, group_only, in_group, size_positive}
use Rattle.groups.proofs.BlockColumns.{block_cells}
use Rattle.search.specs.Solutions.{solutions}
use Rattle.search.proofs.ReadingGroups.{groups_read}
use Rattle.enumeration.specs.declared.asking.Shown.{Shown}
use Rattle.enumeration.specs.Enumeration.{cells_where, never_mined, always_mined, safe_cells, mine_cells}
use Rattle.enumeration.specs.Asking.{shown}
use Rattle.enumeration.specs.Listing.{unmarked_groups}

-- a mark stands where a test fails
unmarked_passes : (t : Bool) → not (eqb (bit (not t)) 1) ≡ t
unmarked_passes true = refl
unmarked_passes false = refl

module _ (b : Block) (k : Combinable b) where
  -- ---- the cells of a group

  -- a cell's group, in the array
  pub group_read : (c : ℕ) → has b.cells c ≡ true → get_or (grouped b).group_of c 0 ≡ group_of_cell b c
  unfolding grouped
  group_read c h =
      let below : c < 1024 = ltb-true c 1024 (all_has (λ d. ltb d 1024) b.cells k.below c h) in
      range_made (λ (d : ℕ). cond (has b.cells d) (group_of_cell b d) 0) 0 1024 c 0 below ∙ rw (zero-add, h)

  -- the cells that the array gives a group
  group_kept : (g : ℕ) → g < length (firsts b) → keep (λ (c : ℕ). eqb (get_or (grouped b).group_of c 0) g) b.cells ≡ get_or (groups b) g []
  group_kept g l =
      keep_ext (λ (c : ℕ). eqb (get_or (grouped b).group_of c 0) g) (alike b (get_or (firsts b) g 0)) b.cells
      (λ c h. rw (group_read c h) (same_test (eqb (group_of_cell b c) g) (alike b (get_or (firsts b) g 0) c) (there c h) (back c h)))
      ∙ sym (group_at b g l)
    where
      there : (c : ℕ) → has b.cells c ≡ true → eqb (group_of_cell b c) g ≡ true → alike b (get_or (firsts b) g 0) c ≡ true
      there c h e =
          kept_passes (alike b (get_or (firsts b) g 0)) b.cells c (rw (group_at b g l) at ((in_group b g c).1 (h, eqb-true (group_of_cell b c) g e)))

      back : (c : ℕ) → has b.cells c ≡ true → alike b (get_or (firsts b) g 0) c ≡ true → eqb (group_of_cell b c) g ≡ true
      back c h e = eq-eqb (group_of_cell b c) g (group_only b g c (rw (group_at b g l) (has_kept (alike b (get_or (firsts b) g 0)) b.cells c e h)))

  -- ---- the marks

  mined_read : (g : ℕ) → g < length (firsts b) → get_or (shown b).mined g 0 ≡ bit (not (never_mined b g))
  unfolding shown
  mined_read g l =
      pad_read 1024 0 (map (λ (x : ℕ). bit (not (never_mined b x))) (range 0 (length (firsts b)))) g
      ∙ range_made (λ (x : ℕ). bit (not (never_mined b x))) 0 (length (firsts b)) g 0 l ∙ rw zero-add

  unfilled_read : (g : ℕ) → g < length (firsts b) → get_or (shown b).unfilled g 0 ≡ bit (not (always_mined b g))
  unfolding shown
  unfilled_read g l =
      pad_read 1024 0 (map (λ (x : ℕ). bit (not (always_mined b x))) (range 0 (length (firsts b)))) g
      ∙ range_made (λ (x : ℕ). bit (not (always_mined b x))) 0 (length (firsts b)) g 0 l ∙ rw zero-add

  -- ---- what is listed

  -- the groups that are not marked, where a mark tells that a test fails, list the cells of the groups that pass
  unmarked_cells_lem : (marks : List ℕ) (t : ℕ → Bool) → ((g : ℕ) → g < length (firsts b) → get_or marks g 0 ≡ bit (not (t g)))
      → joined (map (λ (x : ℕ). keep (λ (c : ℕ). eqb (get_or (grouped b).group_of c 0) x) b.cells)
      (keep (λ (x : ℕ). not (eqb (get_or marks x 0) 1)) (range 0 (length (firsts b)))))
      ≡ cells_where b t
  unmarked_cells_lem marks t read =
      let unmarked : ℕ → Bool = λ x. not (eqb (get_or marks x 0) 1) in
      let places = range 0 (length (firsts b)) in
      ap joined (map_ext (λ (x : ℕ). keep (λ (c : ℕ). eqb (get_or (grouped b).group_of c 0) x) b.cells) (λ (x : ℕ). get_or (groups b) x []) (keep unmarked places)
      (λ x h. group_kept x (below x (kept_has unmarked places x h))))
      ∙ ap (λ (l : List ℕ). joined (map (λ (x : ℕ). get_or (groups b) x []) l))
      (keep_ext unmarked t places (λ x h. rw (read x (below x h)) (unmarked_passes (t x))))
    where
      below : (x : ℕ) → has (range 0 (length (firsts b))) x ≡ true → x < length (firsts b)
      below x h = omega (arith, range_in 0 (length (firsts b)) x h)

  -- ---- no solution

  -- there are groups, and the first has a cell
  some_group : 0 < length (firsts b)
  some_group = firsts_some b k.some

  -- its two marks are bits
  pub first_bits : get_or (shown b).mined 0 0 + get_or (shown b).unfilled 0 0 ≤ 2
  first_bits = omega (arith, mined_read 0 some_group, unfilled_read 0 some_group, small (never_mined b 0), small (always_mined b 0))
    where
      small : (t : Bool) → bit (not t) ≤ 1
      small true = omega arith
      small false = omega arith

  -- where both are 0, there is no solution
  pub unshown_unsolved : get_or (shown b).mined 0 0 + get_or (shown b).unfilled 0 0 ≡ 0 → empty (solutions b) ≡ true
  unshown_unsolved e = go (decided (empty (solutions b)))
    where
      go : Decided (empty (solutions b)) → empty (solutions b) ≡ true
      go (inl h) = h
      go (inr h) =
          let (row, m) = not_empty (solutions b) h in
          let none : get_or row 0 0 ≡ 0 =
          eqb-true (get_or row 0 0) 0 (all_in (λ (r : List ℕ). eqb (get_or r 0 0) 0) (solutions b) (passes (never_mined b 0) (omega (arith, mined_read 0 some_group))) m) in
          let full : get_or row 0 0 ≡ get_or (sizes b) 0 0 =
          eqb-true (get_or row 0 0) (get_or (sizes b) 0 0)
          (all_in (λ (r : List ℕ). eqb (get_or r 0 0) (get_or (sizes b) 0 0)) (solutions b) (passes (always_mined b 0) (omega (arith, unfilled_read 0 some_group))) m) in
          absurd (omega (arith, size_positive b 0 some_group))
        where
          passes : (t : Bool) → bit (not t) ≡ 0 → t ≡ true
          passes true h = refl
          passes false h = absurd (omega arith)

  -- and else there is one
  pub shown_solved : (get_or (shown b).mined 0 0 + get_or (shown b).unfilled 0 0 ≡ 0 → ⊥) → empty (solutions b) ≡ false
  shown_solved n = go (decided (empty (solutions b)))
    where
      go : Decided (empty (solutions b)) → empty (solutions b) ≡ false
      go (inr h) = h
      go (inl h) =
          let none = empty_nil (solutions b) h in
          let never : never_mined b 0 ≡ true = ap (all (λ (row : List ℕ). eqb (get_or row 0 0) 0)) none in
          let always : always_mined b 0 ≡ true = ap (all (λ (row : List ℕ). eqb (get_or row 0 0) (get_or (sizes b) 0 0))) none in
          absurd (n (rw (mined_read 0 some_group, unfilled_read 0 some_group, never, always)))

-- ---- a block in the arrays

module _ (cells slots rests : List ℕ) (bounds : Bounds) (k : Combinable (block_from cells slots rests bounds)) where
  abbrev b : Block
  b = block_from cells slots rests bounds

  -- the cells of groups that are not marked
  listed_where : (marks : List ℕ) (t : ℕ → Bool) → ((g : ℕ) → g < length (firsts b) → get_or marks g 0 ≡ bit (not (t g)))
      → unmarked_groups (grouped b).group_of marks (cells_from cells bounds.first_cell bounds.end_cell) 0 (grouped b).groups ≡ cells_where b t
  unfolding unmarked_groups
  listed_where marks t read =
      let many : (grouped b).groups - 0 ≡ length (firsts b) = omega (arith, groups_read b) in
      rw (many, ← block_cells cells slots rests bounds) (unmarked_cells_lem b k marks t read)

  -- the two lists
  module _ (r : Grouped) (is : r ≡ grouped b) (s : Shown) (told : s ≡ shown b) where
    pub safe_listed : unmarked_groups r.group_of s.mined (cells_from cells bounds.first_cell bounds.end_cell) 0 r.groups ≡ safe_cells b
    unfolding safe_cells
    safe_listed = rw (is, told) (listed_where (shown b).mined (never_mined b) (mined_read b k))

    pub mines_listed : unmarked_groups r.group_of s.unfilled (cells_from cells bounds.first_cell bounds.end_cell) 0 r.groups ≡ mine_cells b
    unfolding mine_cells
    mines_listed = rw (is, told) (listed_where (shown b).unfilled (always_mined b) (unfilled_read b k))
