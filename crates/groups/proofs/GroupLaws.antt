-- What groups are (SPECIFICATION 11.1): they part a block's cells; two cells are of one group exactly if their columns are equal; a group is
-- named by its first cell, and the groups stand in the order of these; none is empty, and none has more cells than an equation that has its first cell.
-- The idea: having equal columns is an equivalence, and `firsts` has the first cell of each class. Rests on FirstsOfClasses. Assumes nothing.
use mathlib.Core.Path.{◌≡◌, sym, ap, ◌∙◌}
use mathlib.Core.Logic.{◌↔◌}
use mathlib.Core.Bool.{true, false, ◌&&◌, and-true}
use mathlib.Core.List.{List, [], ◌∷◌, Memᴰ}
use Prim.Native.Nat.{ℕ, ◌≤◌, ◌<◌}
use native.Mathlib.Omega.{arith}
use native.Mathlib.Decide.{dec_lt}
use lib.Dec.{eqb, leb}
use lib.ListN.{length, get_or, length-map, get_or-map, get_or-eq_default}
use borrow.Author.Tests.{eqb-true, eq-eqb, leb-true}
use Rattle.lists.specs.Lists.{range, keep, count, all, empty, has, nodup, joined, same, first_place}
use Rattle.lists.proofs.Tests.{clash, same_test, and_left, and_right}
use Rattle.lists.proofs.Members.{has_keep, kept_passes, kept_has, has_kept, get_d_has, has_place, nodup_keep, range_in, in_range, range_nodup}
use Rattle.lists.proofs.All.{all_has}
use Rattle.lists.proofs.Counts.{count_ext, length_keep, any_at}
use Rattle.lists.proofs.Kept.{keep_ext}
use Rattle.lists.proofs.FirstPlaces.{first_within, first_passes}
use Rattle.lists.proofs.Rearranged.{Rearranged, rearranged_has, rearranged_nodup}
use Rattle.lists.proofs.Unions.{mem_at, mem_has}
use Rattle.lists.proofs.Occurrences.{all_in, not_empty}
use Rattle.lists.proofs.Among.{among_length, nodup_among}
use Rattle.lists.proofs.PlacesAndRanges.{mem_place, map_read, nodup_place}
use Rattle.lists.proofs.PartedLists.{same_equal, same_self, count_one, parted_rearranged}
use Rattle.blocks.specs.Blocks.{BlockEquation, Block}
use Rattle.blocks.proofs.ProperBlocks.{Proper}
use Rattle.groups.specs.Groups.{no_cells, column, alike, firsts, groups, group_of_cell, sizes}
use Rattle.groups.specs.Grouping.{Combinable}
use Rattle.groups.proofs.FirstsOfClasses.{Equivalence, same_equivalence, FirstOf, first_met_lem, firsts_of}

-- ---- cells with equal columns

-- the test says what it should
pub alike_equal : (b : Block) (c d : ℕ) → (alike b c d ≡ true) ↔ (column b c ≡ column b d)
alike_equal b c d = (same_equal (column b c) (column b d), λ e. rw e (same_self (column b d)))

-- and is an equivalence
pub alike_equivalence : (b : Block) → Equivalence (alike b)
alike_equivalence b = same_equivalence (column b)

-- ---- columns

module _ (b : Block) (c : ℕ) where
  -- the places of the equations that have the cell, and no others
  pub column_has : (i : ℕ) → i < length b.equations → has (column b c) i ≡ has (get_or b.equations i no_cells).cells c
  column_has i l =
      has_keep (λ (j : ℕ). has (get_or b.equations j no_cells).cells c) (range 0 (length b.equations)) i
      ∙ rw (in_range 0 (length b.equations) i (omega arith) (omega arith)) (and-true (has (get_or b.equations i no_cells).cells c))

  pub column_below : (i : ℕ) → has (column b c) i ≡ true → i < length b.equations
  column_below i h =
      omega (
        arith,
        range_in 0 (length b.equations) i
            (kept_has (λ (j : ℕ). has (get_or b.equations j no_cells).cells c) (range 0 (length b.equations)) i h),
      )

  -- none twice
  pub column_once : nodup (column b c) ≡ true
  column_once =
      nodup_keep (λ (j : ℕ). has (get_or b.equations j no_cells).cells c) (range 0 (length b.equations)) (range_nodup 0 (length b.equations))

  -- an equation that has the cell has its place there
  pub equation_in_column : (e : BlockEquation) → Memᴰ e b.equations → has e.cells c ≡ true → 1 ≤ length (column b c)
  equation_in_column e m h =
      let (i, l, w) = mem_place b.equations no_cells m in
      let (j, below, _) = has_place (column b c) i (column_has i l ∙ rw w h) in
      omega arith

  -- the equation at the first place has the cell
  pub column_equation : 1 ≤ length (column b c)
      → (get_or (column b c) 0 0 < length b.equations) × (has (get_or b.equations (get_or (column b c) 0 0) no_cells).cells c ≡ true)
  column_equation some =
      let here : has (column b c) (get_or (column b c) 0 0) ≡ true = get_d_has (column b c) 0 0 (omega arith) in
      let below = column_below (get_or (column b c) 0 0) here in
      (below, sym (column_has (get_or (column b c) 0 0) below) ∙ here)

-- cells have equal columns exactly if the same equations have them
pub equal_columns : (b : Block) (c d : ℕ)
    → (column b c ≡ column b d) ↔ ((e : BlockEquation) → Memᴰ e b.equations → has e.cells c ≡ has e.cells d)
equal_columns b c d = (there, back)
  where
    there : column b c ≡ column b d → (e : BlockEquation) → Memᴰ e b.equations → has e.cells c ≡ has e.cells d
    there same e m = let (i, l, w) = mem_place b.equations no_cells m in
        rw (← w) (sym (column_has b c i l) ∙ ap (λ (k : List ℕ). has k i) same ∙ column_has b d i l)

    back : ((e : BlockEquation) → Memᴰ e b.equations → has e.cells c ≡ has e.cells d) → column b c ≡ column b d
    back same =
        keep_ext (λ (i : ℕ). has (get_or b.equations i no_cells).cells c) (λ (i : ℕ). has (get_or b.equations i no_cells).cells d)
        (range 0 (length b.equations))
        (λ i h. same (get_or b.equations i no_cells) (mem_at b.equations i no_cells (omega (arith, range_in 0 (length b.equations) i h))))

-- ---- the groups of a block

module _ (b : Block) where
  -- one for each first cell
  pub groups_many : length (groups b) ≡ length (firsts b)
  unfolding groups
  groups_many = length-map (firsts b) (λ (c : ℕ). keep (alike b c) b.cells)

  pub sizes_long : length (sizes b) ≡ length (firsts b)
  unfolding sizes
  sizes_long = length-map (groups b) (λ (l : List ℕ). length l) ∙ groups_many

  -- a group's cells are those with the column of the first
  pub group_at : (g : ℕ) → g < length (firsts b) → get_or (groups b) g [] ≡ keep (alike b (get_or (firsts b) g 0)) b.cells
  unfolding groups
  group_at g l = map_read (λ (c : ℕ). keep (alike b c) b.cells) (firsts b) g 0 [] l

  -- its size is their number
  pub size_at_lem : (g : ℕ) → get_or (sizes b) g 0 ≡ length (get_or (groups b) g [])
  unfolding sizes
  size_at_lem g = get_or-map (λ (l : List ℕ). length l) (groups b) g []

  -- that of the cells like its first
  pub size_is : (g : ℕ) → g < length (firsts b) → get_or (sizes b) g 0 ≡ count (alike b (get_or (firsts b) g 0)) b.cells
  size_is g l = size_at_lem g ∙ ap (λ (k : List ℕ). length k) (group_at g l) ∙ length_keep (alike b (get_or (firsts b) g 0)) b.cells

  -- what has a cell is a group
  pub group_below : (g c : ℕ) → has (get_or (groups b) g []) c ≡ true → g < length (firsts b)
  group_below g c h = go (dec_lt g (length (firsts b)))
    where
      go : Dec (g < length (firsts b)) → g < length (firsts b)
      go (yes l) = l
      go (no l) = clash (has (get_or (groups b) g []) c) h (rw (get_or-eq_default (groups b) [] {n = g} (omega (arith, groups_many))))

  -- cells with equal columns are of one group
  pub equal_columns_group : (c d : ℕ) → column b c ≡ column b d → group_of_cell b c ≡ group_of_cell b d
  unfolding group_of_cell
  equal_columns_group c d e = ap (λ (k : List ℕ). first_place (λ x. same k (column b x)) (firsts b)) e

  -- ---- first cells

  -- as `add_firsts` leaves them
  block_firsts : FirstOf (alike b) b.cells (firsts b)
  unfolding firsts
  block_firsts = firsts_of (alike b) (alike_equivalence b) b.cells

  -- none stands twice
  pub firsts_once : nodup (firsts b) ≡ true
  firsts_once = block_firsts.once

  -- they are cells of the block
  pub first_of_block : (c : ℕ) → has (firsts b) c ≡ true → has b.cells c ≡ true
  first_of_block c h = first_met_lem (alike b) (alike_equivalence b) block_firsts c h

  -- and no more than its cells
  pub firsts_few : length (firsts b) ≤ length b.cells
  firsts_few = block_firsts.few

  -- they stand in the block's order
  pub firsts_in_order : nodup b.cells ≡ true → keep (has (firsts b)) b.cells ≡ firsts b
  firsts_in_order = block_firsts.in_order

  -- a cell of the block is like exactly one of them
  pub one_first : (x : ℕ) → has b.cells x ≡ true → count (λ c. alike b c x) (firsts b) ≡ 1
  one_first x h =
      let (c, k, e) = any_at (alike b x) (firsts b) (block_firsts.covered x h) in
      let like : column b x ≡ column b c = (alike_equal b x c).0 e in
      count_ext (λ d. alike b d x) (eqb c) (firsts b) (λ d j.
      same_test (alike b d x) (eqb c d)
      (λ w. eq-eqb c d (block_firsts.unlike c d k j ((alike_equal b c d).1 (sym like ∙ sym ((alike_equal b d x).0 w)))))
      (λ w. (alike_equal b d x).1 (ap (column b) (sym (eqb-true c d w)) ∙ sym like)))
      ∙ count_one (firsts b) c firsts_once k

  -- a group's first cell is its name
  pub group_begins : (g : ℕ) → g < length (firsts b) → (r : List ℕ) × (get_or (groups b) g [] ≡ get_or (firsts b) g 0 ∷ r)
  group_begins g l = let (r, e) = block_firsts.first (get_or (firsts b) g 0) (get_d_has (firsts b) g 0 l) in (r, group_at g l ∙ e)

  pub group_name : (g : ℕ) → g < length (firsts b) → get_or (get_or (groups b) g []) 0 0 ≡ get_or (firsts b) g 0
  group_name g l = let (r, e) = group_begins g l in rw e

  -- no group is empty
  pub size_positive : (g : ℕ) → g < length (firsts b) → 1 ≤ get_or (sizes b) g 0
  size_positive g l = let (r, e) = group_begins g l in rw (size_at_lem g, e) (omega arith)

  -- ---- the group of a cell

  module _ (c : ℕ) (here : has b.cells c ≡ true) where
    -- it is one of the groups
    pub group_of_below : group_of_cell b c < length (firsts b)
    unfolding group_of_cell
    group_of_below = first_within (alike b c) (firsts b) (block_firsts.covered c here)

    -- its column is that of the group's first cell
    pub group_of_column : column b (get_or (firsts b) (group_of_cell b c) 0) ≡ column b c
    unfolding group_of_cell
    group_of_column =
        sym ((alike_equal b c (get_or (firsts b) (group_of_cell b c) 0)).0 (first_passes (alike b c) (firsts b) 0 (block_firsts.covered c here)))

    -- the cell is in it
    pub in_own_group : has (get_or (groups b) (group_of_cell b c) []) c ≡ true
    in_own_group =
        rw (group_at (group_of_cell b c) group_of_below)
        (has_kept (alike b (get_or (firsts b) (group_of_cell b c) 0)) b.cells c ((alike_equal b (get_or (firsts b) (group_of_cell b c) 0) c).1 group_of_column) here)

  -- so a block with a cell has a group
  pub firsts_some : empty b.cells ≡ false → 0 < length (firsts b)
  firsts_some h = let (c, m) = not_empty b.cells h in omega (arith, group_of_below c (mem_has b.cells m))

  -- a cell of a group has the column of its first cell
  pub group_column : (g c : ℕ) → has (get_or (groups b) g []) c ≡ true → column b (get_or (firsts b) g 0) ≡ column b c
  group_column g c h =
      (alike_equal b (get_or (firsts b) g 0) c
      ).0 (kept_passes (alike b (get_or (firsts b) g 0)) b.cells c (rw (group_at g (group_below g c h)) at h))

  -- and is of the block
  pub group_of_block : (g c : ℕ) → has (get_or (groups b) g []) c ≡ true → has b.cells c ≡ true
  group_of_block g c h = kept_has (alike b (get_or (firsts b) g 0)) b.cells c (rw (group_at g (group_below g c h)) at h)

  -- the first cell of a group is of that group
  first_group : (g : ℕ) → g < length (firsts b) → group_of_cell b (get_or (firsts b) g 0) ≡ g
  first_group g l =
      let c = get_or (firsts b) g 0 in
      let here : has (firsts b) c ≡ true = get_d_has (firsts b) g 0 l in
      let below = group_of_below c (first_of_block c here) in
      nodup_place (firsts b) firsts_once (group_of_cell b c) g 0 below l
      (block_firsts.unlike (get_or (firsts b) (group_of_cell b c) 0) c (get_d_has (firsts b) (group_of_cell b c) 0 below) here
      ((alike_equal b (get_or (firsts b) (group_of_cell b c) 0) c).1 (group_of_column c (first_of_block c here))))

  -- a cell of a group is of no other
  pub group_only : (g c : ℕ) → has (get_or (groups b) g []) c ≡ true → group_of_cell b c ≡ g
  group_only g c h = sym (equal_columns_group (get_or (firsts b) g 0) c (group_column g c h)) ∙ first_group g (group_below g c h)

  -- so a group has exactly the block's cells that are of it
  pub in_group : (g c : ℕ) → (has (get_or (groups b) g []) c ≡ true) ↔ ((has b.cells c ≡ true) × (group_of_cell b c ≡ g))
  in_group g c = (λ h. (group_of_block g c h, group_only g c h), λ (h, e). rw e at (in_own_group c h))

  -- two cells are of one group exactly if their columns are equal
  pub same_group : (c d : ℕ) → has b.cells c ≡ true → has b.cells d ≡ true → (group_of_cell b c ≡ group_of_cell b d) ↔ (column b c ≡ column b d)
  same_group c d h k = (
    λ e. sym (group_of_column c h) ∙ ap (λ (g : ℕ). column b (get_or (firsts b) g 0)) e ∙ group_of_column d k,
    equal_columns_group c d,
  )

  -- ---- all groups

  -- together they are the block's cells, in another order
  pub groups_rearranged : Rearranged (joined (groups b)) b.cells
  unfolding groups
  groups_rearranged = parted_rearranged (alike b) b.cells (firsts b) one_first

  -- they have the same cells
  pub groups_have : (c : ℕ) → has (joined (groups b)) c ≡ has b.cells c
  groups_have = rearranged_has (joined (groups b)) b.cells groups_rearranged

  -- an equation that has a group's first cell has all its cells
  pub group_in_equation : (g c : ℕ) → has (get_or (groups b) g []) c ≡ true
      → (e : BlockEquation) → Memᴰ e b.equations → has e.cells c ≡ has e.cells (get_or (firsts b) g 0)
  group_in_equation g c h e m = (equal_columns b c (get_or (firsts b) g 0)).0 (sym (group_column g c h)) e m

  -- ---- where the block has no cell twice

  module _ (once : nodup b.cells ≡ true) where
    -- no cell stands twice in a group
    pub group_once : (g : ℕ) → nodup (get_or (groups b) g []) ≡ true
    group_once g = go (dec_lt g (length (firsts b)))
      where
        go : Dec (g < length (firsts b)) → nodup (get_or (groups b) g []) ≡ true
        go (yes l) = rw (group_at g l) (nodup_keep (alike b (get_or (firsts b) g 0)) b.cells once)
        go (no l) = rw (get_or-eq_default (groups b) [] {n = g} (omega (arith, groups_many)))

    -- nor in all of them
    pub groups_once : nodup (joined (groups b)) ≡ true
    groups_once = rearranged_nodup b.cells (joined (groups b)) (λ f. sym (groups_rearranged f)) once

    -- an equation that has a group's first cell has at least as many cells
    pub group_fits_equation : (g : ℕ) (e : BlockEquation) → Memᴰ e b.equations → nodup e.cells ≡ true
        → has e.cells (get_or (firsts b) g 0) ≡ true → length (get_or (groups b) g []) ≤ length e.cells
    group_fits_equation g e m n h =
        among_length (get_or (groups b) g []) e.cells
        (nodup_among (get_or (groups b) g []) e.cells (group_once g) n (λ c k. group_in_equation g c k e m ∙ h))

-- in a block as it should be each group has a first equation
pub first_equation : (b : Block) → Proper b → (g : ℕ) → g < length (firsts b) → get_or (column b (get_or (firsts b) g 0)) 0 0 < length b.equations
first_equation b proper g l =
    let c = get_or (firsts b) g 0 in
    let (e, m, h) = proper.covered c (first_of_block b c (get_d_has (firsts b) g 0 l)) in
    (column_equation b c (equation_in_column b c e m h)).0

-- ---- blocks as a frontier has them

-- a cell stands in one to eight equations
pub combinable_column : (b : Block) → Combinable b → (c : ℕ) → has b.cells c ≡ true → (1 ≤ length (column b c)) × (length (column b c) ≤ 8)
combinable_column b k c h =
    let some = leb 1 (length (column b c)) in
    let few = leb (length (column b c)) 8 in
    let both : (some && few) ≡ true = all_has (λ x. leb 1 (length (column b x)) && leb (length (column b x)) 8) b.cells k.columns_small c h in
    (leb-true 1 (length (column b c)) (and_left some few both), leb-true (length (column b c)) 8 (and_right some few both))

-- an equation has at most eight cells and a remainder of at most 8
pub combinable_equation : (b : Block) → Combinable b → (e : BlockEquation) → Memᴰ e b.equations → (length e.cells ≤ 8) × (e.rest ≤ 16)
combinable_equation b k e m =
    let few = leb (length e.cells) 8 in
    let small = leb e.rest 16 in
    let both : (few && small) ≡ true =
    all_in (λ (x : BlockEquation). leb (length x.cells) 8 && leb x.rest 16) b.equations k.equations_small m in
    (leb-true (length e.cells) 8 (and_left few small both), leb-true e.rest 16 (and_right few small both))

-- they are as they should be
pub combinable_proper : (b : Block) → Combinable b → Proper b
combinable_proper b k = record {
  once = k.once;
  equations_once = λ e m. all_in (λ (x : BlockEquation). nodup x.cells) b.equations k.equations_once m;
  within = λ e m. all_has (has b.cells) e.cells (all_in (λ (x : BlockEquation). all (has b.cells) x.cells) b.equations k.inside m);
  covered = λ c h.
      let (below, has_it) = column_equation b c (combinable_column b k c h).0 in
      (get_or b.equations (get_or (column b c) 0 0) no_cells, mem_at b.equations (get_or (column b c) 0 0) no_cells below, has_it);
}

-- a group's cells are all in one equation, so it has at most eight
pub size_small : (b : Block) → Combinable b → (g : ℕ) → g < length (firsts b) → get_or (sizes b) g 0 ≤ 8
size_small b k g l =
    let proper = combinable_proper b k in
    let first = get_or (firsts b) g 0 in
    let (e, m, h) = proper.covered first (first_of_block b first (get_d_has (firsts b) g 0 l)) in
    rw (size_at_lem b g) (omega (arith, group_fits_equation b k.once g e m (proper.equations_once e m) h, (combinable_equation b k e m).0))
