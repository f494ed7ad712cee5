-- The blocks of a set, one after another, as the steps of the rule take them: each block's counts put behind those of the blocks before it, and its cells told what its
-- solutions show; then, block by block, what is left where the other blocks and the inside cells must hold the rest. Rests on ToldBlocks and AllowedRows. Assumes nothing.
use mathlib.Core.Path.{◌≡◌, refl, sym, ap, ◌∙◌}
use mathlib.Core.Logic.{inl, inr}
use mathlib.Core.Bool.{Bool, true, false, cond, ◌&&◌}
use mathlib.Core.List.{List, [], ◌∷◌, map, Memᴰ}
use Prim.Native.Nat.{ℕ, ◌+◌, ◌-◌, ◌*◌, ◌≤◌, ◌<◌}
use native.Mathlib.Omega.{arith}
use native.Mathlib.Decide.{dec_lt}
use lib.Dec.{leb, ltb, eqb}
use lib.ListN.{length, get_or, length-map}
use borrow.Author.Tests.{eqb-true, eqb-false, lt-ltb, le-ltb}
use Rattle.lists.specs.Lists.{range, bit, nodup}
use Rattle.lists.proofs.Tests.{Decided, decided, bit_is_one}
use Rattle.lists.proofs.Unions.{mem_at}
use Rattle.lists.proofs.Rearranged.{length_range}
use Rattle.blocks.specs.Blocks.{Block}
use Rattle.blocks.specs.BlockSets.{all_cells, begin_at, blocks_of, Whole}
use Rattle.blocks.specs.Places.{Arrays, bounds_at, block_from, cells_from}
use Rattle.blocks.specs.declared.Bounds.{Bounds}
use Rattle.blocks.specs.declared.BlockSet.{BlockSet}
use Rattle.blocks.proofs.Behind.{blocks_held}
use Rattle.blocks.proofs.Standing.{block_in, order_in, arrays_in}
use Rattle.blocks.proofs.ProperBlocks.{Proper}
use Rattle.groups.specs.Grouping.{Combinable}
use Rattle.groups.proofs.GroupLaws.{combinable_proper}
use Rattle.frontier.specs.Frontier.{frontier, inside_cells}
use Rattle.totals.specs.Totals.{possible_count, up_to, sums_to, mines_left, others_than, allowed_count, some_mine, some_free}
use Rattle.totals.specs.Joining.{counts_at, counts_but, EndsInOrder, SumsAre}
use Rattle.totals.proofs.BlockCounts.{possible_at_most}
use Rattle.counting.specs.declared.states.Met.{Met}
use Rattle.total_rule.specs.declared.steps.CellMarks.{CellMarks}
use Rattle.total_rule.specs.Cells.{Copied}
use Rattle.total_rule.specs.Blocks.{block_there, count_allowed, mine_allowed, free_allowed, any_count, TableBelow, ToldBlock, CountsHeld, CellsTold, mine_shown, free_shown, mine_stage, free_stage}
use Rattle.total_rule.proofs.ToldBlocks.{cells_told_none, cells_told_same, cells_told_next, counts_held_none, counts_held_next}
use Rattle.total_rule.proofs.AllowedRows.{any_count_lem, mine_same, free_same, mine_left, free_left, sums_others}

module _ {s : BlockSet} (w : Whole s) (combinable : (b : Block) → Memᴰ b (blocks_of s) → Combinable b) (once : nodup (all_cells (blocks_of s)) ≡ true) where
  abbrev bs : List Block
  bs = blocks_of s

  -- ---- a block in the arrays

  module _ (i : ℕ) (inside : i < length bs) {bounds : Bounds} (is_bounds : bounds ≡ bounds_at s.cell_ends s.equation_ends i) where
    pub turn_is : block_from s.cells s.slots s.rests bounds ≡ block_there bs i
    turn_is = rw is_bounds (block_in s w i inside)

    pub turn_arrays : Arrays s.cells s.slots s.rests bounds
    turn_arrays = rw is_bounds (arrays_in s w i inside)

    pub turn_order : bounds.first_cell ≤ bounds.end_cell
    turn_order = rw is_bounds (order_in s w i inside)

    pub turn_few : bounds.end_cell ≤ 1024
    turn_few = turn_arrays.in_cells.few

    there_combinable : Combinable (block_there bs i)
    there_combinable = combinable (block_there bs i) (mem_at bs i (record { cells = []; equations = [] }) inside)

    pub turn_combinable : Combinable (block_from s.cells s.slots s.rests bounds)
    turn_combinable = rw turn_is there_combinable

    there_proper : Proper (block_there bs i)
    there_proper = combinable_proper (block_there bs i) there_combinable

    -- its cells stand between its ends
    there_length : length (block_there bs i).cells ≡ get_or s.cell_ends i 0 - begin_at s.cell_ends i
    unfolding block_from cells_from
    there_length =
        ap (λ (b : Block). length b.cells) (sym (block_in s w i inside))
        ∙ length-map (range (begin_at s.cell_ends i) (get_or s.cell_ends i 0 - begin_at s.cell_ends i)) (λ (k : ℕ). get_or s.cells k 0)
        ∙ length_range (begin_at s.cell_ends i) (get_or s.cell_ends i 0 - begin_at s.cell_ends i)

  pub ends_in_order : EndsInOrder s.cell_ends s.blocks
  ends_in_order = record {
    few = omega (arith, blocks_held s w, w.fits.few_blocks);
    rising = λ j l. let here : j < length bs = omega (arith, l, blocks_held s w) in (order_in s w j here, (arrays_in s w j here).in_cells.few);
  }

  -- ---- the first step

  module _ (i : ℕ) (inside : i < length bs) {bounds : Bounds} (is_bounds : bounds ≡ bounds_at s.cell_ends s.equation_ends i) where
    -- its counts are put
    pub counts_put : {counts after : List ℕ} → CountsHeld bs s.cell_ends counts i → (reached : List ℕ)
        → ((t : ℕ) → get_or reached t 0 ≡ bit (count_allowed any_count (block_from s.cells s.slots s.rests bounds) t))
        → Copied reached (bounds.end_cell - bounds.first_cell + 1) (bounds.first_cell + i) counts after → CountsHeld bs s.cell_ends after (i + 1)
    counts_put {counts} {after} held reached tells copied =
        counts_held_next held ends_in_order (omega (arith, inside, blocks_held s w)) reached (rw is_bounds at copied)
        (λ t h.
        ap (λ (n : ℕ). eqb n 1) (tells t) ∙ bit_is_one (count_allowed any_count (block_from s.cells s.slots s.rests bounds) t)
        ∙ ap (λ (b : Block). count_allowed any_count b t) (turn_is i inside is_bounds) ∙ any_count_lem (block_there bs i) (there_proper i inside is_bounds) (there_combinable i inside is_bounds).few_cells t)
        (λ t h. omega (arith, possible_at_most (block_there bs i) (there_proper i inside is_bounds) t h, there_length i inside is_bounds))

    -- and its cells told
    pub first_told : (test : Block → ℕ → Bool) {before between after : List ℕ} → CellsTold bs i (λ j g. test (block_there bs j) g) before between
        → ToldBlock (block_from s.cells s.slots s.rests bounds) (test (block_from s.cells s.slots s.rests bounds)) between after
        → CellsTold bs (i + 1) (λ j g. test (block_there bs j) g) before after
    first_told test t told =
        cells_told_next bs once t i inside (test (block_there bs i)) (rw (turn_is i inside is_bounds) at told) (i + 1) (omega arith) (λ j h e. omega (arith, h, eqb-false j i e))
        (λ j g. test (block_there bs j) g) (λ g. refl) (λ j g e. refl)

  -- ---- the second step

  -- what is told while the blocks before i are taken again: of those what is left, of the others what is shown
  abbrev stage : (ℕ → Block → ℕ → Bool) → (Block → ℕ → Bool) → ℕ → ℕ → ℕ → Bool
  stage left shown i j g = cond (ltb j i) (left j (block_there bs j) g) (shown (block_there bs j) g)

  module _ (left : ℕ → Block → ℕ → Bool) (shown : Block → ℕ → Bool) (i : ℕ) where
    -- another block's is as it was
    stage_other : (j g : ℕ) → eqb j i ≡ false → stage left shown (i + 1) j g ≡ stage left shown i j g
    stage_other j g e = go (dec_lt j i)
      where
        go : Dec (j < i) → stage left shown (i + 1) j g ≡ stage left shown i j g
        go (yes h) = rw (lt-ltb j i h, lt-ltb j (i + 1) (omega arith))
        go (no h) = rw (le-ltb j i (omega arith), le-ltb j (i + 1) (omega (arith, eqb-false j i e)))

    stage_own : (g : ℕ) → stage left shown (i + 1) i g ≡ left i (block_there bs i) g
    stage_own g = rw (lt-ltb i (i + 1) (omega arith))

    stage_before : (g : ℕ) → stage left shown i i g ≡ shown (block_there bs i) g
    stage_before g = rw (le-ltb i i (omega arith))

    -- the block is told what is left
    pub left_told : i < length bs → (h : ℕ → Bool) → ((g : ℕ) → h g ≡ left i (block_there bs i) g) → {before between after : List ℕ}
        → CellsTold bs (length bs) (stage left shown i) before between → ToldBlock (block_there bs i) h between after → CellsTold bs (length bs) (stage left shown (i + 1)) before after
    left_told inside h is t told =
        cells_told_next bs once t i inside h told (length bs) (omega arith) (λ j l e. l) (stage left shown (i + 1)) (λ g. stage_own g ∙ sym (is g)) (λ j g e. stage_other j g e)

    -- or nothing changes
    pub left_same : ((g : ℕ) → shown (block_there bs i) g ≡ left i (block_there bs i) g) → {before after : List ℕ}
        → CellsTold bs (length bs) (stage left shown i) before after → CellsTold bs (length bs) (stage left shown (i + 1)) before after
    left_same is t = cells_told_same t (stage left shown (i + 1)) (λ j g l. go j g (decided (eqb j i)))
      where
        go : (j g : ℕ) → Decided (eqb j i) → stage left shown (i + 1) j g ≡ stage left shown i j g
        go j g (inl e) = rw (eqb-true j i e) (stage_own g ∙ sym (is g) ∙ sym (stage_before g))
        go j g (inr e) = stage_other j g e

  -- the counts that are left
  module _ (near : ℕ → List ℕ) (p : List ℕ) (total free rest : ℕ) (is : bs ≡ frontier near p) (is_free : free ≡ inside_cells near p) (is_rest : rest ≡ mines_left total p)
      (counts : List ℕ) (held : CountsHeld bs s.cell_ends counts (length bs)) (i : ℕ) (inside : i < length bs)
      (sums allowed : List ℕ) (joined : SumsAre rest (up_to free ∷ counts_but counts s.cell_ends i s.blocks) sums)
      (says : (t : ℕ) → eqb (get_or allowed t 0) 1 ≡ (leb t rest && eqb (get_or sums (rest - t) 0) 1)) where
    pub left_counts : (t : ℕ) → eqb (get_or allowed t 0) 1 ≡ allowed_count near p total i t
    unfolding allowed_count
    left_counts t =
        says t
        ∙ ap (λ (b : Bool). leb t rest && b)
        (joined.at (rest - t) (omega arith) ∙ ap (λ (n : ℕ). sums_to (up_to free ∷ counts_but counts s.cell_ends i n) (rest - t)) (blocks_held s w)
        ∙ sums_others bs s.cell_ends counts held i inside free (rest - t))
        ∙ ap (λ (q : List Block). leb t rest && sums_to (up_to free ∷ map possible_count (others_than i q)) (rest - t)) is
        ∙ ap (λ (n : ℕ). leb t rest && sums_to (up_to n ∷ map possible_count (others_than i (frontier near p))) (rest - t)) is_free
        ∙ ap (λ (n : ℕ). leb t n && sums_to (up_to (inside_cells near p) ∷ map possible_count (others_than i (frontier near p))) (n - t)) is_rest

    -- where all of the block's own are left
    pub left_each : ((t : ℕ) → counts_at counts s.cell_ends i t ≡ true → eqb (get_or allowed t 0) 1 ≡ true) → (t : ℕ) → possible_count (block_there bs i) t ≡ true → allowed_count near p total i t ≡ true
    left_each h t e = sym (left_counts t) ∙ h t (held.at_block i inside t ∙ e)

    -- what is told of the block
    module _ {bounds : Bounds} (is_bounds : bounds ≡ bounds_at s.cell_ends s.equation_ends i) where
      pub mine_again : {before between after : List ℕ} → CellsTold bs (length bs) (mine_stage near p total bs i) before between
          → ToldBlock (block_from s.cells s.slots s.rests bounds) (mine_allowed allowed (block_from s.cells s.slots s.rests bounds)) between after
          → CellsTold bs (length bs) (mine_stage near p total bs (i + 1)) before after
      mine_again t told =
          left_told (λ j b g. some_mine near p total j b g) (λ b g. mine_allowed any_count b g) i inside (mine_allowed allowed (block_there bs i)) (mine_left (block_there bs i) near p total i allowed left_counts) t
          (rw (turn_is i inside is_bounds) at told)

      pub free_again : {before between after : List ℕ} → CellsTold bs (length bs) (free_stage near p total bs i) before between
          → ToldBlock (block_from s.cells s.slots s.rests bounds) (free_allowed allowed (block_from s.cells s.slots s.rests bounds)) between after
          → CellsTold bs (length bs) (free_stage near p total bs (i + 1)) before after
      free_again t told =
          left_told (λ j b g. some_free near p total j b g) (λ b g. free_allowed any_count b g) i inside (free_allowed allowed (block_there bs i)) (free_left (block_there bs i) near p total i allowed left_counts) t
          (rw (turn_is i inside is_bounds) at told)

      module _ (each : (t : ℕ) → counts_at counts s.cell_ends i t ≡ true → eqb (get_or allowed t 0) 1 ≡ true) where
        pub mine_kept : {before after : List ℕ} → CellsTold bs (length bs) (mine_stage near p total bs i) before after → CellsTold bs (length bs) (mine_stage near p total bs (i + 1)) before after
        mine_kept t =
            left_same (λ j b g. some_mine near p total j b g) (λ b g. mine_allowed any_count b g) i
            (mine_same (block_there bs i) (there_proper i inside is_bounds) (there_combinable i inside is_bounds).few_cells near p total i (left_each each)) t

        pub free_kept : {before after : List ℕ} → CellsTold bs (length bs) (free_stage near p total bs i) before after → CellsTold bs (length bs) (free_stage near p total bs (i + 1)) before after
        free_kept t =
            left_same (λ j b g. some_free near p total j b g) (λ b g. free_allowed any_count b g) i
            (free_same (block_there bs i) (there_proper i inside is_bounds) (there_combinable i inside is_bounds).few_cells near p total i (left_each each)) t

-- ---- the loops

-- the first b blocks are counted
pub record CountedTo (s : BlockSet) (start : CellMarks) (counts : List ℕ) (marks : CellMarks) (met : Met) (b : ℕ) : Type 0 where
  pub held : CountsHeld (blocks_of s) s.cell_ends counts b
  pub mines : CellsTold (blocks_of s) b (mine_shown (blocks_of s)) start.mined marks.mined
  pub frees : CellsTold (blocks_of s) b (free_shown (blocks_of s)) start.unfilled marks.unfilled
  pub table : TableBelow (1 + b * 1050625) met

pub counted_none : (s : BlockSet) (counts : List ℕ) (marks : CellMarks) (met : Met) → length counts ≡ 2048 → TableBelow 1 met → CountedTo s marks counts marks met 0
counted_none s counts marks met l t = record {
  held = counts_held_none (blocks_of s) s.cell_ends counts l;
  mines = cells_told_none (blocks_of s) (mine_shown (blocks_of s)) marks.mined;
  frees = cells_told_none (blocks_of s) (free_shown (blocks_of s)) marks.unfilled;
  table = t;
}

-- what is told of any board whose frontier these blocks are, and that the second step has it for the first b blocks
abbrev pub Stages : ((ℕ → List ℕ) → List ℕ → ℕ → List Block → ℕ → ℕ → ℕ → Bool) → (List Block → ℕ → ℕ → Bool) → BlockSet → ℕ → ℕ → List ℕ → List ℕ → ℕ → Type 0
Stages stages shown s inside rest told₀ told b =
    (near : ℕ → List ℕ) (p before : List ℕ) (total : ℕ) → blocks_of s ≡ frontier near p → inside ≡ inside_cells near p → rest ≡ mines_left total p
    → CellsTold (blocks_of s) (length (blocks_of s)) (shown (blocks_of s)) before told₀ → CellsTold (blocks_of s) (length (blocks_of s)) (stages near p total (blocks_of s) b) before told

pub record JoinedTo (s : BlockSet) (inside rest : ℕ) (start marks : CellMarks) (met : Met) (b : ℕ) : Type 0 where
  pub mines : Stages mine_stage mine_shown s inside rest start.mined marks.mined b
  pub frees : Stages free_stage free_shown s inside rest start.unfilled marks.unfilled b
  pub table : TableBelow (1 + (length (blocks_of s) + b) * 1050625) met

pub joined_none : (s : BlockSet) (inside rest : ℕ) (marks : CellMarks) (met : Met) → TableBelow (1 + length (blocks_of s) * 1050625) met → JoinedTo s inside rest marks marks met 0
joined_none s inside rest marks met t = record {
  mines = λ near p before total is free left told. cells_told_same told (mine_stage near p total (blocks_of s) 0) (λ j g h. rw (le-ltb j 0 (omega arith)));
  frees = λ near p before total is free left told. cells_told_same told (free_stage near p total (blocks_of s) 0) (λ j g h. rw (le-ltb j 0 (omega arith)));
  table = let same : length (blocks_of s) + 0 ≡ length (blocks_of s) = omega arith in rw same t;
}

-- the tags of the table are below a greater number
pub table_more : {first more : ℕ} {met : Met} → TableBelow first met → first ≤ more → TableBelow more met
table_more t h = record { whole = t.whole; below = λ i. omega (arith, t.below i, h) }
