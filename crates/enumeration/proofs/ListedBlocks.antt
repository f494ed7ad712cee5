-- Enumeration on the blocks of a set, one after another: what is listed so far, with the lists of the blocks to come, is what all blocks list, and no block so far is
-- without a solution. There is room, since what is listed are cells of the set, at most 1,024. At the end the struct holds what enumeration finds; a
-- block without a solution makes it the contradiction. Rests on ListedBlock, EnumerationLaws and the laws of stores run by run. Assumes nothing.
use mathlib.Core.Path.{◌≡◌, refl, sym, ap, ◌∙◌}
use mathlib.Core.Bool.{true, false}
use mathlib.Core.List.{List, [], ◌∷◌, ◌++◌, map, Memᴰ}
use Prim.Native.Nat.{ℕ, ◌+◌, ◌≤◌, ◌<◌}
use native.Mathlib.Nat.{zero-add}
use native.Mathlib.Omega.{arith}
use lib.ListN.{length, get_or, drop, replicate}
use lib.Seq.{sets}
use Rattle.std.specs.Prelude.{Result, Ok, Err}
use lib.Dec.{ltb}
use Rattle.lists.specs.Lists.{all, empty, joined, pad}
use Rattle.lists.proofs.Arrays.{drop_more, drop_none}
use Rattle.lists.proofs.Joined.{filled_sets}
use Rattle.lists.proofs.Unions.{mem_at}
use Rattle.lists.proofs.Among.{among_length, joined_among}
use Rattle.lists.proofs.Storing.{Storing, storing_start}
use Rattle.lists.proofs.StoredAndKept.{run_room, run_next, run_end}
use Rattle.blocks.specs.Blocks.{Block}
use Rattle.blocks.specs.BlockSets.{block_set, blocks_of, Whole}
use Rattle.blocks.specs.Places.{Arrays, bounds_at, cells_from, block_from}
use Rattle.blocks.specs.declared.Bounds.{Bounds}
use Rattle.blocks.specs.declared.BlockSet.{BlockSet}
use Rattle.blocks.proofs.Reading.{no_block}
use Rattle.blocks.proofs.Behind.{small_first, set_whole}
use Rattle.blocks.proofs.Standing.{block_in, order_in, arrays_in}
use Rattle.direct.specs.Answers.{rule_answer, lists_of}
use Rattle.direct.specs.declared.answer.RuleAnswer.{RuleAnswer}
use Rattle.direct.specs.declared.answer.Contradiction.{Contradiction}
use Rattle.direct.specs.declared.answer.Lists.{Lists}
use Rattle.marks.specs.CellLists.{cell_list}
use Rattle.marks.specs.declared.listing.CellList.{CellList}
use Rattle.groups.proofs.BlockColumns.{block_cells}
use Rattle.groups.specs.Grouping.{Combinable, grouped}
use Rattle.groups.specs.declared.Grouped.{Grouped}
use Rattle.groups.proofs.GroupLaws.{combinable_proper}
use Rattle.search.specs.Solutions.{solutions}
use Rattle.search.proofs.ReadingGroups.{groups_read, groups_few}
use Rattle.enumeration.specs.Enumeration.{safe_cells, mine_cells, unsolvable, enumerated}
use Rattle.enumeration.specs.Asking.{shown}
use Rattle.enumeration.specs.Listing.{unmarked_groups, ListedBehind}
use Rattle.enumeration.specs.declared.asking.Shown.{Shown}
use Rattle.enumeration.proofs.ListedBlock.{safe_listed, mines_listed, first_bits, unshown_unsolved, shown_solved}
use Rattle.enumeration.proofs.EnumerationLaws.{safe_cells_among, mine_cells_among}

-- two lists hold what the blocks before `rest` list
pub record ListedSoFar (bs : List Block) (lists : Lists) (rest : List Block) : Type 0 where
  pub safe_so_far : Storing 1024 1 (λ (x : ℕ). x ∷ []) (replicate 1024 0) 0 (joined (map safe_cells bs)) lists.safe.cells lists.safe.count (joined (map safe_cells rest))
  pub mines_so_far : Storing 1024 1 (λ (x : ℕ). x ∷ []) (replicate 1024 0) 0 (joined (map mine_cells bs)) lists.mines.cells lists.mines.count (joined (map mine_cells rest))
  pub solvable_so_far : unsolvable bs ≡ unsolvable rest

module _ {s : BlockSet} (w : Whole s) (combinable : (b : Block) → Memᴰ b (blocks_of s) → Combinable b) where
  abbrev bs : List Block
  bs = blocks_of s

  -- ---- room

  safe_few : length (joined (map safe_cells bs)) ≤ 1024
  safe_few =
      omega (
        arith,
        among_length (joined (map safe_cells bs)) (joined (map (λ (b : Block). b.cells) bs))
            (joined_among safe_cells (λ (b : Block). b.cells) bs (λ b m. safe_cells_among b (combinable_proper b (combinable b m)))),
        w.fits.few_cells,
      )

  mines_few : length (joined (map mine_cells bs)) ≤ 1024
  mines_few =
      omega (
        arith,
        among_length (joined (map mine_cells bs)) (joined (map (λ (b : Block). b.cells) bs))
            (joined_among mine_cells (λ (b : Block). b.cells) bs (λ b m. mine_cells_among b (combinable_proper b (combinable b m)))),
        w.fits.few_cells,
      )

  -- nothing is listed yet
  pub listed_start : (lists : Lists) → lists ≡ lists_of [] [] → ListedSoFar bs lists (drop 0 bs)
  unfolding lists_of
  listed_start lists is = rw is record { safe_so_far = storing_start refl; mines_so_far = storing_start refl; solvable_so_far = refl }

  -- ---- the next block, in the arrays

  module _ (i : ℕ) (inside : i < length bs) {bounds : Bounds} (at : bounds ≡ bounds_at s.cell_ends s.equation_ends i) where
    abbrev next : Block
    next = block_from s.cells s.slots s.rests bounds

    next_is : next ≡ get_or bs i no_block
    next_is = rw at (block_in s w i inside)

    blocks_left : drop i bs ≡ next ∷ drop (i + 1) bs
    blocks_left = drop_more bs i no_block inside ∙ ap (λ (b : Block). b ∷ drop (i + 1) bs) (sym next_is)

    pub next_arrays : Arrays s.cells s.slots s.rests bounds
    next_arrays = rw at (arrays_in s w i inside)

    pub next_order : bounds.first_cell ≤ bounds.end_cell
    next_order = rw at (order_in s w i inside)

    pub next_combinable : Combinable next
    next_combinable = rw next_is (combinable (get_or bs i no_block) (mem_at bs i no_block inside))

    pub next_below : all (λ c. ltb c 1024) (cells_from s.cells bounds.first_cell bounds.end_cell) ≡ true
    next_below = rw (← block_cells s.cells s.slots s.rests bounds) next_combinable.below

    -- what it lists, and then the others
    safe_left : joined (map safe_cells (drop i bs)) ≡ safe_cells next ++ joined (map safe_cells (drop (i + 1) bs))
    safe_left = ap (λ (l : List Block). joined (map safe_cells l)) blocks_left

    mines_left_lem : joined (map mine_cells (drop i bs)) ≡ mine_cells next ++ joined (map mine_cells (drop (i + 1) bs))
    mines_left_lem = ap (λ (l : List Block). joined (map mine_cells l)) blocks_left

    -- what combine and shown_by answer of it
    module _ {r : Grouped} (is : r ≡ grouped next) {t : Shown} (told : t ≡ shown next) where
      -- the cells of its groups without a mark
      abbrev unmarked_cells : List ℕ → List ℕ
      unmarked_cells marks = unmarked_groups r.group_of marks (cells_from s.cells bounds.first_cell bounds.end_cell) 0 r.groups

      safe_here : unmarked_cells t.mined ≡ safe_cells next
      safe_here = safe_listed s.cells s.slots s.rests bounds next_combinable r is t told

      mines_here : unmarked_cells t.unfilled ≡ mine_cells next
      mines_here = mines_listed s.cells s.slots s.rests bounds next_combinable r is t told

      pub groups_within : r.groups ≤ 1024
      groups_within = rw is (omega (arith, groups_read next, groups_few next next_combinable))

      -- the two marks of its first group
      pub first_marks : get_or t.mined 0 0 + get_or t.unfilled 0 0 ≤ 2
      first_marks = rw told (first_bits next next_combinable)

      module _ {lists : Lists} (l : ListedSoFar bs lists (drop i bs)) where
        -- there is room for its lists
        pub safe_room : lists.safe.count + length (unmarked_cells t.mined) ≤ 1024
        safe_room = rw safe_here (run_room l.safe_so_far (safe_cells next) (joined (map safe_cells (drop (i + 1) bs))) safe_left 1024 (omega (arith, safe_few)))

        pub mines_room : lists.mines.count + length (unmarked_cells t.unfilled) ≤ 1024
        mines_room = rw mines_here (run_room l.mines_so_far (mine_cells next) (joined (map mine_cells (drop (i + 1) bs))) mines_left_lem 1024 (omega (arith, mines_few)))

        -- a mark stands, so it has a solution, and is listed
        pub block_listed : (get_or t.mined 0 0 + get_or t.unfilled 0 0 ≡ 0 → ⊥)
            → (safe mines : CellList) → ListedBehind (unmarked_cells t.mined) lists.safe safe → ListedBehind (unmarked_cells t.unfilled) lists.mines mines
            → ListedSoFar bs (record { safe = safe; mines = mines }) (drop (i + 1) bs)
        block_listed marks safe mines stored stored' =
            let solved : empty (solutions next) ≡ false = shown_solved next next_combinable (rw told at marks) in
            record {
              safe_so_far = run_next l.safe_so_far (safe_cells next) (joined (map safe_cells (drop (i + 1) bs))) safe_left
                  safe.cells (rw safe_here at stored.cells) safe.count (rw safe_here at stored.count);
              mines_so_far = run_next l.mines_so_far (mine_cells next) (joined (map mine_cells (drop (i + 1) bs))) mines_left_lem
                  mines.cells (rw mines_here at stored'.cells) mines.count (rw mines_here at stored'.count);
              solvable_so_far = l.solvable_so_far ∙ ap unsolvable blocks_left ∙ rw solved;
            }

        -- no mark stands, so it has none, which is the contradiction
        pub unsolved_answer : get_or t.mined 0 0 + get_or t.unfilled 0 0 ≡ 0 → Err (record {}) ≡ rule_answer (enumerated bs)
        unfolding rule_answer enumerated
        unsolved_answer none =
            let unsolved : empty (solutions next) ≡ true = unshown_unsolved next next_combinable (rw told at none) in
            let found : unsolvable bs ≡ true = l.solvable_so_far ∙ ap unsolvable blocks_left ∙ rw unsolved in
            rw found

  -- ---- no block is left

  -- a list that was stored whole
  whole_list : (l : CellList) (all : List ℕ) → length all ≤ 1024 → (l.count ≡ 0 + length all) × (l.cells ≡ sets (replicate 1024 0) 0 all) → l ≡ cell_list all
  whole_list l all few (count, cells) =
      ap (λ (x : List ℕ). record { cells = x; count = l.count }) (cells ∙ filled_sets 1024 0 all few)
      ∙ ap (λ (n : ℕ). record { cells = pad 1024 0 all; count = n }) (count ∙ zero-add (length all))

  pub all_listed : {lists : Lists} (i : ℕ) → ListedSoFar bs lists (drop i bs) → length bs ≤ i → (left : BlockSet) → left ≡ block_set []
      → Ok (record { lists = lists; left = left }) ≡ rule_answer (enumerated bs)
  unfolding rule_answer lists_of enumerated
  all_listed {lists} i l h left is =
      let none = drop_none bs i h in
      let solvable : unsolvable bs ≡ false = l.solvable_so_far ∙ ap unsolvable none in
      let safe_is = whole_list lists.safe (joined (map safe_cells bs)) safe_few (run_end l.safe_so_far (ap (λ (r : List Block). joined (map safe_cells r)) none)) in
      let mines_is = whole_list lists.mines (joined (map mine_cells bs)) mines_few (run_end l.mines_so_far (ap (λ (r : List Block). joined (map mine_cells r)) none)) in
      rw (solvable, is) (ap (answer lists.safe) mines_is ∙ ap (λ (s : CellList). answer s (cell_list (joined (map mine_cells bs)))) safe_is)
    where
      answer : CellList → CellList → Result RuleAnswer Contradiction
      answer safe mines = Ok (record { lists = record { safe = safe; mines = mines }; left = block_set [] })

  -- the set of no blocks holds these and nothing else
  pub none_whole : (left : BlockSet) → left ≡ block_set [] → Whole left
  none_whole left is = set_whole [] left is (small_first [] bs w.fits)
