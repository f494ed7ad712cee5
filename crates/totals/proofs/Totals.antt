-- The theorems of a mine total: a cell of a block is a mine, or free, in some layout of the total that fits exactly where some solution of its block
-- with an allowed count shows it so; and an inside cell exactly where the blocks and the other inside cells can hold what is left to them. The idea:
-- a layout of the total has its counts in the sums, and counts that add up are those of a layout made of its parts. One layout that fits is asked
-- for, and a total of no fewer than the known mines. Rests on SumsOfSets, ChosenNumbers, SeveralBlocks and LayoutParts. Assumes nothing.
use mathlib.Core.Path.{◌≡◌, sym, subst, ◌∙◌}
use mathlib.Core.Logic.{◌⊎◌, inl, inr, ◌↔◌}
use mathlib.Core.Bool.{Bool, true, false, ◌&&◌}
use mathlib.Core.List.{List, ◌∷◌, ◌++◌, map, Memᴰ}
use Prim.Native.Nat.{ℕ, suc, ◌+◌, ◌-◌, ◌≤◌, ◌<◌}
use native.Mathlib.Omega.{arith}
use lib.Dec.{leb, ltb}
use lib.ListN.{length, get_or}
use borrow.Author.Tests.{leb-true, le-leb, ltb-true, lt-ltb}
use Rattle.lists.specs.Lists.{bit, count, any, has, nodup, without}
use Rattle.lists.proofs.Tests.{and_left, and_right}
use Rattle.lists.proofs.Counts.{count_le, count_append}
use Rattle.lists.proofs.Rearranged.{rearranged_nodup}
use Rattle.lists.proofs.Among.{among_right, among_nodup}
use Rattle.lists.proofs.Unions.{mem_at}
use Rattle.lists.proofs.Occurrences.{any_in, in_any}
use Rattle.fitting.specs.Layouts.{mine_at, Fits}
use Rattle.blocks.specs.Blocks.{Block}
use Rattle.blocks.specs.BlockSets.{all_cells}
use Rattle.blocks.proofs.ProperBlocks.{Proper, block_cell, Solves}
use Rattle.blocks.proofs.Reading.{no_block}
use Rattle.groups.specs.Groups.{group_of_cell, sizes}
use Rattle.frontier.specs.Frontier.{frontier, inside_cells, known_mines}
use Rattle.frontier.proofs.BlockLaws.{frontier_proper}
use Rattle.frontier.proofs.Coverage.{frontier_once}
use Rattle.frontier.proofs.Fitting.{fits_solves_block}
use Rattle.frontier.proofs.JoinedBlocks.{SolvesEach, on_cells}
use Rattle.search.specs.Solutions.{sum, solutions}
use Rattle.search.proofs.GroupRows.{solution_listed}
use Rattle.totals.specs.Totals.{possible_count, up_to, sums_to, is_inside, mines_left, others_than, allowed_count, some_mine, some_free, inside_mine, inside_free}
use Rattle.totals.proofs.SumsOfSets.{sums_equal, sums_more, more_sums}
use Rattle.totals.proofs.ChosenNumbers.{chosen, count_rest, length_rest, chosen_with}
use Rattle.totals.proofs.BlockCounts.{SolutionWith, row_of, row_sum, mine_in_row, free_in_row, row_mine, row_free}
use Rattle.totals.proofs.SeveralBlocks.{ProperEach, joined_own, joined_others, joined_count, solutions_sum, sum_solutions, there_or_other, other_listed, cells_there_and_others}
use Rattle.totals.proofs.InsideCells.{inside_list, inside_listed, inside_once, inside_length, mines_parted}
use Rattle.totals.proofs.LayoutParts.{layout_from, layout_from_fits, layout_from_frontier, layout_from_inside, layout_from_mines}

-- a layout of the total that fits, with the cell c as v says
abbrev pub LayoutOfTotal : (ℕ → List ℕ) → List ℕ → ℕ → ℕ → Bool → Type 0
LayoutOfTotal near p total c v = (m : List Bool) × Fits near p m × (count (λ x. x) m ≡ total) × (mine_at m c ≡ v)

module _ (near : ℕ → List ℕ) (p : List ℕ) (once : (c : ℕ) → nodup (near c) ≡ true) (few : (c : ℕ) → length (near c) ≤ 8)
    (mutually : (c d : ℕ) → d < length p → has (near d) c ≡ true → has (near c) d ≡ true)
    (some : List Bool) (fit : Fits near p some) (total : ℕ) (enough : known_mines p ≤ total) where
  -- a layout of the total has what the known mines leave on the frontier and on the inside cells
  left_parted : (m : List Bool) → Fits near p m → count (λ x. x) m ≡ total
      → count (mine_at m) (all_cells (frontier near p)) + count (mine_at m) (inside_list near p) ≡ mines_left total p
  left_parted m f e = omega (arith, mines_parted near p mutually m f)

  -- what solves every block, and mines on the inside cells: where they are as many as are left, a layout of the total has them
  module _ (f g : ℕ → Bool) (solves : SolvesEach f (frontier near p))
      (left : count f (all_cells (frontier near p)) + count g (inside_list near p) ≡ mines_left total p) where
    layout_from_total : count (λ x. x) (layout_from near p once few mutually some fit f solves g) ≡ total
    layout_from_total = omega (arith, layout_from_mines near p once few mutually some fit f solves g)

    frontier_layout : (c : ℕ) → has (all_cells (frontier near p)) c ≡ true → LayoutOfTotal near p total c (f c)
    frontier_layout c h = (
      layout_from near p once few mutually some fit f solves g,
      layout_from_fits near p once few mutually some fit f solves g,
      layout_from_total,
      layout_from_frontier near p once few mutually some fit f solves g c h,
    )

    inside_layout : (c : ℕ) → is_inside near p c ≡ true → LayoutOfTotal near p total c (g c)
    inside_layout c h = (
      layout_from near p once few mutually some fit f solves g,
      layout_from_fits near p once few mutually some fit f solves g,
      layout_from_total,
      layout_from_inside near p once few mutually some fit f solves g c h,
    )

  -- ---- a cell of a block

  module _ (i : ℕ) (within : i < length (frontier near p)) where
    abbrev block : Block
    block = get_or (frontier near p) i no_block

    abbrev others : List Block
    others = others_than i (frontier near p)

    listed : Memᴰ block (frontier near p)
    listed = mem_at (frontier near p) i no_block within

    proper : Proper block
    proper = frontier_proper near p block listed

    others_proper : ProperEach others
    others_proper b m = frontier_proper near p b (other_listed (frontier near p) i within b m)

    -- no cell of the block stands in another
    apart : nodup (block.cells ++ all_cells others) ≡ true
    apart =
        rearranged_nodup (all_cells (frontier near p)) (block.cells ++ all_cells others) (cells_there_and_others (frontier near p) i within)
        (frontier_once near p)

    others_once : nodup (all_cells others) ≡ true
    others_once = among_nodup (all_cells others) (block.cells ++ all_cells others) (among_right block.cells (all_cells others)) apart

    -- a solution of the block, with one of the others elsewhere, solves every block
    joined_solves : (g f : ℕ → Bool) → Solves g block → SolvesEach f others → SolvesEach (on_cells block.cells g f) (frontier near p)
    joined_solves g f own solves b m = go (there_or_other (frontier near p) i within b m)
      where
        go : (b ≡ block) ⊎ Memᴰ b others → Solves (on_cells block.cells g f) b
        go (inl e) =
            subst (λ (x : Block). Solves (on_cells block.cells g f) x) (sym e)
            (joined_own block others proper others_proper apart g f own solves)
        go (inr k) = joined_others block others proper others_proper apart g f own solves b k

    -- a solution of the block whose count is allowed is part of a layout of the total
    allowed_layout : (g : ℕ → Bool) → Solves g block → allowed_count near p total i (count g block.cells) ≡ true
        → (c : ℕ) → has block.cells c ≡ true → LayoutOfTotal near p total c (g c)
    unfolding allowed_count
    allowed_layout g own h c here =
        let fits : t ≤ mines_left total p = leb-true t (mines_left total p) (and_left (leb t (mines_left total p)) _ h) in
        let (u, r, k, l, e) = more_sums (up_to (inside_cells near p)) (map possible_count others) (mines_left total p - t)
        (and_right (leb t (mines_left total p)) _ h) in
        go u r (sum_solutions others others_proper others_once r l)
        (chosen (inside_list near p) u (inside_once near p) (omega (arith, leb-true u (inside_cells near p) k, inside_length near p))) (omega arith)
      where
        t : ℕ
        t = count g block.cells

        go : (u r : ℕ) → (f : ℕ → Bool) × SolvesEach f others × (count f (all_cells others) ≡ r) → (q : ℕ → Bool) × (count q (inside_list near p) ≡ u)
            → t + r + u ≡ mines_left total p → LayoutOfTotal near p total c (g c)
        go u r (f, solves, w) (q, v) left =
            let at : on_cells block.cells g f c ≡ g c = rw here in
            rw at
            at (frontier_layout (on_cells block.cells g f) q (joined_solves g f own solves)
            (omega (
              arith,
              cells_there_and_others (frontier near p) i within (on_cells block.cells g f),
              joined_count block others proper others_proper apart g f own solves,
            )) c (block_cell (frontier near p) block c listed here))

    -- the count of a layout of the total is allowed
    layout_allowed : (m : List Bool) → Fits near p m → count (λ x. x) m ≡ total → allowed_count near p total i (count (mine_at m) block.cells) ≡ true
    unfolding allowed_count
    layout_allowed m f e =
        let all : t + r + u ≡ mines_left total p =
        omega (
          arith,
          left_parted m f e,
          cells_there_and_others (frontier near p) i within (mine_at m),
          count_append (mine_at m) block.cells (all_cells others),
        ) in
        let rest : mines_left total p - t ≡ u + r = omega arith in
        rw (le-leb t (mines_left total p) (omega arith))
        (sums_equal (up_to (inside_cells near p) ∷ map possible_count others) (sym rest)
        (sums_more (up_to (inside_cells near p)) (map possible_count others) u r few_inside
        (solutions_sum others others_proper (mine_at m)
        (λ b k. fits_solves_block near p once few b (other_listed (frontier near p) i within b k) m f))))
      where
        t : ℕ
        t = count (mine_at m) block.cells

        u : ℕ
        u = count (mine_at m) (inside_list near p)

        r : ℕ
        r = count (mine_at m) (all_cells others)

        few_inside : up_to (inside_cells near p) u ≡ true
        few_inside = le-leb u (inside_cells near p) (omega (arith, count_le (mine_at m) (inside_list near p), inside_length near p))

    module _ (c : ℕ) (here : has block.cells c ≡ true) where
      -- a test on rows that shows the cell as v: then some row of an allowed sum passes exactly where some layout of the total has the cell so
      shown_layout : (v : Bool) (shown : List ℕ → Bool)
          → ((row : List ℕ) → Memᴰ row (solutions block) → shown row ≡ true → SolutionWith block (sum row) c v)
          → ((f : ℕ → Bool) → f c ≡ v → shown (row_of block f) ≡ true)
          → (any (λ (row : List ℕ). allowed_count near p total i (sum row) && shown row) (solutions block) ≡ true) ↔ LayoutOfTotal near p total c v
      shown_layout v shown there back = (
        λ h.
            let (row, k, e) = any_in test (solutions block) h in
            let (g, own, w, x) = there row k (and_right (allowed_count near p total i (sum row)) (shown row) e) in
            let (m, f, s, y) = allowed_layout g own (rw w (and_left (allowed_count near p total i (sum row)) (shown row) e)) c here in
            (m, f, s, y ∙ x),
        λ (m, f, e, x).
            in_any test (solutions block) (solution_listed block proper (mine_at m) (fits_solves_block near p once few block listed m f))
            (rw (row_sum block (mine_at m), layout_allowed m f e, back (mine_at m) x)),
      )
        where
          test : List ℕ → Bool
          test row = allowed_count near p total i (sum row) && shown row

      -- the cell is a mine in some layout of the total exactly where some solution of an allowed count has a mine in its group
      pub block_mine : (some_mine near p total i block (group_of_cell block c) ≡ true) ↔ LayoutOfTotal near p total c true
      unfolding some_mine
      block_mine =
          shown_layout true (λ (row : List ℕ). ltb 0 (get_or row (group_of_cell block c) 0))
          (λ row m h. row_mine block proper c here row m (ltb-true 0 (get_or row (group_of_cell block c) 0) h))
          (λ f x. lt-ltb 0 (get_or (row_of block f) (group_of_cell block c) 0) (mine_in_row block c here f x))

      -- and free exactly where some leaves a cell of its group free
      pub block_free : (some_free near p total i block (group_of_cell block c) ≡ true) ↔ LayoutOfTotal near p total c false
      unfolding some_free
      block_free =
          shown_layout false (λ (row : List ℕ). ltb (get_or row (group_of_cell block c) 0) (get_or (sizes block) (group_of_cell block c) 0))
          (λ row m h. row_free block proper c here row m (ltb-true (get_or row (group_of_cell block c) 0) (get_or (sizes block) (group_of_cell block c) 0) h))
          (λ f x. lt-ltb (get_or (row_of block f) (group_of_cell block c) 0) (get_or (sizes block) (group_of_cell block c) 0) (free_in_row block c here f x))

  -- ---- an inside cell

  module _ (c : ℕ) (inside : is_inside near p c ≡ true) where
    here : has (inside_list near p) c ≡ true
    here = inside_listed near p c inside

    -- the inside cells other than c
    abbrev rest : List ℕ
    rest = without c (inside_list near p)

    rest_few : inside_cells near p ≡ suc (length rest)
    rest_few = sym (inside_length near p) ∙ length_rest (inside_list near p) (inside_once near p) c here

    -- with c as v, the blocks and the other inside cells hold n mines, and n and c's own are what is left: then some layout of the total has c so
    held_layout : (v : Bool) (n : ℕ) → bit v + n ≡ mines_left total p
        → sums_to (up_to (inside_cells near p - 1) ∷ map possible_count (frontier near p)) n ≡ true → LayoutOfTotal near p total c v
    held_layout v n left h =
        let (u, r, k, l, e) = more_sums (up_to (inside_cells near p - 1)) (map possible_count (frontier near p)) n h in
        go u r (sum_solutions (frontier near p) (frontier_proper near p) (frontier_once near p) r l)
        (chosen_with (inside_list near p) (inside_once near p) c here v u
        (omega (arith, leb-true u (inside_cells near p - 1) k, rest_few, inside_length near p)))
        (omega arith)
      where
        go : (u r : ℕ) → (f : ℕ → Bool) × SolvesEach f (frontier near p) × (count f (all_cells (frontier near p)) ≡ r)
            → (g : ℕ → Bool) × (count g (inside_list near p) ≡ bit v + u) × (g c ≡ v)
            → bit v + (u + r) ≡ mines_left total p → LayoutOfTotal near p total c v
        go u r (f, solves, w) (g, z, x) e = rw x at (inside_layout f g solves (omega arith) c inside)

    -- and back
    layout_held : (m : List Bool) → Fits near p m → count (λ x. x) m ≡ total → (n : ℕ) → bit (mine_at m c) + n ≡ mines_left total p
        → sums_to (up_to (inside_cells near p - 1) ∷ map possible_count (frontier near p)) n ≡ true
    layout_held m f e n left =
        let all : n ≡ u + r = omega (arith, left_parted m f e, count_rest (inside_list near p) (inside_once near p) c here (mine_at m)) in
        sums_equal (up_to (inside_cells near p - 1) ∷ map possible_count (frontier near p)) (sym all)
        (sums_more (up_to (inside_cells near p - 1)) (map possible_count (frontier near p)) u r few_rest
        (solutions_sum (frontier near p) (frontier_proper near p) (mine_at m) (λ b k. fits_solves_block near p once few b k m f)))
      where
        u : ℕ
        u = count (mine_at m) rest

        r : ℕ
        r = count (mine_at m) (all_cells (frontier near p))

        few_rest : up_to (inside_cells near p - 1) u ≡ true
        few_rest = le-leb u (inside_cells near p - 1) (omega (arith, count_le (mine_at m) rest, rest_few))

    -- the cell is a mine in some layout of the total exactly where the blocks and the other inside cells can hold one mine less
    pub inside_mine_lem : (inside_mine near p total ≡ true) ↔ LayoutOfTotal near p total c true
    unfolding inside_mine
    inside_mine_lem = (
      λ h.
          let k = and_right (leb 1 (inside_cells near p)) _ h in
          held_layout true (mines_left total p - 1) (omega (arith, leb-true 1 (mines_left total p) (and_left (leb 1 (mines_left total p)) _ k)))
          (and_right (leb 1 (mines_left total p)) _ k),
      λ (m, f, e, x).
          let own : count (mine_at m) (inside_list near p) ≡ 1 + count (mine_at m) rest =
          rw x at (count_rest (inside_list near p) (inside_once near p) c here (mine_at m)) in
          let one : 1 ≤ mines_left total p = omega (arith, left_parted m f e) in
          rw (le-leb 1 (inside_cells near p) (omega (arith, rest_few)), le-leb 1 (mines_left total p) one)
          (layout_held m f e (mines_left total p - 1) (rw x (omega arith))),
    )

    -- and free exactly where they can hold all that are left
    pub inside_free_lem : (inside_free near p total ≡ true) ↔ LayoutOfTotal near p total c false
    unfolding inside_free
    inside_free_lem = (
      λ h. held_layout false (mines_left total p) (omega arith) (and_right (leb 1 (inside_cells near p)) _ h),
      λ (m, f, e, x).
          rw (le-leb 1 (inside_cells near p) (omega (arith, rest_few)))
          (layout_held m f e (mines_left total p) (rw x (omega arith))),
    )
