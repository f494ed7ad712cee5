-- The blocks of a frontier are blocks that the code can combine (`Combinable`): they have a cell; their cells and equations are at most 1,024, none twice and
-- inside the block; an equation has at most eight cells; and a cell stands in at least one equation and in at most eight, since the equations of a block
-- come from different sources, and a source beside a cell is one of its neighbours. `near` is mutual and lists at most eight neighbours of a cell, none
-- twice. Rests on Partition and BlockLaws, and on `equation_in_column` of the crate groups. Assumes nothing.
use mathlib.Core.Path.{◌≡◌, refl, sym, ap, ◌∙◌}
use mathlib.Core.Bool.{Bool, true, false, not, ◌&&◌}
use mathlib.Core.List.{List, [], ◌∷◌, Memᴰ}
use Prim.Native.Nat.{ℕ, ◌*◌, ◌≤◌, ◌<◌}
use native.Mathlib.Omega.{arith}
use lib.Dec.{leb, ltb}
use lib.ListN.{length, get_or, length-map}
use borrow.Author.Tests.{lt-ltb, le-leb}
use Rattle.lists.specs.Lists.{range, keep, count, all, empty, has, nodup, joined}
use Rattle.lists.proofs.Tests.{clash}
use Rattle.lists.proofs.Members.{has_head, has_not_empty, kept_passes, kept_has, nodup_keep}
use Rattle.lists.proofs.Counts.{count_ext, length_keep}
use Rattle.lists.proofs.CountsAlike.{counts_map}
use Rattle.lists.proofs.Rearranged.{rearranged_length, nodup_below}
use Rattle.lists.proofs.Unions.{all_of, mem_has}
use Rattle.lists.proofs.Occurrences.{all_in, not_empty}
use Rattle.lists.proofs.Sharing.{within_all}
use Rattle.lists.proofs.Among.{among_length, among_nodup, nodup_among}
use Rattle.lists.proofs.PlacesAndRanges.{count_places}
use Rattle.lists.proofs.PartedLists.{member_among}
use Rattle.grid.specs.Cells.{shows}
use Rattle.grid.proofs.Places.{few_cells}
use Rattle.grid.specs.Window.{neighbours, Board}
use Rattle.grid.proofs.Neighbours.{neighbours_nodup, neighbours_few, neighbours_mutual}
use Rattle.fitting.specs.Equations.{is_closed}
use Rattle.fitting.proofs.Layouts.{on_board}
use Rattle.blocks.specs.Blocks.{BlockEquation, Block}
use Rattle.blocks.specs.BlockSets.{block_set, blocks_of}
use Rattle.blocks.specs.declared.BlockSet.{BlockSet}
use Rattle.sources.specs.Sources.{closed_beside, sources}
use Rattle.sources.proofs.ListedSources.{listed_source, sources_few}
use Rattle.growth.proofs.Partition.{parts, parts_once, parts_rearranged, parts_not_empty, part_has_sources}
use Rattle.frontier.specs.Frontier.{equation_of, cells_met, block_of, frontier}
use Rattle.frontier.proofs.BlockLaws.{source_block_cell, block_closed, block_once, block_equations, equation_source, equation_has, equation_few, block_proper, frontier_part}
use Rattle.frontier.proofs.ReadFrontier.{read_frontier}
use Rattle.groups.specs.Groups.{no_cells, column}
use Rattle.groups.specs.Grouping.{Combinable}
use Rattle.groups.proofs.GroupLaws.{equation_in_column}

module _ (near : ℕ → List ℕ) (p : List ℕ) (once : (c : ℕ) → nodup (near c) ≡ true) (few : (c : ℕ) → c < length p → length (near c) ≤ 8)
    (mutually : (c d : ℕ) → d < length p → has (near d) c ≡ true → has (near c) d ≡ true) (sized : length p ≤ 1024) where
  -- ---- the block of one part of the sources

  module _ (cs : List ℕ) (part : Memᴰ cs (parts near p)) where
    -- no source stands twice
    part_once : nodup cs ≡ true
    part_once = among_nodup cs (joined (parts near p)) (member_among (parts near p) part) (parts_once near p)

    -- and there are at most as many as cells
    part_few : length cs ≤ length p
    part_few =
        omega (
          arith,
          among_length cs (joined (parts near p)) (member_among (parts near p) part),
          rearranged_length (joined (parts near p)) (sources near p) (parts_rearranged near p),
          sources_few near p,
        )

    -- a source is on the board
    part_on_board : (d : ℕ) → has cs d ≡ true → d < length p
    part_on_board d h = (listed_source near p d (part_has_sources near p cs part d h)).on_board

    -- the block has a cell
    part_some : empty (block_of near p cs).cells ≡ false
    part_some = go cs refl
      where
        go : (l : List ℕ) → cs ≡ l → empty (block_of near p cs).cells ≡ false
        go [] e = clash false (rw e at (all_in (λ (l : List ℕ). not (empty l)) (parts near p) (parts_not_empty near p) part)) refl
        go (d ∷ l) e =
            let here : has cs d ≡ true = rw e (has_head d l) in
            let (c, m) = not_empty (closed_beside near p d) (listed_source near p d (part_has_sources near p cs part d here)).touches in
            has_not_empty (block_of near p cs).cells c (source_block_cell near p cs d c here (mem_has (closed_beside near p d) m))

    -- a cell's equations are as many as its sources
    column_length : (c : ℕ) → length (column (block_of near p cs) c) ≡ length (keep (λ d. has (closed_beside near p d) c) cs)
    column_length c =
        length_keep (λ (i : ℕ). has (get_or (block_of near p cs).equations i no_cells).cells c) (range 0 (length (block_of near p cs).equations))
        ∙ count_places (λ (e : BlockEquation). has e.cells c) (block_of near p cs).equations no_cells
        ∙ ap (count (λ (e : BlockEquation). has e.cells c)) (block_equations near p cs)
        ∙ counts_map (λ (e : BlockEquation). has e.cells c) (equation_of near p (cells_met near p cs)) cs
        ∙ count_ext (λ d. has (equation_of near p (cells_met near p cs) d).cells c) (λ d. has (closed_beside near p d) c) cs
        (λ d h. equation_has near p cs d h c)
        ∙ sym (length_keep (λ d. has (closed_beside near p d) c) cs)

    -- so at most eight
    column_few : (c : ℕ) → has (block_of near p cs).cells c ≡ true → length (column (block_of near p cs) c) ≤ 8
    column_few c h =
        omega (
          arith,
          column_length c,
          among_length (keep (λ d. has (closed_beside near p d) c) cs) (near c)
              (nodup_among (keep (λ d. has (closed_beside near p d) c) cs) (near c)
              (nodup_keep (λ d. has (closed_beside near p d) c) cs part_once) (once c) beside),
          few c (on_board p c (omega (arith, block_closed near p cs c h))),
        )
      where
        beside : (d : ℕ) → has (keep (λ x. has (closed_beside near p x) c) cs) d ≡ true → has (near c) d ≡ true
        beside d k =
            mutually c d (part_on_board d (kept_has (λ x. has (closed_beside near p x) c) cs d k))
            (kept_has (is_closed p) (near d) c (kept_passes (λ x. has (closed_beside near p x) c) cs d k))

    -- an equation has at most eight cells and a remainder of at most 8
    part_equation_small : (e : BlockEquation) → Memᴰ e (block_of near p cs).equations
        → (leb (length e.cells) 8 && leb e.rest 16) ≡ true
    part_equation_small e m =
        let (d, h, w) = equation_source near p cs e m in
        let is_open : shows p d ≤ 8 = (listed_source near p d (part_has_sources near p cs part d h)).is_open in
        rw (← w)
        (rw (
          le-leb (length (equation_of near p (cells_met near p cs) d).cells) 8
              (omega (arith, equation_few near p cs d h (once d), few d (part_on_board d h))),
          le-leb (equation_of near p (cells_met near p cs) d).rest 16 (omega arith),
        ))

    -- so the block can be combined
    part_combinable : Combinable (block_of near p cs)
    part_combinable = record {
      some = part_some;
      few_cells = omega (arith, nodup_below (length p) (block_of near p cs).cells (block_once near p cs) cell_on_board);
      few_equations =
          omega (arith, ap length (block_equations near p cs), length-map cs (equation_of near p (cells_met near p cs)), part_few);
      below = all_of (λ c. ltb c 1024) (block_of near p cs).cells (λ c m. lt-ltb c 1024 (omega (arith, cell_on_board c (mem_has _ m))));
      once = block_once near p cs;
      inside = all_of (λ (e : BlockEquation). all (has (block_of near p cs).cells) e.cells) (block_of near p cs).equations
          (λ e m. within_all e.cells (block_of near p cs).cells ((block_proper near p cs).within e m));
      equations_once = all_of (λ (e : BlockEquation). nodup e.cells) (block_of near p cs).equations (block_proper near p cs).equations_once;
      equations_small =
          all_of (λ (e : BlockEquation). leb (length e.cells) 8 && leb e.rest 16) (block_of near p cs).equations part_equation_small;
      columns_small =
          all_of (λ c. leb 1 (length (column (block_of near p cs) c)) && leb (length (column (block_of near p cs) c)) 8) (block_of near p cs).cells
          (λ c m. small c (mem_has _ m));
    }
      where
        cell_on_board : (c : ℕ) → has (block_of near p cs).cells c ≡ true → c < length p
        cell_on_board c h = on_board p c (omega (arith, block_closed near p cs c h))

        small : (c : ℕ) → has (block_of near p cs).cells c ≡ true
            → (leb 1 (length (column (block_of near p cs) c)) && leb (length (column (block_of near p cs) c)) 8) ≡ true
        small c h =
            let (e, m, k) = (block_proper near p cs).covered c h in
            rw (
              le-leb 1 (length (column (block_of near p cs) c)) (equation_in_column (block_of near p cs) c e m k),
              le-leb (length (column (block_of near p cs) c)) 8 (column_few c h),
            )

  -- ---- all blocks of the frontier

  pub blocks_combinable : (b : Block) → Memᴰ b (frontier near p) → Combinable b
  blocks_combinable b m = let (cs, k, e) = frontier_part near p b m in rw (← e) (part_combinable cs k)

-- ---- on a board of rows and columns

pub frontier_combinable : (edgeless : Bool) (rows columns : ℕ) (p : List ℕ) → Board p rows columns
    → (b : Block) → Memᴰ b (frontier (neighbours edgeless rows columns) p) → Combinable b
frontier_combinable edgeless rows columns p board =
    blocks_combinable (neighbours edgeless rows columns) p (neighbours_nodup edgeless rows columns)
    (λ c _. neighbours_few edgeless rows columns c)
    (λ c d l h. let on : d < rows * columns = omega (arith, board.whole) in neighbours_mutual edgeless rows columns d c on h)
    (omega (arith, board.whole, few_cells board.sized))

-- so can those that the code reads
pub read_combinable : (edgeless : Bool) (rows columns : ℕ) (p : List ℕ) → Board p rows columns → (set : BlockSet)
    → set ≡ block_set (frontier (neighbours edgeless rows columns) p) → (b : Block) → Memᴰ b (blocks_of set) → Combinable b
read_combinable edgeless rows columns p board set is = rw (read_frontier edgeless rows columns p board set is) (frontier_combinable edgeless rows columns p board)
