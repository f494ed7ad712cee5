-- The frontier as a whole: its cells are exactly the closed cells beside an open one, each in one block, once. Cells and equations are together at
-- most as many as the board has cells, since a cell is closed and a source open; so the frontier of a board of 1,024 cells fits into a block set.
-- Rests on Partition and BlockLaws. Assumes nothing.
use mathlib.Core.Path.{◌≡◌, refl, sym, ap, ◌∙◌}
use mathlib.Core.Logic.{◌⊎◌, inl, inr}
use mathlib.Core.Bool.{Bool, true, false}
use mathlib.Core.List.{List, [], ◌∷◌, ◌++◌, map}
use Prim.Native.Nat.{ℕ, ◌+◌, ◌≤◌, ◌<◌}
use native.Mathlib.Omega.{arith}
use lib.Dec.{ltb}
use lib.ListN.{length, length-append, length-map}
use borrow.Author.Tests.{eq-eqb, le-leb, lt-ltb}
use Rattle.lists.specs.Lists.{any, has, nodup, joined}
use Rattle.lists.proofs.Tests.{Decided, decided, clash}
use Rattle.lists.proofs.Members.{has_not_empty, has_append, kept_has, has_kept, nodup_append}
use Rattle.lists.proofs.Counts.{any_at, any_of}
use Rattle.lists.proofs.Rearranged.{rearranged_any, rearranged_length, nodup_below}
use Rattle.lists.proofs.Unions.{any_append, all_of, append_cases, mem_has, meets_of}
use Rattle.grid.specs.Cells.{shows}
use Rattle.fitting.specs.Equations.{is_closed}
use Rattle.fitting.proofs.Layouts.{on_board}
use Rattle.blocks.specs.Blocks.{BlockEquation}
use Rattle.blocks.specs.BlockSets.{all_cells, all_equations, small_equation, Small}
use Rattle.sources.specs.Sources.{closed_beside, sources, shares}
use Rattle.sources.proofs.ListedSources.{listed_source, source_listed, sources_once}
use Rattle.growth.proofs.Partition.{Separate, parts, parts_rearranged, parts_separate, parts_few}
use Rattle.frontier.specs.Frontier.{equation_of, cells_met, block_of, frontier}
use Rattle.frontier.proofs.BlockLaws.{beside_closed, block_has, block_once, block_equations, block_cell_source, equation_few, Origin, equation_origin, origin_open, origin_closed}

module _ (near : ℕ → List ℕ) (p : List ℕ) where
  -- a closed cell is on the board
  closed_on_board : (c : ℕ) → shows p c ≡ 10 → c < length p
  closed_on_board c e = on_board p c (omega arith)

  -- the open cell d has the closed cell c beside it
  abbrev beside_of : ℕ → ℕ → Bool
  beside_of c d = has (closed_beside near p d) c

  -- ---- the blocks of some lists of sources

  abbrev cells_of : List (List ℕ) → List ℕ
  cells_of ls = all_cells (map (block_of near p) ls)

  -- a cell is of one of the blocks exactly where it is a closed cell beside one of the sources
  blocks_have : (ls : List (List ℕ)) (c : ℕ) → has (cells_of ls) c ≡ any (beside_of c) (joined ls)
  blocks_have [] c = refl
  blocks_have (cs ∷ ls) c =
      has_append (block_of near p cs).cells (cells_of ls) c
      ∙ rw (block_has near p cs c, blocks_have ls c) (sym (any_append (beside_of c) cs (joined ls)))

  -- where no two lists share a closed cell, no cell stands twice
  blocks_once : (ls : List (List ℕ)) → Separate near p ls → nodup (cells_of ls) ≡ true
  blocks_once [] s = refl
  blocks_once (cs ∷ ls) s =
      nodup_append (block_of near p cs).cells (cells_of ls) (block_once near p cs) (blocks_once ls s.1)
      (λ c h. go c h (decided (has (cells_of ls) c)))
    where
      go : (c : ℕ) → has (block_of near p cs).cells c ≡ true → Decided (has (cells_of ls) c) → has (cells_of ls) c ≡ false
      go c h (inr e) = e
      go c h (inl e) =
          let (a, x, u) = block_cell_source near p cs c h in
          let (b, y, w) = any_at (beside_of c) (joined ls) (sym (blocks_have ls c) ∙ e) in
          clash (shares near p a b) (meets_of (closed_beside near p a) (closed_beside near p b) c u w) (s.0 a b x y)

  -- there are as many equations as sources
  blocks_equations : (ls : List (List ℕ)) → length (all_equations (map (block_of near p) ls)) ≡ length (joined ls)
  blocks_equations [] = refl
  blocks_equations (cs ∷ ls) =
      omega (
        arith,
        length-append (block_of near p cs).equations (all_equations (map (block_of near p) ls)),
        ap length (block_equations near p cs) ∙ length-map cs (equation_of near p (cells_met near p cs)),
        blocks_equations ls,
        length-append cs (joined ls),
      )

  -- ---- the cells of the frontier

  -- a cell is one of them exactly where it is closed and stands beside a source
  pub frontier_has : (c : ℕ) → has (all_cells (frontier near p)) c ≡ any (λ d. has (closed_beside near p d) c) (sources near p)
  unfolding frontier
  frontier_has c =
      blocks_have (parts near p) c ∙ rearranged_any (joined (parts near p)) (sources near p) (parts_rearranged near p) (beside_of c)

  frontier_source : (c : ℕ) → has (all_cells (frontier near p)) c ≡ true
      → (d : ℕ) × (has (sources near p) d ≡ true) × (has (closed_beside near p d) c ≡ true)
  frontier_source c h = any_at (beside_of c) (sources near p) (sym (frontier_has c) ∙ h)

  -- so a cell of the frontier is closed
  pub frontier_closed : (c : ℕ) → has (all_cells (frontier near p)) c ≡ true → shows p c ≡ 10
  frontier_closed c h = let (d, x, y) = frontier_source c h in beside_closed near p d c y

  -- and stands beside an open one
  pub frontier_beside_open : (c : ℕ) → has (all_cells (frontier near p)) c ≡ true
      → (d : ℕ) × (shows p d ≤ 8) × (has (near d) c ≡ true)
  frontier_beside_open c h = let (d, x, y) = frontier_source c h in
      (d, (listed_source near p d x).is_open, kept_has (is_closed p) (near d) c y)

  -- and each such cell is of the frontier
  pub beside_open_frontier : (c d : ℕ) → shows p c ≡ 10 → shows p d ≤ 8 → has (near d) c ≡ true
      → has (all_cells (frontier near p)) c ≡ true
  beside_open_frontier c d closed is_open h =
      frontier_has c
      ∙ any_of (beside_of c) (sources near p) d (source_listed near p d is_open (has_not_empty (closed_beside near p d) c beside)) beside
    where
      beside : has (closed_beside near p d) c ≡ true
      beside = has_kept (is_closed p) (near d) c (eq-eqb (shows p c) 10 closed) h

  -- it stands in one block of it, once
  pub frontier_once : nodup (all_cells (frontier near p)) ≡ true
  unfolding frontier
  frontier_once = blocks_once (parts near p) (parts_separate near p)

  -- ---- the size of the frontier

  -- an equation for each source
  pub frontier_equations : length (all_equations (frontier near p)) ≡ length (sources near p)
  unfolding frontier
  frontier_equations =
      blocks_equations (parts near p) ∙ rearranged_length (joined (parts near p)) (sources near p) (parts_rearranged near p)

  -- at most as many blocks as cells on the board
  pub frontier_blocks : length (frontier near p) ≤ length p
  unfolding frontier
  frontier_blocks = omega (arith, length-map (parts near p) (block_of near p), parts_few near p)

  -- its cells and equations together are at most as many
  pub frontier_size : length (all_cells (frontier near p)) + length (all_equations (frontier near p)) ≤ length p
  frontier_size =
      omega (
        arith,
        frontier_equations,
        length-append (all_cells (frontier near p)) (sources near p),
        nodup_below (length p) (all_cells (frontier near p) ++ sources near p)
            (nodup_append (all_cells (frontier near p)) (sources near p) frontier_once (sources_once near p) (λ c h. apart c h (decided _)))
            (λ c h. below c (append_cases (all_cells (frontier near p)) (sources near p) c h)),
      )
    where
      apart : (c : ℕ) → has (all_cells (frontier near p)) c ≡ true → Decided (has (sources near p) c) → has (sources near p) c ≡ false
      apart c h (inl e) = absurd (omega (arith, frontier_closed c h, (listed_source near p c e).is_open))
      apart c h (inr e) = e

      below : (c : ℕ) → (has (all_cells (frontier near p)) c ≡ true) ⊎ (has (sources near p) c ≡ true) → c < length p
      below c (inl h) = closed_on_board c (frontier_closed c h)
      below c (inr h) = (listed_source near p c h).on_board

  -- ---- the frontier fits into a block set

  module _ (once : (c : ℕ) → nodup (near c) ≡ true) (few : (c : ℕ) → c < length p → length (near c) ≤ 8) (sized : length p ≤ 1024) where
    -- the number of a closed cell is below 1,024
    closed_small : (c : ℕ) → shows p c ≡ 10 → ltb c 1024 ≡ true
    closed_small c e = lt-ltb c 1024 (omega (arith, closed_on_board c e))

    -- an equation has at most eight cells and a remainder that fits a byte
    equation_small : (e : BlockEquation) → Origin near p e → small_equation e ≡ true
    equation_small e o =
        rw (
          le-leb (length e.cells) 8 few_cells,
          all_of (λ c. ltb c 1024) e.cells (λ c m. closed_small c (origin_closed near p e o c (mem_has e.cells m))),
          lt-ltb e.rest 256 small_rest,
        )
      where
        few_beside : length (near o.source) ≤ 8
        few_beside = few o.source (on_board p o.source (omega (arith, origin_open near p e o)))

        few_cells : length e.cells ≤ 8
        few_cells = rw o.same (omega (arith, equation_few near p o.part o.source o.of_part (once o.source), few_beside))

        small_rest : e.rest < 256
        small_rest = rw o.same (omega (arith, origin_open near p e o))

    -- so the blocks fit
    pub frontier_small : Small (frontier near p)
    frontier_small = record {
      few_cells = omega (arith, frontier_size);
      few_equations = omega (arith, frontier_size);
      few_blocks = omega (arith, frontier_blocks);
      on_board = all_of (λ c. ltb c 1024) (all_cells (frontier near p)) (λ c m. closed_small c (frontier_closed c (mem_has _ m)));
      small = all_of small_equation (all_equations (frontier near p)) (λ e m. equation_small e (equation_origin near p e m));
    }
