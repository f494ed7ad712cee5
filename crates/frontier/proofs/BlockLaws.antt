-- What stands in a block: its cells are exactly the closed cells beside its sources, none twice; it has one equation for each source, in order, over
-- exactly the closed cells beside that source; and the equation says what the source's own equation says. Of `near`, the neighbours of a cell, the
-- laws ask at most that it lists eight or fewer, none twice. Rests on Partition. Assumes nothing.
use mathlib.Core.Path.{◌≡◌, refl, sym, ◌∙◌}
use mathlib.Core.Logic.{inl, inr, ◌↔◌}
use mathlib.Core.Bool.{Bool, true, ◌&&◌}
use mathlib.Core.List.Memᴰ
use mathlib.Core.List.{List, [], map, Memᴰ}
use Prim.Native.Nat.{ℕ, ◌+◌, ◌≤◌}
use native.Mathlib.Omega.{arith}
use lib.ListN.{length}
use borrow.Author.Tests.{eqb-true}
use Rattle.lists.specs.Lists.{count, any, has, nodup, joined}
use Rattle.lists.proofs.Tests.{Decided, decided}
use Rattle.lists.proofs.Members.{has_keep, nodup_keep, kept_passes}
use Rattle.lists.proofs.Counts.{count_le, count_same, length_keep, any_at, any_of}
use Rattle.lists.proofs.Rearranged.{Rearranged, rearranged_length}
use Rattle.lists.proofs.Unions.{mem_has, has_mem, has_joined_map, has_add_new, nodup_add_new}
use Rattle.grid.specs.Cells.{shows}
use Rattle.fitting.specs.Equations.{Holds, is_closed, is_known_mine, equation_at}
use Rattle.blocks.specs.Blocks.{BlockEquation, Block, says}
use Rattle.blocks.specs.BlockSets.{all_equations}
use Rattle.blocks.proofs.ProperBlocks.{equation_block, Proper}
use Rattle.sources.specs.Sources.{closed_beside}
use Rattle.sources.proofs.ListedSources.{listed_source}
use Rattle.growth.proofs.Partition.{parts, part_has_sources}
use Rattle.frontier.specs.Frontier.{equation_of, cells_met, block_of, frontier}

-- where an equation of the frontier comes from: a source in a part of the sources
pub record Origin (near : ℕ → List ℕ) (p : List ℕ) (e : BlockEquation) : Type 0 where
  pub part : List ℕ
  pub source : ℕ
  pub of_frontier : Memᴰ part (parts near p)
  pub of_part : has part source ≡ true
  pub same : e ≡ equation_of near p (cells_met near p part) source

module _ (near : ℕ → List ℕ) (p : List ℕ) where
  -- ---- the closed cells beside a source, and its remainder

  -- they are closed
  pub beside_closed : (d c : ℕ) → has (closed_beside near p d) c ≡ true → shows p c ≡ 10
  beside_closed d c h = eqb-true (shows p c) 10 (kept_passes (is_closed p) (near d) c h)

  -- and no more than the neighbours
  pub beside_few : (d : ℕ) → length (closed_beside near p d) ≤ length (near d)
  beside_few d = omega (arith, length_keep (is_closed p) (near d), count_le (is_closed p) (near d))

  -- the remainder and the known mines make the number; a remainder is counted from 8
  pub equation_rest : (cells : List ℕ) (c : ℕ) → count (is_known_mine p) (near c) ≤ 8
      → (equation_of near p cells c).rest + count (is_known_mine p) (near c) ≡ shows p c + 8
  equation_rest cells c h = omega arith

  module _ (cs : List ℕ) where
    -- ---- the cells of the block of some sources

    -- they are the cells met
    pub block_cells : (block_of near p cs).cells ≡ cells_met near p cs
    unfolding block_of
    block_cells = refl

    -- a cell is one of them exactly where it is closed and stands beside a source
    pub block_has : (c : ℕ) → has (block_of near p cs).cells c ≡ any (λ d. has (closed_beside near p d) c) cs
    unfolding block_of
    block_has c = has_add_new [] (joined (map (closed_beside near p) cs)) c ∙ has_joined_map (closed_beside near p) cs c

    -- so it has a source beside it
    pub block_cell_source : (c : ℕ) → has (block_of near p cs).cells c ≡ true
        → (d : ℕ) × (has cs d ≡ true) × (has (closed_beside near p d) c ≡ true)
    block_cell_source c h = any_at (λ d. has (closed_beside near p d) c) cs (sym (block_has c) ∙ h)

    -- and a closed cell beside a source is one of them
    pub source_block_cell : (d c : ℕ) → has cs d ≡ true → has (closed_beside near p d) c ≡ true → has (block_of near p cs).cells c ≡ true
    source_block_cell d c h k = block_has c ∙ any_of (λ e. has (closed_beside near p e) c) cs d h k

    -- they are closed
    pub block_closed : (c : ℕ) → has (block_of near p cs).cells c ≡ true → shows p c ≡ 10
    block_closed c h = let (d, a, b) = block_cell_source c h in beside_closed d c b

    -- none twice
    pub block_once : nodup (block_of near p cs).cells ≡ true
    unfolding block_of
    block_once = nodup_add_new [] (joined (map (closed_beside near p) cs)) refl

    -- ---- its equations

    -- one for each source, in order
    pub block_equations : (block_of near p cs).equations ≡ map (equation_of near p (cells_met near p cs)) cs
    unfolding block_of
    block_equations = refl

    -- so each is the equation of a source
    pub equation_source : (e : BlockEquation) → Memᴰ e (block_of near p cs).equations
        → (c : ℕ) × (has cs c ≡ true) × (equation_of near p (cells_met near p cs) c ≡ e)
    unfolding block_of
    equation_source e m = let (c, n, w) = Memᴰ.of_map (equation_of near p (cells_met near p cs)) cs m in (c, mem_has cs n, w)

    -- and each source has its equation there
    pub source_equation : (c : ℕ) → has cs c ≡ true → Memᴰ (equation_of near p (cells_met near p cs) c) (block_of near p cs).equations
    unfolding block_of
    source_equation c h = Memᴰ.map (equation_of near p (cells_met near p cs)) (has_mem cs c h)

    -- ---- the equation of a source of the block

    module _ (c : ℕ) (here : has cs c ≡ true) where
      abbrev equation : BlockEquation
      equation = equation_of near p (cells_met near p cs) c

      -- its cells are exactly the closed cells beside the source
      pub equation_has : (x : ℕ) → has equation.cells x ≡ has (closed_beside near p c) x
      unfolding block_of
      equation_has x = has_keep (has (closed_beside near p c)) (cells_met near p cs) x ∙ go (decided (has (closed_beside near p c) x))
        where
          go : Decided (has (closed_beside near p c) x)
              → (has (closed_beside near p c) x && has (cells_met near p cs) x) ≡ has (closed_beside near p c) x
          go (inl e) = rw (e, source_block_cell c x here e)
          go (inr e) = rw e

      -- none twice
      pub equation_once : nodup equation.cells ≡ true
      unfolding block_of
      equation_once = nodup_keep (has (closed_beside near p c)) (cells_met near p cs) block_once

      -- and so the same cells in another order
      pub equation_rearranged : nodup (near c) ≡ true → Rearranged equation.cells (closed_beside near p c)
      equation_rearranged once f =
          count_same f equation.cells (closed_beside near p c) equation_once (nodup_keep (is_closed p) (near c) once) equation_has

      -- no more than the neighbours
      pub equation_few : nodup (near c) ≡ true → length equation.cells ≤ length (near c)
      equation_few once = omega (arith, rearranged_length equation.cells (closed_beside near p c) (equation_rearranged once), beside_few c)

      -- what solves it solves the equation of the open cell c, and the other way round
      pub equation_says : nodup (near c) ≡ true → length (near c) ≤ 8
          → (f : ℕ → Bool) → Holds f (says equation) ↔ Holds f (equation_at near p c)
      equation_says once few f = (
        λ h. omega (arith, equation_rearranged once f, count_le (is_known_mine p) (near c)),
        λ h. omega (arith, equation_rearranged once f, count_le (is_known_mine p) (near c)),
      )

    -- the block of any sources is as it should be
    pub block_proper : Proper (block_of near p cs)
    unfolding block_of
    block_proper = record {
      once = block_once;
      equations_once = λ e m. let (d, h, w) = equation_source e m in rw (sym w) (equation_once d h);
      within = λ e m c k. let (d, h, w) = equation_source e m in
          source_block_cell d c h (sym (equation_has d h c) ∙ rw (sym w) at k);
      covered = λ c k. let (d, h, x) = block_cell_source c k in
          (equation_of near p (cells_met near p cs) d, source_equation d h, equation_has d h c ∙ x);
    }

  -- ---- the blocks of the frontier

  -- each is the block of one part of the sources
  pub frontier_part : (b : Block) → Memᴰ b (frontier near p)
      → (cs : List ℕ) × Memᴰ cs (parts near p) × (block_of near p cs ≡ b)
  unfolding frontier
  frontier_part b m = Memᴰ.of_map (block_of near p) (parts near p) m

  -- so each is as it should be
  pub frontier_proper : (b : Block) → Memᴰ b (frontier near p) → Proper b
  frontier_proper b m = let (cs, k, e) = frontier_part b m in rw (← e) (block_proper cs)

  -- so each equation has an origin
  pub equation_origin : (e : BlockEquation) → Memᴰ e (all_equations (frontier near p)) → Origin near p e
  equation_origin e m =
      let (b, x, y) = equation_block (frontier near p) e m in
      let (cs, k, u) = frontier_part b x in
      let (c, h, w) = equation_source cs e (rw u y) in
      record { part = cs; source = c; of_frontier = k; of_part = h; same = sym w }

  -- its source is open
  pub origin_open : (e : BlockEquation) (o : Origin near p e) → shows p o.source ≤ 8
  origin_open e o = (listed_source near p o.source (part_has_sources near p o.part o.of_frontier o.source o.of_part)).is_open

  -- its cells are closed
  pub origin_closed : (e : BlockEquation) → Origin near p e → (c : ℕ) → has e.cells c ≡ true → shows p c ≡ 10
  origin_closed e o c h = beside_closed o.source c (sym (equation_has o.part o.source o.of_part c) ∙ rw o.same at h)

  -- none stands twice
  pub origin_once : (e : BlockEquation) → Origin near p e → nodup e.cells ≡ true
  origin_once e o = rw o.same (equation_once o.part o.source o.of_part)
