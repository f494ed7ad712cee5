-- The frontier and the layouts that fit: mines that give each open cell with a closed neighbour its number, as those of a layout that fits do, solve every
-- equation of the frontier; and where one layout fits, each solution of a block is part of a layout that fits, since blocks share no closed cell. So a
-- block alone tells which of its cells are forced. `near` lists at most eight neighbours of a cell, none twice. Rests on Partition, on BlockLaws, and on
-- Frontier and Blocks of the crate fitting. Assumes nothing.
use mathlib.Core.Path.{◌≡◌, subst, ◌∙◌}
use mathlib.Core.Logic.{◌⊎◌, inl, inr}
use mathlib.Core.Bool.{Bool, true, false, not, cond}
use mathlib.Core.List.{List, Memᴰ}
use Prim.Native.Nat.{ℕ, ◌≤◌}
use lib.Dec.{leb}
use lib.ListN.{length}
use borrow.Author.Tests.{leb-true}
use Rattle.lists.specs.Lists.{range, empty, has, nodup}
use Rattle.lists.proofs.Tests.{Decided, decided, clash, and_left}
use Rattle.lists.proofs.Members.{empty_none, kept_passes}
use Rattle.lists.proofs.Unions.{meets_of}
use Rattle.grid.specs.Cells.{shows}
use Rattle.fitting.specs.Layouts.{mine_at, Fits, Forced}
use Rattle.fitting.specs.Equations.{Holds, equation_at}
use Rattle.fitting.proofs.Frontier.{layout_of, layout_at, fits_holds}
use Rattle.fitting.proofs.Blocks.{Around, part_fits}
use Rattle.blocks.specs.Blocks.{BlockEquation, Block, says}
use Rattle.blocks.specs.BlockSets.{all_equations}
use Rattle.blocks.proofs.ProperBlocks.{block_equation_lem, Solves}
use Rattle.sources.specs.Sources.{closed_beside, is_source, sources}
use Rattle.sources.proofs.ListedSources.{source_listed}
use Rattle.growth.proofs.Partition.{parts, part_has_sources, sharing_together}
use Rattle.frontier.specs.Frontier.{equation_of, cells_met, block_of, frontier}
use Rattle.frontier.proofs.BlockLaws.{block_cell_source, source_block_cell, block_closed, source_equation, equation_says, frontier_part, Origin, equation_origin}

-- they solve the equation of each open cell with a closed neighbour
abbrev pub SolvesSources : (ℕ → List ℕ) → List ℕ → (ℕ → Bool) → Type 0
SolvesSources near p f = (d : ℕ) → is_source near p d ≡ true → Holds f (equation_at near p d)

-- the layout with g on the cells of a block, and m elsewhere
abbrev pub spliced : List ℕ → Block → (ℕ → Bool) → List Bool → List Bool
spliced p b g m = layout_of p (λ c. cond (has b.cells c) (g c) (mine_at m c))

module _ (near : ℕ → List ℕ) (p : List ℕ) (once : (c : ℕ) → nodup (near c) ≡ true) (few : (c : ℕ) → length (near c) ≤ 8) where
  -- a source passes the test of one
  source_passes : (d : ℕ) → has (sources near p) d ≡ true → is_source near p d ≡ true
  unfolding sources
  source_passes d h = kept_passes (is_source near p) (range 0 (length p)) d h

  -- mines that give each open cell with a closed neighbour its number solve every equation of the frontier
  pub sources_solve : (f : ℕ → Bool) → SolvesSources near p f → (e : BlockEquation) → Memᴰ e (all_equations (frontier near p)) → Holds f (says e)
  sources_solve f s e k = go (equation_origin near p e k)
    where
      go : Origin near p e → Holds f (says e)
      go o =
          rw o.same
          ((equation_says near p o.part o.source o.of_part (once o.source) (few o.source) f).1
          (s o.source (source_passes o.source (part_has_sources near p o.part o.of_frontier o.source o.of_part))))

  -- as those of a layout that fits do
  pub fits_sources : (m : List Bool) → Fits near p m → SolvesSources near p (mine_at m)
  fits_sources m f d h = fits_holds near p m f d (leb-true (shows p d) 8 (and_left (leb (shows p d) 8) (not (empty (closed_beside near p d))) h))

  -- so a layout that fits solves every equation of the frontier
  pub fits_solves : (m : List Bool) → Fits near p m
      → (e : BlockEquation) → Memᴰ e (all_equations (frontier near p)) → Holds (mine_at m) (says e)
  fits_solves m f = sources_solve (mine_at m) (fits_sources m f)

  -- ---- the sources of one part

  module _ (cs : List ℕ) (part : Memᴰ cs (parts near p)) where
    abbrev inside : ℕ → Bool
    inside = has (block_of near p cs).cells

    -- a closed cell beside a source of another part isn't of the block
    outside : (d c : ℕ) → has (sources near p) d ≡ true → has cs d ≡ false → has (closed_beside near p d) c ≡ true → inside c ≡ false
    outside d c s n h = go (decided (inside c))
      where
        go : Decided (inside c) → inside c ≡ false
        go (inr e) = e
        go (inl e) = let (a, x, y) = block_cell_source near p cs c e in
            clash (has cs d) (sharing_together near p cs part a d x s (meets_of (closed_beside near p a) (closed_beside near p d) c y h)) n

    part_solutions_fit : (m : List Bool) → Fits near p m → (g : ℕ → Bool) → Solves g (block_of near p cs)
        → Fits near p (spliced p (block_of near p cs) g m)
    part_solutions_fit m f g s =
        part_fits near p inside m f g (λ d o. side d o (decided (empty (closed_beside near p d))) (decided (has cs d)))
      where
        side : (d : ℕ) → shows p d ≤ 8 → Decided (empty (closed_beside near p d)) → Decided (has cs d)
            → (Around near p inside d true × Holds g (equation_at near p d)) ⊎ Around near p inside d false
        side d o (inl e) t = inr (λ c h. clash (has (closed_beside near p d) c) h (empty_none (closed_beside near p d) e c))
        side d o (inr e) (inl t) = inl (
          λ c h. source_block_cell near p cs d c t h,
          (equation_says near p cs d t (once d) (few d) g).0 (s (equation_of near p (cells_met near p cs) d, source_equation near p cs d t)),
        )
        side d o (inr e) (inr t) = inr (λ c h. outside d c (source_listed near p d o e) t h)

  -- ---- one block

  module _ (b : Block) (block : Memᴰ b (frontier near p)) where
    -- a layout that fits solves the block
    pub fits_solves_block : (m : List Bool) → Fits near p m → Solves (mine_at m) b
    fits_solves_block m f i = fits_solves m f i.0 (block_equation_lem (frontier near p) b i.0 block i.1)

    -- so a cell that is the same in every solution of the block is forced
    pub solutions_force : (c : ℕ) (v : Bool) → ((g : ℕ → Bool) → Solves g b → g c ≡ v) → Forced near p c v
    solutions_force c v h m f = h (mine_at m) (fits_solves_block m f)

    -- a solution of the block, with a layout that fits elsewhere, fits
    pub solutions_fit : (m : List Bool) → Fits near p m → (g : ℕ → Bool) → Solves g b → Fits near p (spliced p b g m)
    solutions_fit m f g = let (cs, n, e) = frontier_part near p b block in
        subst (λ (x : Block). Solves g x → Fits near p (spliced p x g m)) e (part_solutions_fit cs n m f g)

    -- and at a cell of the block it has what the solution has
    pub spliced_at : (m : List Bool) (g : ℕ → Bool) (c : ℕ) → has b.cells c ≡ true → mine_at (spliced p b g m) c ≡ g c
    spliced_at m g c h = layout_at p (λ d. cond (has b.cells d) (g d) (mine_at m d)) c ∙ rw (closed, h)
      where
        closed : shows p c ≡ 10
        closed = let (cs, n, e) = frontier_part near p b block in block_closed near p cs c (rw e h)

    -- so what a solution of the block has at a cell of it, some layout that fits has there
    pub solutions_allow : (m : List Bool) → Fits near p m → (g : ℕ → Bool) → Solves g b
        → (c : ℕ) → has b.cells c ≡ true → (w : List Bool) × Fits near p w × (mine_at w c ≡ g c)
    solutions_allow m f g s c h = (spliced p b g m, solutions_fit m f g s, spliced_at m g c h)
