-- All blocks of the frontier at once. Mines that give each open cell with a closed neighbour its number solve every block, and the other way round; and where
-- each block is solved by mines of its own, these join into one placing that solves them all, since no cell stands in two blocks. `near` lists at most
-- eight neighbours of a cell, none twice. Rests on BlockLaws, Coverage and Fitting, and on Partition of the crate growth. Assumes nothing.
use mathlib.Core.Path.{◌≡◌, refl, sym, subst}
use mathlib.Core.Logic.{◌⊎◌, inl, inr}
use mathlib.Core.Bool.{Bool, true, false, not, cond}
use mathlib.Core.List.Memᴰ
use mathlib.Core.List.{List, [], ◌∷◌, Memᴰ}
use Prim.Native.Nat.{ℕ, ◌≤◌}
use lib.Dec.{leb}
use lib.ListN.{length}
use borrow.Author.Tests.{leb-true, not-true}
use Rattle.lists.specs.Lists.{empty, has, nodup}
use Rattle.lists.proofs.Tests.{Decided, decided, clash, and_left, and_right}
use Rattle.lists.proofs.Counts.{count_ext}
use Rattle.lists.proofs.Among.{among_right, among_nodup}
use Rattle.lists.proofs.TurnedRound.{nodup_apart}
use Rattle.grid.specs.Cells.{shows}
use Rattle.blocks.specs.Blocks.{Block}
use Rattle.blocks.specs.BlockSets.{all_cells}
use Rattle.blocks.proofs.ProperBlocks.{Proper, block_cell, block_equation_lem, Solves}
use Rattle.sources.specs.Sources.{closed_beside, is_source, sources}
use Rattle.sources.proofs.ListedSources.{source_listed}
use Rattle.growth.proofs.Partition.{source_in_part}
use Rattle.frontier.specs.Frontier.{equation_of, cells_met, block_of, frontier}
use Rattle.frontier.proofs.BlockLaws.{source_equation, equation_says, frontier_proper}
use Rattle.frontier.proofs.Coverage.{frontier_once}
use Rattle.frontier.proofs.Fitting.{SolvesSources, sources_solve}

-- mines placed as f says solve each of some blocks
abbrev pub SolvesEach : (ℕ → Bool) → List Block → Type 0
SolvesEach f bs = (b : Block) → Memᴰ b bs → Solves f b

-- ---- blocks that share no cell

-- what is the same at the cells of a block solves it too
pub same_solves : (b : Block) → Proper b → (f g : ℕ → Bool) → ((c : ℕ) → has b.cells c ≡ true → f c ≡ g c) → Solves g b → Solves f b
same_solves b proper f g same s i = rw (count_ext f g i.0.cells (λ c h. same c (proper.within i.0 i.1 c h))) (s i)

-- g at some cells, and h elsewhere
abbrev pub on_cells : List ℕ → (ℕ → Bool) → (ℕ → Bool) → ℕ → Bool
on_cells cells g h c = cond (has cells c) (g c) (h c)

-- each block is solved, and no cell stands twice: then something solves all
pub solutions_join : (bs : List Block) → ((b : Block) → Memᴰ b bs → Proper b) → nodup (all_cells bs) ≡ true
    → ((b : Block) → Memᴰ b bs → (f : ℕ → Bool) × Solves f b) → (f : ℕ → Bool) × SolvesEach f bs
solutions_join [] proper once each = (λ _. false, λ b m. absurd (Memᴰ.not-nil m))
solutions_join (b ∷ bs) proper once each =
    let (g, s) = each b (Memᴰ.head refl) in
    let (h, t) = solutions_join bs (λ x m. proper x (Memᴰ.tail m)) (among_nodup (all_cells bs) (all_cells (b ∷ bs)) (among_right b.cells (all_cells bs)) once)
    (λ x m. each x (Memᴰ.tail m)) in
    (on_cells b.cells g h, λ x m. go g s h t x (Memᴰ.cases_cons m))
  where
    -- a cell of another block is none of this one
    other : (x : Block) → Memᴰ x bs → (c : ℕ) → has x.cells c ≡ true → has b.cells c ≡ false
    other x m c k = out (decided (has b.cells c))
      where
        out : Decided (has b.cells c) → has b.cells c ≡ false
        out (inl e) = clash (has (all_cells bs) c) (block_cell bs x c m k) (nodup_apart b.cells (all_cells bs) once c e)
        out (inr e) = e

    go : (g : ℕ → Bool) → Solves g b → (h : ℕ → Bool) → SolvesEach h bs
        → (x : Block) → (x ≡ b) ⊎ Memᴰ x bs → Solves (on_cells b.cells g h) x
    go g s h t x (inl e) =
        subst (λ (y : Block). Solves (on_cells b.cells g h) y) (sym e)
        (same_solves b (proper b (Memᴰ.head refl)) (on_cells b.cells g h) g (λ c k. rw k) s)
    go g s h t x (inr m) = same_solves x (proper x (Memᴰ.tail m)) (on_cells b.cells g h) h (λ c k. rw (other x m c k)) (t x m)

-- ---- the blocks of a frontier

module _ (near : ℕ → List ℕ) (p : List ℕ) (once : (c : ℕ) → nodup (near c) ≡ true) (few : (c : ℕ) → length (near c) ≤ 8) where
  -- what passes the test of a source is one
  passes_listed : (d : ℕ) → is_source near p d ≡ true → has (sources near p) d ≡ true
  passes_listed d h =
      source_listed near p d (leb-true (shows p d) 8 (and_left (leb (shows p d) 8) (not (empty (closed_beside near p d))) h))
      (not-true _ (and_right (leb (shows p d) 8) (not (empty (closed_beside near p d))) h))

  -- what gives each open cell with a closed neighbour its number solves every block
  pub sources_solve_blocks : (f : ℕ → Bool) → SolvesSources near p f → SolvesEach f (frontier near p)
  sources_solve_blocks f s b k i = sources_solve near p once few f s i.0 (block_equation_lem (frontier near p) b i.0 k i.1)

  -- and what solves every block gives each its number
  pub blocks_solve : (f : ℕ → Bool) → SolvesEach f (frontier near p) → SolvesSources near p f
  unfolding frontier
  blocks_solve f s d h =
      let (cs, n, k) = source_in_part near p d (passes_listed d h) in
      (equation_says near p cs d k (once d) (few d) f).0
      (s (block_of near p cs) (Memᴰ.map (block_of near p) n) (equation_of near p (cells_met near p cs) d, source_equation near p cs d k))

  -- where each block is solved by mines of its own, some mines give each open cell with a closed neighbour its number
  pub blocks_joined : ((b : Block) → Memᴰ b (frontier near p) → (f : ℕ → Bool) × Solves f b) → (f : ℕ → Bool) × SolvesSources near p f
  blocks_joined each =
      let (f, s) = solutions_join (frontier near p) (frontier_proper near p) (frontier_once near p) each in
      (f, blocks_solve f s)
