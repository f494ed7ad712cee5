-- A layout from its parts: what solves every block of the frontier, with any mines on the inside cells, gives a layout that fits, and its mines are
-- the known ones and those of both parts. The idea: what solves every block gives each open cell with a closed neighbour its number; an open cell
-- without one has its number whatever the closed cells hold, or never: so one layout that fits is asked for. Rests on InsideCells, and JoinedBlocks
-- of the crate frontier. Assumes nothing.
use mathlib.Core.Path.{◌≡◌, ◌∙◌}
use mathlib.Core.Logic.{inl, inr}
use mathlib.Core.Bool.{Bool, true, false}
use mathlib.Core.List.{List}
use Prim.Native.Nat.{ℕ, ◌+◌, ◌≤◌, ◌<◌}
use lib.ListN.{length}
use borrow.Author.Tests.{le-leb}
use Rattle.lists.specs.Lists.{count, empty, has, nodup}
use Rattle.lists.proofs.Tests.{Decided, decided, clash}
use Rattle.lists.proofs.Members.{empty_none}
use Rattle.lists.proofs.Counts.{count_ext}
use Rattle.grid.specs.Cells.{shows}
use Rattle.fitting.specs.Layouts.{mine_at, Fits}
use Rattle.fitting.specs.Equations.{Holds, equation_at}
use Rattle.fitting.proofs.Frontier.{layout_of, layout_at, fits_holds, holds_fits}
use Rattle.fitting.proofs.Blocks.{closed_near}
use Rattle.blocks.specs.BlockSets.{all_cells}
use Rattle.blocks.proofs.ProperBlocks.{block_cell}
use Rattle.frontier.specs.Frontier.{frontier, known_mines}
use Rattle.frontier.proofs.BlockLaws.{frontier_proper}
use Rattle.frontier.proofs.Coverage.{frontier_closed}
use Rattle.frontier.proofs.JoinedBlocks.{SolvesEach, on_cells, same_solves, blocks_solve}
use Rattle.totals.specs.Totals.{is_inside}
use Rattle.totals.proofs.InsideCells.{inside_list, inside_closed, inside_listed, listed_inside, frontier_not_inside, mines_parted}

module _ (near : ℕ → List ℕ) (p : List ℕ) (once : (c : ℕ) → nodup (near c) ≡ true) (few : (c : ℕ) → length (near c) ≤ 8)
    (mutually : (c d : ℕ) → d < length p → has (near d) c ≡ true → has (near c) d ≡ true)
    (some : List Bool) (fit : Fits near p some) where
  -- what solves every block gives a layout that fits
  pub solved_blocks_fit : (f : ℕ → Bool) → SolvesEach f (frontier near p) → Fits near p (layout_of p f)
  solved_blocks_fit f s = holds_fits near p f (λ d o. go d o (decided (empty (closed_near near p d))))
    where
      go : (d : ℕ) → shows p d ≤ 8 → Decided (empty (closed_near near p d)) → Holds f (equation_at near p d)
      go d o (inl e) =
          rw (count_ext f (mine_at some) (closed_near near p d) (λ c h. clash (has (closed_near near p d) c) h (empty_none (closed_near near p d) e c)))
          (fits_holds near p some fit d o)
      go d o (inr e) = blocks_solve near p once few f s d (rw (le-leb (shows p d) 8 o, e))

  module _ (f : ℕ → Bool) (solves : SolvesEach f (frontier near p)) (g : ℕ → Bool) where
    -- f on the frontier, g on the inside cells
    abbrev placing : ℕ → Bool
    placing = on_cells (inside_list near p) g f

    abbrev pub layout_from : List Bool
    layout_from = layout_of p placing

    -- a cell of the frontier is not listed inside
    not_listed : (c : ℕ) → has (all_cells (frontier near p)) c ≡ true → has (inside_list near p) c ≡ false
    not_listed c h = go (decided (has (inside_list near p) c))
      where
        go : Decided (has (inside_list near p) c) → has (inside_list near p) c ≡ false
        go (inl e) = clash (is_inside near p c) (listed_inside near p c e) (frontier_not_inside near p mutually c h)
        go (inr e) = e

    -- the layout fits
    pub layout_from_fits : Fits near p layout_from
    layout_from_fits =
        solved_blocks_fit placing (λ b m. same_solves b (frontier_proper near p b m) placing f
        (λ c h. rw (not_listed c (block_cell (frontier near p) b c m h))) (solves b m))

    -- it has f at the frontier's cells
    pub layout_from_frontier : (c : ℕ) → has (all_cells (frontier near p)) c ≡ true → mine_at layout_from c ≡ f c
    layout_from_frontier c h = layout_at p placing c ∙ rw (frontier_closed near p c h, not_listed c h)

    -- and g at the inside cells
    pub layout_from_inside : (c : ℕ) → is_inside near p c ≡ true → mine_at layout_from c ≡ g c
    layout_from_inside c h = layout_at p placing c ∙ rw (inside_closed near p c h, inside_listed near p c h)

    -- and so the mines of both, and the known ones
    pub layout_from_mines : count (λ x. x) layout_from
        ≡ known_mines p + (count f (all_cells (frontier near p)) + count g (inside_list near p))
    layout_from_mines =
        mines_parted near p mutually layout_from layout_from_fits
        ∙ rw (
          count_ext (mine_at layout_from) f (all_cells (frontier near p)) layout_from_frontier,
          count_ext (mine_at layout_from) g (inside_list near p) (λ c h. layout_from_inside c (listed_inside near p c h)),
        )
