-- The fourth rule on a board of rows and columns: what is known of the blocks that are read, how small the numbers are, and what the lists are that the three steps
-- leave. Rests on FoundByTotal and on what is known of the neighbours. Assumes nothing.
use mathlib.Core.Path.{◌≡◌, ap, ◌∙◌, subst}
use mathlib.Core.Bool.{Bool, true, ◌&&◌}
use mathlib.Core.List.{List, ◌∷◌}
use Prim.Native.Nat.{ℕ, ◌-◌, ◌*◌, ◌≤◌, ◌<◌}
use native.Mathlib.Omega.{arith}
use lib.Dec.{leb, eqb}
use lib.ListN.{length, get_or, replicate, length-replicate, get_or-replicate}
use Rattle.lists.specs.Lists.{range, keep, bit, count, has, nodup}
use Rattle.lists.proofs.Counts.{count_le}
use Rattle.lists.proofs.Collected.{keep_few}
use Rattle.lists.proofs.Elements.{replicate_all}
use Rattle.lists.proofs.Rearranged.{length_range}
use Rattle.grid.specs.Window.{neighbours, Board}
use Rattle.grid.proofs.Neighbours.{neighbours_nodup, neighbours_few, neighbours_mutual}
use Rattle.grid.proofs.Places.{few_cells}
use Rattle.fitting.specs.Layouts.{Fits, of_total}
use Rattle.fitting.specs.Equations.{is_closed}
use Rattle.fitting.specs.ForcedCells.{forced_cells}
use Rattle.blocks.specs.BlockSets.{all_cells, blocks_of, block_set}
use Rattle.blocks.specs.declared.BlockSet.{BlockSet}
use Rattle.frontier.specs.Frontier.{frontier, inside_cells, known_mines}
use Rattle.frontier.proofs.Coverage.{frontier_once}
use Rattle.frontier.proofs.ReadFrontier.{read_frontier, read_whole}
use Rattle.blocks.proofs.Behind.{blocks_held}
use Rattle.totals.specs.Totals.{up_to, sums_to, is_inside, mines_left}
use Rattle.totals.specs.Joining.{counts_but}
use Rattle.totals.proofs.InsideCells.{known_at_most, inside_length}
use Rattle.total_rule.specs.Cells.{Filled}
use Rattle.total_rule.specs.Blocks.{TableBelow, CountsHeld, CellsTold, mine_shown, free_shown, mine_stage, free_stage}
use Rattle.total_rule.proofs.CountedBlocks.{Stages}
use Rattle.total_rule.proofs.FoundByTotal.{inner_sums, found_safe, found_mines}

-- a table without a tag
pub table_empty : TableBelow 1 (record { tags = replicate 8192 0; keys = replicate 8192 0; results = replicate 8192 0 })
table_empty = record {
  whole = (length-replicate {A = ℕ} 8192 0, length-replicate {A = ℕ} 8192 0, length-replicate {A = ℕ} 8192 0);
  below = replicate_all (λ i v. v < 1) 8192 0 0 (λ i h. omega arith) (λ i h. omega arith);
}

-- every cell untold
pub untold : (c : ℕ) → c < 1024 → ◌≡◌ {A = ℕ} (get_or (replicate 1024 2) c 0) 2
untold c h = get_or-replicate 1024 c 2 0 h

module _ (edgeless : Bool) (rows columns : ℕ) (p : List ℕ) (board : Board p rows columns) where
  abbrev near : ℕ → List ℕ
  near = neighbours edgeless rows columns

  pub position_few : length p ≤ 1024
  position_few = omega (arith, board.whole, few_cells board.sized)

  mutually : (c d : ℕ) → d < length p → has (near d) c ≡ true → has (near c) d ≡ true
  mutually c d l h = let on : d < rows * columns = omega (arith, board.whole) in neighbours_mutual edgeless rows columns d c on h

  pub inside_few : inside_cells near p ≤ 1024
  inside_few = omega (arith, inside_length near p, keep_few {n = length p} (is_inside near p) (range 0 (length p)) (omega (arith, length_range 0 (length p))), position_few)

  -- the blocks that are read share no cell
  pub read_once : (set : BlockSet) → set ≡ block_set (frontier near p) → nodup (all_cells (blocks_of set)) ≡ true
  read_once set is = rw (read_frontier edgeless rows columns p board set is) (frontier_once near p)

  module _ (some : List Bool) (fit : Fits near p some) (total : ℕ) (holds : count (λ x. x) some ≡ total) where
    pub known_few : known_mines p ≤ total
    known_few = omega (arith, known_at_most near p some fit, holds)

    pub total_few : total ≤ 1024
    total_few = omega (arith, count_le (λ (x : Bool). x) some, holds, fit.sized, position_few)

    module _ (counts ends : List ℕ) (held : CountsHeld (frontier near p) ends counts (length (frontier near p))) where
      board_safe : {joined mined : List ℕ} → CellsTold (frontier near p) (length (frontier near p)) (mine_stage near p total (frontier near p) (length (frontier near p))) (replicate 1024 2) joined
          → (0 < inside_cells near p → Filled (bit (leb 1 (mines_left total p) && inner_sums near p counts ends (mines_left total p - 1))) joined mined) → (inside_cells near p ≡ 0 → mined ≡ joined)
          → keep (λ c. is_closed p c && eqb (get_or mined c 0) 0) (range 0 (length p)) ≡ (forced_cells near (of_total total) 5 p).safe
      board_safe = found_safe near p (neighbours_nodup edgeless rows columns) (neighbours_few edgeless rows columns) mutually position_few some fit total holds counts ends held untold

      board_mines : {joined unfilled : List ℕ} → CellsTold (frontier near p) (length (frontier near p)) (free_stage near p total (frontier near p) (length (frontier near p))) (replicate 1024 2) joined
          → (0 < inside_cells near p → Filled (bit (inner_sums near p counts ends (mines_left total p))) joined unfilled) → (inside_cells near p ≡ 0 → unfilled ≡ joined)
          → keep (λ c. is_closed p c && eqb (get_or unfilled c 0) 0) (range 0 (length p)) ≡ (forced_cells near (of_total total) 5 p).mines
      board_mines = found_mines near p (neighbours_nodup edgeless rows columns) (neighbours_few edgeless rows columns) mutually position_few some fit total holds counts ends held untold

    -- ---- as the steps leave it

    module _ (set : BlockSet) (is : set ≡ block_set (frontier near p)) (inside rest : ℕ) (inside_is : inside ≡ inside_cells near p) (is_rest : rest ≡ total - known_mines p)
        {counts : List ℕ} (held : CountsHeld (blocks_of set) set.cell_ends counts (length (blocks_of set))) where
      blocks_are : blocks_of set ≡ frontier near p
      blocks_are = read_frontier edgeless rows columns p board set is

      many : set.blocks ≡ length (frontier near p)
      many = blocks_held set (read_whole edgeless rows columns p board set is) ∙ ap length blocks_are

      -- what is left to the inside cells
      abbrev inner : ℕ → Bool
      inner n = sums_to (up_to (inside - 1) ∷ counts_but counts set.cell_ends set.blocks set.blocks) n

      -- as it is defined at the position
      inner_same : (n : ℕ) → inner n ≡ inner_sums near p counts set.cell_ends n
      inner_same n =
          ap (λ (k : ℕ). sums_to (up_to (k - 1) ∷ counts_but counts set.cell_ends set.blocks set.blocks) n) inside_is
          ∙ ap (λ (k : ℕ). sums_to (up_to (inside_cells near p - 1) ∷ counts_but counts set.cell_ends k k) n) many

      inner_one_less : (leb 1 rest && inner (rest - 1)) ≡ (leb 1 (mines_left total p) && inner_sums near p counts set.cell_ends (mines_left total p - 1))
      inner_one_less =
          ap (λ (n : ℕ). leb 1 n && inner (n - 1)) is_rest
          ∙ ap (λ (b : Bool). leb 1 (mines_left total p) && b) (inner_same (mines_left total p - 1))

      inner_all : inner rest ≡ inner_sums near p counts set.cell_ends (mines_left total p)
      inner_all = ap inner is_rest ∙ inner_same (mines_left total p)

      pub rule_safe : {shown joined mined : List ℕ} → CellsTold (blocks_of set) (length (blocks_of set)) (mine_shown (blocks_of set)) (replicate 1024 2) shown
          → Stages mine_stage mine_shown set inside rest shown joined (length (blocks_of set))
          → (0 < inside → Filled (bit (leb 1 rest && inner (rest - 1))) joined mined) → (inside ≡ 0 → mined ≡ joined)
          → keep (λ c. is_closed p c && eqb (get_or mined c 0) 0) (range 0 (length p)) ≡ (forced_cells near (of_total total) 5 p).safe
      rule_safe {shown} {joined} {mined} first stages filled kept =
          board_safe counts set.cell_ends (rw blocks_are at held) (rw blocks_are at (stages near p (replicate 1024 2) total blocks_are inside_is is_rest first))
          (λ h. subst (λ (b : Bool). Filled (bit b) joined mined) inner_one_less (filled (rw inside_is h))) (λ h. kept (inside_is ∙ h))

      pub rule_mines : {shown joined unfilled : List ℕ} → CellsTold (blocks_of set) (length (blocks_of set)) (free_shown (blocks_of set)) (replicate 1024 2) shown
          → Stages free_stage free_shown set inside rest shown joined (length (blocks_of set))
          → (0 < inside → Filled (bit (inner rest)) joined unfilled) → (inside ≡ 0 → unfilled ≡ joined)
          → keep (λ c. is_closed p c && eqb (get_or unfilled c 0) 0) (range 0 (length p)) ≡ (forced_cells near (of_total total) 5 p).mines
      rule_mines {shown} {joined} {unfilled} first stages filled kept =
          board_mines counts set.cell_ends (rw blocks_are at held) (rw blocks_are at (stages near p (replicate 1024 2) total blocks_are inside_is is_rest first))
          (λ h. subst (λ (b : Bool). Filled (bit b) joined unfilled) inner_all (filled (rw inside_is h))) (λ h. kept (inside_is ∙ h))
