-- `find_by_total` meets its contract: the three steps over the blocks that are read leave what some layout of the total has, and what none has is listed. Rests on RuleOnBoard and on
-- the contracts of the calls. Assumes nothing.
use mathlib.Core.Path.{ap, ◌∙◌}
use native.Mathlib.Omega.{arith}
use Prim.Native.Nat.{ℕ, ◌-◌, ◌≤◌}
use Rattle.marks.specs.CellLists.{cell_list}
use Rattle.frontier.proofs.ReadFrontier.{read_whole}
use Rattle.frontier.proofs.CombinableBlocks.{read_combinable}
use Rattle.total_rule.proofs.CountedBlocks.{ends_in_order}
use Rattle.total_rule.proofs.RuleOnBoard.{table_empty, position_few, inside_few, read_once, known_few, total_few, rule_safe, rule_mines}
use Rattle.total_rule.proofs.find_by_total.Goals as goal
use Rattle.total_rule.proofs.find_by_total.Goals.{After-known_mines-known}

-- a layout of the total fits, so that no number is above 1024
few_inside : (k : After-known_mines-known) → k.inside_cells-inside.result ≤ 1024
few_inside k = omega (arith, k.inside_cells-inside.ensures, inside_few k.args.size.edgeless _ _ _ k.requires.board)

few_in_all : (k : After-known_mines-known) → k.args.total ≤ 1024
few_in_all k = total_few _ _ _ _ k.requires.board k.requires.fits.0 k.requires.fits.1 _ k.requires.fits.2

pub known_mines-known-requires : goal.known_mines-known-requires
known_mines-known-requires c = position_few c.args.size.edgeless _ _ _ c.requires.board

pub overflow_sub-rest : goal.overflow_sub-rest
overflow_sub-rest c = omega (arith, c.known_mines-known.ensures, known_few _ _ _ _ c.requires.board c.requires.fits.0 c.requires.fits.1 _ c.requires.fits.2)

pub count_blocks-requires : goal.count_blocks-requires
count_blocks-requires c = let read = c.read_blocks-set.ensures in record { whole = (read_whole _ _ _ _ c.requires.board _ read, read_once _ _ _ _ c.requires.board _ read); combinable = read_combinable _ _ _ _ c.requires.board _ read; table_below = table_empty }

pub join_blocks-requires : goal.join_blocks-requires
join_blocks-requires c =
    let read = c.read_blocks-set.ensures in
    let e = c.count_blocks.ensures in record { whole = (read_whole _ _ _ _ c.requires.board _ read, read_once _ _ _ _ c.requires.board _ read); combinable = read_combinable _ _ _ _ c.requires.board _ read; counts_held = (e.counts_held, few_inside (goal.at.join_blocks-requires c).After-known_mines-known, omega (arith, few_in_all (goal.at.join_blocks-requires c).After-known_mines-known)); table_below = e.table_below_2 }

pub place_rest-requires : goal.place_rest-requires
place_rest-requires c =
    let read = c.read_blocks-set.ensures in (
      ends_in_order (read_whole _ _ _ _ c.requires.board _ read) (read_combinable _ _ _ _ c.requires.board _ read) (read_once _ _ _ _ c.requires.board _ read),
      few_inside (goal.at.place_rest-requires c).After-known_mines-known,
      omega (arith, few_in_all (goal.at.place_rest-requires c).After-known_mines-known),
    )

pub list_never-safe-requires : goal.list_never-safe-requires
list_never-safe-requires c = position_few c.args.size.edgeless _ _ _ c.requires.board

pub list_never-mines-requires : goal.list_never-mines-requires
list_never-mines-requires c = position_few c.args.size.edgeless _ _ _ c.requires.board

pub returns : goal.returns
returns c =
    let read = c.read_blocks-set.ensures in
    let rest = ap (λ (n : ℕ). c.args.total - n) c.known_mines-known.ensures in
    let told = c.count_blocks.ensures in
    let left = c.join_blocks.ensures in
    let filled = c.place_rest.ensures in record {
      safe_value = c.list_never-safe.ensures
          ∙ ap cell_list
          (rule_safe c.args.size.edgeless c.args.size.rows c.args.size.columns c.args.position.now c.requires.board c.requires.fits.0 c.requires.fits.1 c.args.total c.requires.fits.2
          _ read _ _ c.inside_cells-inside.ensures rest told.counts_held told.cells_told left.by_index filled.filled (λ h. (filled.mined_unchanged h).0));
      mines_value = c.list_never-mines.ensures
          ∙ ap cell_list
          (rule_mines c.args.size.edgeless c.args.size.rows c.args.size.columns c.args.position.now c.requires.board c.requires.fits.0 c.requires.fits.1 c.args.total c.requires.fits.2
          _ read _ _ c.inside_cells-inside.ensures rest told.counts_held told.cells_told_2 left.by_index_2 filled.filled_2 (λ h. (filled.mined_unchanged h).1));
    }
