-- `finding::find_cells` meets its contract: the equations are read, which are fit for the sweeps; where these find nothing the frontier is read, which is fit
-- for the other rules; and the first lists with a cell are what the three rules find. Rests on ThreeFindings, on ReadFrontier and on the contracts of the calls. Assumes nothing.
use mathlib.Core.Path.{◌≡◌, refl, sym, ap, ◌∙◌}
use mathlib.Core.List.{List}
use borrow.Author.Rules.{rules}
use Rattle.grid.specs.Window.{neighbours_on}
use Rattle.blocks.specs.Blocks.{Block}
use Rattle.sources.specs.Equations.{plain_equations}
use Rattle.frontier.proofs.ReadFrontier.{read_frontier, read_whole}
use Rattle.frontier.proofs.CombinableBlocks.{frontier_combinable}
use Rattle.direct.proofs.FrontierReady.{read_ready}
use Rattle.direct.specs.Answers.{rule_answer, lists_in, swept_lists}
use Rattle.subtraction.specs.Pairs.{minus_lists}
use Rattle.enumeration.specs.Enumeration.{enumerated}
use Rattle.verdict.proofs.ThreeFindings.{direct_finds, later_finds, equations_fit, equations_read}
use Rattle.verdict.proofs.finding.find_cells.Goals as goal
use Rattle.verdict.proofs.finding.find_cells.Goals.{After-swept_cells-direct}

pub read_equations-len-requires : goal.read_equations-len-requires
read_equations-len-requires c = record { board = c.requires.board; slots_value = (refl, refl) }

pub swept_cells-direct-requires : goal.swept_cells-direct-requires
swept_cells-direct-requires c = equations_fit _ _ _ _ c.requires.board _ _ _ c.read_equations-len.ensures

-- the sweeps were over the position's equations
swept : (c : After-swept_cells-direct)
    → (let a = c.args in c.swept_cells-direct.result ≡ swept_lists (plain_equations (neighbours_on a.size) a.position.now))
swept c = c.swept_cells-direct.ensures ∙ ap swept_lists (equations_read _ _ _ _ c.requires.board _ _ _ c.read_equations-len.ensures)

pub returns-then-found_cell : goal.returns-then-found_cell
returns-then-found_cell c =
    direct_finds _ _ _ _ c.requires.board c.requires.fits.0 c.requires.fits.1 _ (swept (goal.at.returns-then-found_cell c).After-swept_cells-direct) (sym c.found_cell.ensures ∙ c.if-found_cell.true)

pub read_blocks-requires : goal.read_blocks-requires
read_blocks-requires c = c.requires.board

pub find_in_blocks-requires : goal.find_in_blocks-requires
find_in_blocks-requires c = let is = read_frontier _ _ _ _ c.requires.board _ c.read_blocks.ensures in record { whole = read_whole _ _ _ _ c.requires.board _ c.read_blocks.ensures; ready = read_ready _ _ _ _ c.requires.board _ c.read_blocks.ensures; combinable = rw is (frontier_combinable _ _ _ _ c.requires.board) }

pub returns : goal.returns
returns c =
    let is = read_frontier _ _ _ _ c.requires.board _ c.read_blocks.ensures in
    rw c.find_in_blocks.ensures
    (later_finds _ _ _ _ c.requires.board c.requires.fits.0 c.requires.fits.1 _ (swept (goal.at.returns c).After-swept_cells-direct)
    (sym c.found_cell.ensures ∙ c.if-found_cell.false) _ _
    (ap minus_lists is) (ap (λ (bs : List Block). lists_in (rule_answer (enumerated bs))) is))
