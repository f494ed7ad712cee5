-- `passes::run_passes` meets its contract. The loop's invariant: k passes lead from the first position to the present one, so that the passes left lead to the
-- same ending, the board's own layout fits, and the rounds of the cells are those of the positions so far (`OnBoard`). The measure is what is left of the count. Rests on
-- Underway, PassesOnBoard and FromStart. Assumes nothing.
use mathlib.Core.Path.{◌≡◌, sym, ◌∙◌}
use mathlib.Core.List.{[]}
use Prim.Native.Nat.{◌-◌, ◌*◌}
use native.Mathlib.Omega.{arith}
use borrow.Author.Rules.{rules}
use lib.ListN.{length}
use Rattle.grid.specs.Window.{neighbours}
use Rattle.fitting.specs.Boards.{own}
use Rattle.verdict.specs.Rules.{rules_of}
use Rattle.verdict.specs.Findings.{Finds, rules_at}
use Rattle.verdict.specs.declared.finding.Finding.{Finding}
use Rattle.verdict.proofs.TotalFindings.{finds_own, shown_own}
use Rattle.rounds.proofs.GivenRounds.{rounds_on_board}
use Rattle.flood.proofs.ClosedArrays.{few}
use Rattle.verdict.proofs.FromStart.{first_own, first_board, first_ends}
use Rattle.verdict.proofs.Underway.{underway_first, ends_open, ends_last}
use Rattle.verdict.proofs.PassesOnBoard.{OnBoard, same_cells, position_board, rounds_long, few_rounds, found_nothing, found_cells}
use Rattle.verdict.proofs.passes.run_passes.Goals as goal
use Rattle.verdict.proofs.passes.run_passes.Goals.{At-loop-k}

-- the position keeps its length, and so does the slice of rounds
as_long : (c : At-loop-k) → length c.loop-k.position ≡ length c.args.position.now
as_long c = (position_board c.args.shows_total _ c.requires.board.0 c.loop-k.invariant).whole ∙ sym c.requires.board.1.whole

as_many : (c : At-loop-k) → length c.loop-k.opened_in ≡ length c.args.opened_in.now
as_many c = rounds_long c.args.shows_total _ c.requires.board.0 c.loop-k.invariant ∙ sym (rounds_on_board c.requires.board.0 [] c.requires.opened_in_value)

-- what a pass found is what the board's rules find
found_own : (l : At-loop-k) {r : Finding}
    → (Finds (l.args.size.rows * l.args.size.columns) (rules_at l.total_shown-total.result (neighbours l.args.size.edgeless l.args.size.rows l.args.size.columns) l.loop-k.position) r
    → Finds (l.args.size.rows * l.args.size.columns) (rules_of l.args.shows_total (neighbours l.args.size.edgeless l.args.size.rows l.args.size.columns) l.args.board.now l.loop-k.position) r)
found_own l found =
    finds_own _ _ l.args.shows_total l.args.board.now (rw l.total_shown-total.ensures at found)

pub open_start-requires : goal.open_start-requires
open_start-requires c = record { board = (c.requires.board.0, c.requires.board.1); accepted = c.requires.accepted; start_in_bounds = c.requires.start_in_bounds.0; opened_in_value = c.requires.opened_in_value }

pub loop-k-init : goal.loop-k-init
loop-k-init c =
    let near = neighbours c.args.size.edgeless c.args.size.rows c.args.size.columns in
    let on = c.requires.start_in_bounds in
    let fits = first_own _ c.requires.board.0 c.args.start on.0 on.1 c.requires.accepted on.2 c.open_start.ensures.position_after in
    (underway_first near c.args.board.now (rules_of c.args.shows_total near c.args.board.now) (length c.args.board.now) _ _ fits c.open_start.ensures.opened_in_after)

pub all_open-requires : goal.all_open-requires
all_open-requires c = same_cells c.args.shows_total _ c.requires.board.0 c.loop-k.invariant

pub shape_of-position-then-all_open : goal.shape_of-position-then-all_open
shape_of-position-then-all_open c = as_long (goal.at.shape_of-position-then-all_open c).At-loop-k

pub shape_of-opened_in-then-all_open : goal.shape_of-opened_in-then-all_open
shape_of-opened_in-then-all_open c = as_many (goal.at.shape_of-opened_in-then-all_open c).At-loop-k

pub returns-then-all_open : goal.returns-then-all_open
returns-then-all_open c =
    let near = neighbours c.args.size.edgeless c.args.size.rows c.args.size.columns in
    let on = c.requires.start_in_bounds in
    let both = first_ends _ c.requires.board.0 c.args.start on.0 on.1 c.requires.accepted on.2 c.open_start.ensures.position_after _
    (ends_open near c.args.board.now (rules_of c.args.shows_total near c.args.board.now) c.loop-k.invariant (sym c.all_open.ensures ∙ c.if-all_open.true)) in
    record { value = both.0; position_after = both.1.0; opened_in_after = both.1.1 }

pub find_in_pass-found-requires : goal.find_in_pass-found-requires
find_in_pass-found-requires c = record { board = position_board c.args.shows_total _ c.requires.board.0 c.loop-k.invariant; fits = (own c.args.board.now, c.loop-k.invariant.own_fits, λ t e. shown_own c.args.shows_total c.args.board.now t (sym c.total_shown-total.ensures ∙ e)) }

pub shape_of-position-then-found-eq0 : goal.shape_of-position-then-found-eq0
shape_of-position-then-found-eq0 c = as_long (goal.at.shape_of-position-then-found-eq0 c).At-loop-k

pub shape_of-opened_in-then-found-eq0 : goal.shape_of-opened_in-then-found-eq0
shape_of-opened_in-then-found-eq0 c = as_many (goal.at.shape_of-opened_in-then-found-eq0 c).At-loop-k

pub returns-then-found-eq0 : goal.returns-then-found-eq0
returns-then-found-eq0 c =
    let shut = sym c.all_open.ensures ∙ c.if-all_open.false in
    let on = c.requires.start_in_bounds in
    let both = first_ends _ c.requires.board.0 c.args.start on.0 on.1 c.requires.accepted on.2 c.open_start.ensures.position_after _
    (found_nothing c.args.shows_total _ c.requires.board.0 c.loop-k.invariant c.loop-k-test.true shut c.find_in_pass-found.result (found_own (goal.at.returns-then-found-eq0 c).At-loop-k c.find_in_pass-found.ensures) c.if-found-eq0.true) in
    record { value = both.0; position_after = both.1.0; opened_in_after = both.1.1 }

pub overflow_add-rounds : goal.overflow_add-rounds
overflow_add-rounds c = omega (arith, few_rounds c.args.shows_total _ c.requires.board.0 c.loop-k.invariant c.loop-k-test.true)

pub overflow_cast-rounds : goal.overflow_cast-rounds
overflow_cast-rounds c = omega (arith, few_rounds c.args.shows_total _ c.requires.board.0 c.loop-k.invariant c.loop-k-test.true)

pub make_pass-requires : goal.make_pass-requires
make_pass-requires c = let found = found_own (goal.at.make_pass-requires c).At-loop-k c.find_in_pass-found.ensures in record { board = (c.requires.board.0, position_board c.args.shows_total _ c.requires.board.0 c.loop-k.invariant); accepted = c.requires.accepted; below = (found.safe_below, found.mines_below); opened_in_len = rounds_long c.args.shows_total _ c.requires.board.0 c.loop-k.invariant }

pub overflow_step-k : goal.overflow_step-k
overflow_step-k c = omega (arith, few c.requires.board.0, c.loop-k-test.true)

pub loop-k-preserved : goal.loop-k-preserved
loop-k-preserved c =
    let shut = sym c.all_open.ensures ∙ c.if-all_open.false in
    found_cells c.args.shows_total _ c.requires.board.0 c.loop-k.invariant c.loop-k-test.true shut c.find_in_pass-found.result (found_own (goal.at.loop-k-preserved c).At-loop-k c.find_in_pass-found.ensures)
    c.requires.accepted c.if-found-eq0.false _ c.make_pass.ensures.position_after _ c.max-grade.ensures _ c.make_pass.ensures.opened_in_after

pub all_open-yes-requires : goal.all_open-yes-requires
all_open-yes-requires c = same_cells c.args.shows_total _ c.requires.board.0 c.loop-k.invariant

pub shape_of-position : goal.shape_of-position
shape_of-position c = as_long (goal.at.shape_of-position c).At-loop-k

pub shape_of-opened_in : goal.shape_of-opened_in
shape_of-opened_in c = as_many (goal.at.shape_of-opened_in c).At-loop-k

pub returns : goal.returns
returns c =
    let near = neighbours c.args.size.edgeless c.args.size.rows c.args.size.columns in
    let on = c.requires.start_in_bounds in
    let both = first_ends _ c.requires.board.0 c.args.start on.0 on.1 c.requires.accepted on.2 c.open_start.ensures.position_after _
    (ends_last near c.args.board.now (rules_of c.args.shows_total near c.args.board.now) c.loop-k.invariant c.loop-k-test.false _ c.all_open-yes.ensures) in
    record { value = both.0; position_after = both.1.0; opened_in_after = both.1.1 }
