-- `bbbv::count_openings` meets its contract. The loop's invariant: the position is flooded from the zeros before c, and as many openings are found as have their
-- first zero there. Rests on the laws of Flooded. Assumes nothing.
use Prim.Native.Nat.{ℕ, ◌≤◌, ◌<◌}
use mathlib.Core.Path.{◌≡◌, ◌∙◌}
use native.Mathlib.Omega.{arith}
use lib.ListN.{length}
use Rattle.lists.proofs.Elements.{get_d_any}
use Rattle.grid.specs.Window.{neighbours_on}
use Rattle.grid.proofs.Neighbours.{neighbours_few}
use Rattle.bbbv.specs.Openings.{openings}
use Rattle.bbbv.proofs.Flooded.{flooded_start, flooded_whole, flooded_first, flooded_later, flooded_past}
use Rattle.bbbv.proofs.count_openings.Goals as goal
use Rattle.bbbv.proofs.count_openings.Goals.{At-loop-c, Start, then-cell-eq0+then-position-c-eq10, else-cell-eq0, else-cell-eq0-via-then-cell-eq0+else-position-c-eq10, else-cell-eq0-via-else-cell-eq0}

-- no cell has more than eight neighbours
few : (s : Start) (c : ℕ) → c < length s.args.cells.now → length (neighbours_on s.args.size c) ≤ 8
few s c _ = neighbours_few s.args.size.edgeless s.args.size.rows s.args.size.columns c

-- the position has a cell for each cell of the board
whole : (c : At-loop-c) → length c.loop-c.position ≡ length c.args.cells.now
whole c = flooded_whole _ _ c.requires.accepted (few (goal.at.At-loop-c c).Start) _ _ _ c.loop-c.invariant.0

pub loop-c-init : goal.loop-c-init
loop-c-init c = (flooded_start _ _ c.requires.accepted (few (goal.at.loop-c-init c).Start) _ c.requires.position_value, omega arith)

pub loop-c-preserved : goal.loop-c-preserved
loop-c-preserved c =
    let l = c.loop-c in
    let cells = c.args.cells.now in
    let near = neighbours_on c.args.size in
    let ok = c.requires.accepted in
    let on : l.c < length cells = c.loop-c-test.true in
    let within : l.c < length l.position = omega (arith, whole (goal.at.loop-c-preserved c).At-loop-c) in
    let first = flooded_first near cells ok (few (goal.at.loop-c-preserved c).Start) l.c l.position l.found l.invariant.0 on in
    let later = flooded_later near cells ok (few (goal.at.loop-c-preserved c).Start) l.c l.position l.found l.invariant.0 on in
    let past = flooded_past near cells ok (few (goal.at.loop-c-preserved c).Start) l.c l.position l.found l.invariant.0 in
    elim c.if-cell-eq0.branch [
      | then-cell-eq0+then-position-c-eq10 w ↦ (rw (w.position-is, w.refresh_board.ensures, w.found-is) (first w.if-cell-eq0.true (get_d_any l.position l.c 255 0 within ∙ w.if-position-c-eq10.true)), omega (arith, w.found-is))
      | else-cell-eq0 w ↦ elim w.else-cell-eq0.branch [
        | else-cell-eq0-via-then-cell-eq0+else-position-c-eq10 v ↦ (rw (w.position-is, w.found-is) (later v.if-cell-eq0.true (λ e. v.if-position-c-eq10.false (get_d_any l.position l.c 0 255 within ∙ e))), omega (arith, w.found-is))
        | else-cell-eq0-via-else-cell-eq0 v ↦ (rw (w.position-is, w.found-is) (past v.if-cell-eq0.false), omega (arith, w.found-is))
      ]
    ]

pub returns-clause-value : goal.returns-clause-value
unfolding openings
returns-clause-value c =
    let l = c.loop-c in
    let end : l.c ≡ length c.args.cells.now = omega (arith, c.loop-c-test.false, l.auto.c-end) in
    rw (← end) l.invariant.0.1
