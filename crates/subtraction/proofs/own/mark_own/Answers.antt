-- `subtraction::own::mark_own` meets its contract. The loop's invariant: what is marked, with the own cells that are left, is what was marked with all own cells.
-- Assumes nothing.
use Prim.Native.Nat.{ℕ}
use mathlib.Core.Path.{◌≡◌, refl, sym, ap, ◌∙◌}
use mathlib.Core.Bool.{not}
use mathlib.Core.List.{List}
use native.Mathlib.Omega.{arith}
use lib.Dec.{ltb}
use lib.ListN.{get_or, take, length-set}
use borrow.Author.Tests.{ltb-true}
use Rattle.lists.proofs.All.{all_at}
use Rattle.lists.specs.Lists.{all, has}
use Rattle.lists.proofs.Arrays.{drop_next, drop_none}
use Rattle.lists.proofs.ByItems.{has_listed}
use Rattle.marks.proofs.MarkedCells.{with_marked, with_passed, with_end}
use Rattle.subtraction.proofs.own.mark_own.Goals as goal
use Rattle.subtraction.proofs.own.mark_own.Goals.{After-contains, then-not-contains, else-not-contains}
use Rattle.subtraction.proofs.own.mark_own.Invariants.{lacks}

-- the answer of `contains`
told : (c : After-contains) → c.contains.result ≡ has (take c.args.other.len c.args.other.cells) (get_or c.as_slice-cell-items.result.now c.loop-cell.cell-index 0)
told c =
    let cell = get_or c.as_slice-cell-items.result.now c.loop-cell.cell-index 0 in
    c.contains.ensures.value ∙ has_listed cell c.as_slice.result.now ∙ ap (λ (l : List ℕ). has l cell) c.as_slice.ensures

pub loop-cell-preserved : goal.loop-cell-preserved
loop-cell-preserved c =
    let loop = c.loop-cell in
    let items = c.as_slice-cell-items in
    let test = c.loop-cell-test.true in
    let has = told (goal.at.loop-cell-preserved c).After-contains in
    let more = drop_next items.result.now loop.cell-index 0 _ test refl in
    let below = ltb-true (get_or items.result.now loop.cell-index 0) 1024
    (all_at (λ d. ltb d 1024) items.result.now loop.cell-index 0 (ap (all (λ d. ltb d 1024)) items.ensures ∙ c.requires.0.below) test) in
    elim c.if-not-contains.branch [
      | then-not-contains w ↦ rw (w.marks-is, w.wide.ensures) (
        length-set loop.marks _ 1 ∙ loop.invariant.0,
        λ d. with_marked (lacks c.args.other) loop.marks _ more (omega (arith, below, loop.invariant.0)) (ap not (sym has) ∙ (ap not w.if-not-contains.true)) d ∙ loop.invariant.1 d,
      )
      | else-not-contains w ↦ rw w.marks-is (loop.invariant.0, λ d. with_passed (lacks c.args.other) loop.marks _ more (ap not (sym has) ∙ (ap not w.if-not-contains.false)) d ∙ loop.invariant.1 d)
    ]

pub returns : goal.returns
returns c =
    let loop = c.loop-cell in
    λ d. rw c.as_slice-cell-items.ensures at (sym (with_end (lacks c.args.other) loop.marks (drop_none c.as_slice-cell-items.result.now loop.cell-index (omega arith)) d) ∙ loop.invariant.1 d)
