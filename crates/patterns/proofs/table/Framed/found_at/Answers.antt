-- `found_at` meets its contract. The loop's invariant: the shapes that the table lists from the entry k on answer for all, where the anchor is a mine. An entry whose
-- cell has what it asks for leads one cell further or ends a shape that fits; another leads past the shapes that ask for the same. Rests on the laws of a walk over
-- a table. Assumes nothing.
use mathlib.Core.Path.{◌≡◌, sym, ◌∙◌}
use native.Mathlib.Omega.{arith}
use Rattle.patterns.specs.Walk.{laid_at}
use Rattle.patterns.proofs.TableWalk.{answers_start, leads_on, leads_within, no_anchor, walk_ends, turn_ends, turn_further, turn_past}
use Rattle.patterns.proofs.table.Framed.found_at.Goals as goal
use Rattle.patterns.proofs.table.Framed.found_at.Goals.{Else-stands}

-- the anchor is a mine
mine : (c : Else-stands) → (let a = c.args in laid_at a.self.now.rows a.self.now.columns a.self.now.cells.now a.row a.column ≡ 255)
mine c = sym c.stands.ensures ∙ c.if-stands.false

pub returns-then-stands : goal.returns-then-stands
returns-then-stands c = no_anchor _ _ _ _ _ _ (λ e. c.if-stands.true (c.stands.ensures ∙ e))

pub loop-k-init : goal.loop-k-init
loop-k-init c = (answers_start _ _ _ _ _ _, omega arith)

pub loop-k-smaller-then-there-asks : goal.loop-k-smaller-then-there-asks
loop-k-smaller-then-there-asks c = omega (arith, c.wide_byte-k.ensures.0, leads_on _ c.requires.links _ c.loop-k-test.true)

pub loop-k-preserved-then-there-asks : goal.loop-k-preserved-then-there-asks
loop-k-preserved-then-there-asks c =
    let next = c.wide_byte-k.ensures.0 in
    (turn_past _ _ _ _ _ _ (mine (goal.at.loop-k-preserved-then-there-asks c).Else-stands) c.requires.links _ c.loop-k-test.true _ _ _ c.wide_byte.ensures.0 c.wide_byte-in-loop-k.ensures.0 c.stands-there.ensures c.loop-k.invariant.0 c.if-there-asks.true _ next, omega (arith, next, leads_within _ c.requires.links _ c.loop-k-test.true))

pub returns-then-last-eq1 : goal.returns-then-last-eq1
returns-then-last-eq1 c = turn_ends _ _ _ _ _ _ (mine (goal.at.returns-then-last-eq1 c).Else-stands) c.requires.links _ c.loop-k-test.true _ _ _ c.wide_byte.ensures.0 c.wide_byte-in-loop-k.ensures.0 c.stands-there.ensures c.loop-k.invariant.0 c.if-there-asks.false c.if-last-eq1.true

pub loop-k-preserved : goal.loop-k-preserved
loop-k-preserved c = (turn_further _ _ _ _ _ _ (mine (goal.at.loop-k-preserved c).Else-stands) c.requires.links _ c.loop-k-test.true _ _ _ c.wide_byte.ensures.0 c.wide_byte-in-loop-k.ensures.0 c.stands-there.ensures c.loop-k.invariant.0 c.if-there-asks.false c.if-last-eq1.false, omega arith)

pub returns : goal.returns
returns c = walk_ends _ _ _ _ _ _ (mine (goal.at.returns c).Else-stands) _ c.loop-k-test.false c.loop-k.invariant.0
