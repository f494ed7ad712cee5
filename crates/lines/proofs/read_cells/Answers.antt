-- `read_cells` meets its contract. The loop's invariant: the cells in the array and those from place `at` on make the line that is to be read. The measure is what is left of the
-- line: a number that is read ends behind its beginning and inside the line. Rests on the turns of `CellsSoFar`. Assumes nothing.
use mathlib.Core.Path.{◌≡◌, sym, ◌∙◌}
use Prim.Native.Nat.{◌≤◌, ◌<◌}
use native.Mathlib.Omega.{arith}
use lib.ListN.{length}
use Rattle.lists.proofs.Arrays.{pad_nil}
use Rattle.text.specs.declared.Word.TheVariants.{Number}
use Rattle.text.specs.Text.{word_at}
use Rattle.text.proofs.Reading.{word_advances}
use Rattle.lines.proofs.CellsSoFar.{cells_none, cells_push, cells_full, cells_all, cells_other}
use Rattle.lines.proofs.read_cells.Goals as goal
use Rattle.lines.proofs.read_cells.Goals.{In-Number}

-- the word is a number
word : (c : In-Number)
    → word_at c.args.line.now c.loop-number.at ≡ Number c.in-Number.number c.in-Number.next
word c = sym c.number_at.ensures ∙ c.in-Number.is

-- so the place after it is further on, inside the line
further : (c : In-Number)
    → (c.loop-number.at < c.in-Number.next) × (c.in-Number.next ≤ length c.args.line.now)
further c =
    let (small, after, within) = word_advances c.args.line.now c.loop-number.at c.in-Number.number c.in-Number.next (word c) in
    (after, within)

pub loop-number-init : goal.loop-number-init
loop-number-init c = cells_none _ _ _ _ _ (pad_nil 1025 0)

pub loop-number-smaller-then-len-lt1025 : goal.loop-number-smaller-then-len-lt1025
loop-number-smaller-then-len-lt1025 c = omega (arith, further (goal.at.loop-number-smaller-then-len-lt1025 c).In-Number)

pub loop-number-preserved-then-len-lt1025 : goal.loop-number-preserved-then-len-lt1025
loop-number-preserved-then-len-lt1025 c = cells_push _ _ _ c.loop-number.invariant _ _ (word (goal.at.loop-number-preserved-then-len-lt1025 c).In-Number) c.if-len-lt1025.true _ c.cell_byte.ensures

pub loop-number-smaller : goal.loop-number-smaller
loop-number-smaller c = omega (arith, further (goal.at.loop-number-smaller c).In-Number)

pub loop-number-preserved : goal.loop-number-preserved
loop-number-preserved c = cells_full _ _ _ c.loop-number.invariant _ _ (word (goal.at.loop-number-preserved c).In-Number) c.if-len-lt1025.false

pub returns-in-End : goal.returns-in-End
returns-in-End c = cells_all _ _ _ c.loop-number.invariant (sym c.number_at.ensures ∙ c.in-End.is)

pub returns-in-Other : goal.returns-in-Other
returns-in-Other c = cells_other _ _ _ c.loop-number.invariant (sym c.number_at.ensures ∙ c.in-Other.is)
