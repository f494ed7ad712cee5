-- `window::neighbours_of` meets its contract: of an inner row and an inner column by the fixed distances, else by the walk. Rests on Inner and on the contracts of
-- the calls. Assumes nothing.
use mathlib.Core.Path.{◌≡◌, sym, ap, ◌∙◌}
use mathlib.Core.Bool.{true}
use Rattle.grid.specs.Window.{is_inner, listed}
use Rattle.grid.proofs.Inner.{inner_neighbours}
use Rattle.grid.proofs.window.Size.neighbours_of.Goals as goal
use Rattle.grid.proofs.window.Size.neighbours_of.Goals.{Then-is_inner-2}

-- the row and the column are inner ones
inner_row : (c : Then-is_inner-2) → (let a = c.args in is_inner a.self.rows a.row ≡ true)
inner_row c = sym c.is_inner.ensures ∙ c.if-is_inner.true

inner_column : (c : Then-is_inner-2) → (let a = c.args in is_inner a.self.columns a.column ≡ true)
inner_column c = sym c.is_inner-then-is_inner.ensures ∙ c.if-is_inner-2.true

pub eight_around-requires : goal.eight_around-requires
eight_around-requires c = record { sized = c.requires.sized; on = c.requires.on; row_value = (inner_row c, inner_column c) }

pub returns-then-is_inner-2 : goal.returns-then-is_inner-2
returns-then-is_inner-2 c = c.eight_around.ensures ∙ ap listed (sym (inner_neighbours _ _ _ _ c.requires.on (inner_row (goal.at.returns-then-is_inner-2 c).Then-is_inner-2) (inner_column (goal.at.returns-then-is_inner-2 c).Then-is_inner-2) c.args.self.edgeless))
