-- `grid::window::Size::shown_beside` meets its contract: of an inner row and an inner column by the fixed distances, else by the walk. Rests on Inner and on the
-- contracts of the calls. Assumes nothing.
use mathlib.Core.Path.{◌≡◌, sym, ap, ◌∙◌}
use mathlib.Core.Bool.{true}
use lib.Dec.{eqb}
use mathlib.Core.List.{List}
use Prim.Native.Nat.{ℕ}
use Rattle.lists.specs.Lists.{any}
use Rattle.grid.specs.Cells.{cell_of}
use Rattle.grid.proofs.Inner.{inner_neighbours}
use Rattle.grid.proofs.window.Size.shown_beside.Goals as goal

pub returns-then-is_inner-2 : goal.returns-then-is_inner-2
returns-then-is_inner-2 c =
    c.shown_around.ensures
    ∙ ap (any (λ (d : ℕ). eqb (cell_of c.args.cells.now d) c.args.value))
    (sym (inner_neighbours _ _ _ _ c.requires.on (sym c.is_inner.ensures ∙ c.if-is_inner.true) (sym c.is_inner-then-is_inner.ensures ∙ c.if-is_inner-2.true) c.args.self.edgeless))
