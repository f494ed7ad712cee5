-- `grid::window::window_of` meets its contract: the sides are what `low` and `high` give, which are those of `window_at`, and the bounds follow from them.
-- Assumes nothing.
use native.Mathlib.Omega.{arith}
use Rattle.grid.proofs.Neighbours.{high_bound}
use Rattle.grid.proofs.window.Size.window_of.Goals as goal

pub returns : goal.returns
returns c =
    let at_rows = high_bound c.args.self.edgeless c.args.self.rows c.args.row c.requires.on.in_rows in
    let at_columns = high_bound c.args.self.edgeless c.args.self.columns c.args.column c.requires.on.in_columns in
    record {
      is = cc;
      below = omega (arith, at_rows.0);
      beside = omega (arith, at_columns.0);
      tall = omega (arith, at_rows.1);
      wide = omega (arith, at_columns.1);
    }
