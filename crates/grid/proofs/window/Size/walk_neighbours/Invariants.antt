use Prim.Native.Nat.{◌+◌, ◌*◌}
use Rattle.lists.specs.Lists.{without}
use Rattle.grid.specs.Window.{neighbours}
use Rattle.grid.proofs.Walk.{rows_from, cells_from}
use Rattle.lists.proofs.Collected.{Collected}
use Rattle.grid.proofs.window.Size.walk_neighbours.Given as goal

abbrev pub invariant-loop-n : goal.invariant-loop-n
invariant-loop-n l =
    Collected 8 l.near.cells l.near.len (without l.own (cells_from l.self.rows l.self.columns l.w.left l.w.right l.w.bottom l.m l.n)) (neighbours l.self.edgeless l.self.rows l.self.columns (l.row * l.self.columns + l.column))

abbrev pub invariant-loop-m : goal.invariant-loop-m
invariant-loop-m l =
    Collected 8 l.near.cells l.near.len (without l.own (rows_from l.self.rows l.self.columns l.w.left l.w.right l.w.bottom l.m)) (neighbours l.self.edgeless l.self.rows l.self.columns (l.row * l.self.columns + l.column))
