-- `answer::give_answer` meets its contract: the struct holds its lists, so that `put_list` stores them and `write_at_cells` writes them, first the safe cells, then
-- the mines. Rests on Handed and on the contracts of the calls. Assumes nothing.
use mathlib.Core.Path.{sym, ap, ◌∙◌}
use mathlib.Core.List.{List}
use Prim.Native.Nat.{ℕ}
use lib.Seq.{sets}
use native.Mathlib.Omega.{arith}
use Rattle.marks.specs.Written.{written}
use Rattle.deductions.proofs.Handed.{contradiction_seen, gives_found, list_counted}
use Rattle.deductions.proofs.answer.give_answer.Goals as goal

pub put_list-requires : goal.put_list-requires
put_list-requires c =
    let held = rw c.in-Ok.is at c.requires in
    rw c.as_slice.ensures (omega (arith, list_counted held.safe_below, held.room_safe))

pub returns : goal.returns
returns c =
    let held = rw c.in-Ok.is at c.requires in
    rw c.in-Ok.is (gives_found held c.args.position.now c.args.safe.now c.args.mines.now
    (c.write_at_cells-2.ensures
    ∙ ap (λ (l : List ℕ). written 11 l c.write_at_cells.new.position) c.as_slice-4.ensures
    ∙ ap (written 11 _) (c.write_at_cells.ensures ∙ ap (λ (l : List ℕ). written 12 l c.args.position.now) c.as_slice-3.ensures))
    (c.put_list.ensures ∙ ap (sets _ 0) c.as_slice.ensures) (c.put_list-2.ensures ∙ ap (sets _ 0) c.as_slice-2.ensures))

pub returns-in-Err : goal.returns-in-Err
returns-in-Err c = rw c.in-Err.is (sym (contradiction_seen _ c.args.position.now c.args.safe.now c.args.mines.now))
