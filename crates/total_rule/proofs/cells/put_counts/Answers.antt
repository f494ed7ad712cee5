-- `total_rule::cells::put_counts` meets its contract. Rests on the laws of stores. Assumes nothing.
use native.Mathlib.Omega.{arith}
use lib.ListN.{length, take}
use lib.Seq.{length-take-le}
use Prim.Native.Nat.{◌+◌, ◌-◌}
use mathlib.Core.Path.{◌≡◌}
use borrow.Author.Rules.{rules}
use Rattle.lists.proofs.Stores.{copied_stored}
use Rattle.total_rule.proofs.ToldCells.{copied_over}
use Rattle.total_rule.proofs.cells.put_counts.Goals as goal

pub returns : goal.returns
returns c =
    let whole : length c.args.reached.now ≡ 1025 = search rules in
    let room : length c.args.counts.now ≡ 2048 = search rules in
    let many = length-take-le c.args.many c.args.reached.now (omega (arith, c.requires.0)) in
    rw (
      c.copy_from_slice.ensures.after,
      copied_stored c.args.counts.now (take c.args.many c.args.reached.now) c.args.at (omega (arith, many, c.requires.1)) (c.args.at + c.args.many - c.args.at)
          (omega (arith, many)),
    )
    (copied_over c.args.reached.now c.args.counts.now c.args.many c.args.at (omega (arith, c.requires.0)) (omega (arith, c.requires.1)))
