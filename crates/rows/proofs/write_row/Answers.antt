-- `rows::write_row` meets its contract. The loop's invariant: the values from group g on, stored from there, give what all of them give from the front. Assumes nothing.
use mathlib.Core.Path.{◌≡◌, sym, ap, ◌∙◌}
use mathlib.Core.List.{List}
use Prim.Native.Nat.{ℕ, ◌+◌, ◌≤◌, ◌<◌}
use native.Mathlib.Numerals.{add-one}
use native.Mathlib.Omega.{arith}
use borrow.Author.Rules.{rules}
use lib.ListN.{length, get_or, take, drop, set}
use lib.Seq.{sets}
use Rattle.lists.proofs.Arrays.{drop_more, drop_none}
use Rattle.rows.proofs.write_row.Goals as goal

module _ (table row : List ℕ) (g : ℕ) where
  -- the next of the values
  row_next : g < length row → sets (set table g (get_or row g 0)) (g + 1) (drop (g + 1) row) ≡ sets table g (drop g row)
  row_next h =
      ap (λ (i : ℕ). sets (set table g (get_or row g 0)) i (drop (g + 1) row)) (add-one g)
      ∙ sym (ap (sets table g) (drop_more row g 0 h))

  row_end : length row ≤ g → table ≡ sets table g (drop g row)
  row_end h = sym (ap (sets table g) (drop_none row g h))

pub loop-g-preserved : goal.loop-g-preserved
loop-g-preserved c =
    let loop = c.loop-g in
    (search rules, row_next loop.table (take c.args.groups c.args.values.now) loop.g c.loop-g-test.true ∙ loop.invariant.1)

pub returns : goal.returns
returns c =
    let loop = c.loop-g in
    row_end loop.table (take c.args.groups c.args.values.now) loop.g c.loop-g-test.false ∙ loop.invariant.1
