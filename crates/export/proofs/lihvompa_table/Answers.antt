-- `export::lihvompa_table` meets its contract, by the form of the answer of `cal_all_solution`: a refusal is its number, a table two counts stored one after the
-- other. What that means holds of the counts where there is room for both. Rests on `Returning` and `CountedCalls`. Assumes nothing.
use mathlib.Core.Path.{refl}
use Rattle.export.specs.Returned.{laid}
use Rattle.export.proofs.Returning.{values_returned, table_returned_lem}
use Rattle.export.proofs.CountedCalls.{refused_table, listed_table}
use Rattle.export.proofs.lihvompa_table.Goals as goal

pub returns-in-Err : goal.returns-in-Err
unfolding laid
returns-in-Err c =
    let call = rw c.flat.ensures at c.cal_all_solution.ensures in
    let counts = c.args.counts.now in
    record {
      counts_after = table_returned_lem counts call.table_after c.in-Err.is (values_returned c.from.ensures refl);
      listed = λ room. refused_table call.listed counts c.in-Err.is c.from.ensures;
    }

pub returns-in-Ok : goal.returns-in-Ok
returns-in-Ok c =
    let call = rw c.flat.ensures at c.cal_all_solution.ensures in
    let counts = c.args.counts.now in
    let stored = c.put_counts.ensures in
    record {
      counts_after = table_returned_lem counts call.table_after c.in-Ok.is (values_returned stored.0 stored.1);
      listed = λ room. listed_table call.listed counts c.in-Ok.is stored.0 stored.1 room;
    }
