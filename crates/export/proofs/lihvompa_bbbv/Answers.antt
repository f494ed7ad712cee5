-- `export::lihvompa_bbbv` meets its contract, by the form of the answer of `cal_bbbv`; that the count is the 3BV follows from the first clause. Rests on `Returning`
-- and `CountedBbbv`. Assumes nothing.
use Rattle.std.specs.Prelude.{Result}
use mathlib.Core.Path.{refl}
use Prim.Native.Nat.{ℕ}
use Rattle.refusals.specs.declared.Refusal.{Refusal}
use Rattle.export.specs.Returned.{laid, bbbv_returned}
use Rattle.export.proofs.Returning.{by_form, values_returned}
use Rattle.export.proofs.CountedBbbv.{counted_bbbv}
use Rattle.export.proofs.lihvompa_bbbv.Goals as goal

pub returns-in-Err : goal.returns-in-Err
unfolding bbbv_returned laid
returns-in-Err c =
    let counts = c.args.counts.now in
    let first = by_form (λ (a : Result ℕ Refusal). bbbv_returned a counts) (rw c.flat.ensures at c.cal_bbbv.ensures.value) c.in-Err.is (values_returned c.from.ensures refl) in
    record { counts_after = first; bbbv = counted_bbbv _ _ _ counts _ first }

pub returns-in-Ok : goal.returns-in-Ok
unfolding bbbv_returned
returns-in-Ok c =
    let counts = c.args.counts.now in
    let first = by_form (λ (a : Result ℕ Refusal). bbbv_returned a counts) (rw c.flat.ensures at c.cal_bbbv.ensures.value) c.in-Ok.is (values_returned c.put_counts.ensures.0 c.put_counts.ensures.1) in
    record { counts_after = first; bbbv = counted_bbbv _ _ _ counts _ first }
