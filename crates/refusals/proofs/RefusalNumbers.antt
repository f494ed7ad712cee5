-- The number that a caller sees tells an acceptance from a refusal, since 0 is no refusal's number. Rests on FirstFailure. Assumes nothing.
use Rattle.std.specs.Prelude.{Ok, Err}
use mathlib.Core.Path.{◌≡◌, refl}
use mathlib.Core.Logic.{◌≢◌}
use lib.Dec.{eqb}
use borrow.Author.Tests.{eq-eqb}
use Rattle.lists.proofs.Tests.{clash}
use Rattle.refusals.specs.declared.Refusal.{Refusal}
use Rattle.refusals.specs.Refusals.{Accepted, Tested, refusal_number, tested_number}
use Rattle.refusals.proofs.FirstFailure.{refusal_not_zero}

-- a refusal's number is never 0
pub refusal_numbered : {P : Type 0} (r : Refusal) → refusal_number r ≡ 0 → P
refusal_numbered r z = clash (eqb (refusal_number r) 0) (eq-eqb (refusal_number r) 0 z) (refusal_not_zero r)

-- 0 says that nothing is refused
pub zero_accepted : (t : Tested) → tested_number t ≡ 0 → t ≡ Accepted
zero_accepted (Ok _) z = refl
zero_accepted (Err r) z = refusal_numbered r z

-- and any other number that something is
pub else_refused : (t : Tested) → tested_number t ≢ 0 → (r : Refusal) × (t ≡ Err r)
else_refused (Ok _) some = absurd (some refl)
else_refused (Err r) some = (r, refl)
