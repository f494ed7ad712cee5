-- `export::lihvompa_pattern` meets its contract, by the form of the answer of `unsolvable_structure`. Rests on `Returning`. Assumes nothing.
use Rattle.std.specs.Prelude.{Result, Ok}
use mathlib.Core.Path.{◌≡◌, refl, ◌∙◌}
use mathlib.Core.Bool.{Bool, true, false}
use mathlib.Core.List.{List, [], ◌∷◌}
use Prim.Native.Nat.{ℕ}
use Rattle.lists.specs.Lists.{bit}
use Rattle.refusals.specs.declared.Refusal.{Refusal}
use Rattle.patterns.specs.Answer.{pattern_values}
use Rattle.export.specs.Returned.{laid, pattern_returned}
use Rattle.export.proofs.Returning.{by_form, values_returned, pattern_laid}
use Rattle.export.proofs.lihvompa_pattern.Goals as goal

pub returns-in-Err : goal.returns-in-Err
unfolding pattern_returned laid
returns-in-Err c =
    let counts = c.args.counts.now in
    by_form (λ (a : Result Bool Refusal). pattern_returned a counts) c.unsolvable_structure.ensures c.in-Err.is (values_returned c.from.ensures refl)

pub returns-in-Ok : goal.returns-in-Ok
returns-in-Ok c =
    let counts = c.args.counts.now in
    by_form (λ (a : Result Bool Refusal). pattern_returned a counts) c.unsolvable_structure.ensures c.in-Ok.is (pattern_laid _ counts c.put_counts.ensures.0 (rw c.from-in-Ok.ensures at c.put_counts.ensures.1))
