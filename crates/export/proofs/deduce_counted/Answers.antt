-- `export::deduce_counted` meets its contract: it returns what `deduce` answers. What that means
-- holds of the counts where there is room for both. Rests on the laws of a returned rule, of `Returning`, and on `CountedCalls`. Assumes nothing.
use mathlib.Core.Path.{◌≡◌}
use mathlib.Core.List.{[]}
use Rattle.export.specs.Returned.{returned, answered, list_counts}
use Rattle.export.proofs.Returning.{refusal_returned, acceptance_returned, deduction_returned_lem}
use Rattle.export.proofs.CountedCalls.{returned_number, returned_sound, returned_complete}
use Rattle.export.proofs.deduce_counted.Goals as goal

pub returns-in-Err : goal.returns-in-Err
returns-in-Err c =
    let a = c.args in
    let counts = a.counts.now in
    let told = refusal_returned list_counts {lent = []} counts c.in-Err.is c.from.ensures in
    let ensured = rw c.flat.ensures at c.deduce-answer.ensures in
    record {
      counts_after = deduction_returned_lem counts ensured.mines_after told;
      sound = λ room. returned_sound _ counts told room ensured.sound;
      complete = λ room. returned_complete _ counts told room a.rule a.rows a.columns a.position.now a.safe.now a.mines.now _ _ ensured.complete;
      six = rw (returned_number _ counts told) ensured.six;
    }

pub returns-in-Ok : goal.returns-in-Ok
returns-in-Ok c =
    let a = c.args in
    let counts = a.counts.now in
    let told = acceptance_returned list_counts {lent = []} counts c.in-Ok.is c.put_counts.ensures in
    let ensured = rw c.flat.ensures at c.deduce-answer.ensures in
    record {
      counts_after = deduction_returned_lem counts ensured.mines_after told;
      sound = λ room. returned_sound _ counts told room ensured.sound;
      complete = λ room. returned_complete _ counts told room a.rule a.rows a.columns a.position.now a.safe.now a.mines.now _ _ ensured.complete;
      six = rw (returned_number _ counts told) ensured.six;
    }
