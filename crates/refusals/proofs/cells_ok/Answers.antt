-- `cells_ok` meets its contract: the library's test of each element is the definition's. Rests on the contract of `cell_ok`. Assumes nothing.
use mathlib.Core.Path.{◌∙◌}
use borrow.Author.Rules.{rules}
use borrow.Author.Tests.{tests}
use Rattle.std.proofs.lemmas.Iterator.{YieldsList-from_slice}
use Rattle.std.proofs.lemmas.Iterator.Search.{all_from_yields_List}
use Rattle.refusals.specs.SharedTests.{cell_in}
use Rattle.refusals.proofs.CellValues.{all_listed}
use Rattle.refusals.proofs.cells_ok.Goals as goal

pub returns : goal.returns
returns c =
    let a = c.args in
    all_from_yields_List (cell_in a.low a.high) _ _ _ c.all.ensures.ran (YieldsList-from_slice a.cells.now cc) (λ x b q k. search (rules, tests)) ∙ all_listed (cell_in a.low a.high) a.cells.now
