-- `Unmet::all_met` meets its contract: the iterator tests the needs of the equations, and past the equations they are 0. Assumes nothing.
use mathlib.Core.Path.{◌∙◌}
use borrow.Author.Rules.{rules}
use borrow.Author.Tests.{tests}
use lib.Dec.{eqb}
use lib.ListN.{take}
use Rattle.std.proofs.lemmas.Iterator.{YieldsList-from_slice}
use Rattle.std.proofs.lemmas.Iterator.Search.{all_from_yields_List}
use Rattle.search.proofs.ListLaws.{all_listed, zeros_before}
use Rattle.search.proofs.Unmet.all_met.Goals as goal

pub returns : goal.returns
returns c =
    let needs = c.args.self.now.needs in
    let few = take c.args.equations needs in
    all_from_yields_List (λ n. eqb n 0) _ _ _ c.all.ensures.ran (YieldsList-from_slice few cc) (λ x b q k. search (rules, tests)) ∙ all_listed (λ n. eqb n 0) few ∙ zeros_before needs c.args.equations c.requires.1
