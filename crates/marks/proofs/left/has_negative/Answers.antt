-- `marks::left::has_negative` meets its contract, by what std says of `any`. Assumes nothing.
use mathlib.Core.Path.{◌∙◌}
use lib.Dec.{ltb}
use borrow.Author.Rules.{rules}
use borrow.Author.Tests.{tests}
use Rattle.std.proofs.lemmas.Iterator.{YieldsList-from_slice}
use Rattle.std.proofs.lemmas.Iterator.Search.{any_from_yields_List}
use Rattle.lists.proofs.ByItems.{any_listed}
use Rattle.marks.proofs.left.has_negative.Goals as goal

pub returns : goal.returns
returns c =
    any_from_yields_List (λ r. ltb r 8) _ _ _ c.any.ensures.ran (YieldsList-from_slice c.args.rests.now cc) (λ x b q k. search (rules, tests))
    ∙ any_listed (λ r. ltb r 8) c.args.rests.now
