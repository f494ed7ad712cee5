-- `may_begin` meets its contract: its tests go the ways of the definition. Assumes nothing.
use mathlib.Core.Path.{◌∙◌}
use native.Mathlib.Omega.{arith}
use Rattle.migration.proofs.Fronts.{begin_none, begin_lone, begin_more}
use Rattle.migration.proofs.may_begin.Goals as goal

pub returns-in-empty : goal.returns-in-empty
returns-in-empty c = begin_none _ (omega (arith, c.in-empty.len_below))

pub returns-in-len1 : goal.returns-in-len1
returns-in-len1 c = begin_lone _ (omega (arith, c.in-len1.len_at_least, c.in-len1.len_below))

pub returns-in-len2-up : goal.returns-in-len2-up
returns-in-len2-up c =
    let two = c.in-len2-up.len_at_least in
    c.is_mark.ensures ∙ begin_more _ (λ none. omega (arith, two, none)) (λ lone. omega (arith, two, lone))
