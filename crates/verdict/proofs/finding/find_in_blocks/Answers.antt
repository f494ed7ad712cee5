-- `finding::find_in_blocks` meets its contract: it returns after subtraction where that found a cell, else after enumeration. Rests on ThreeFindings and on the
-- contracts of the rules. Assumes nothing.
use mathlib.Core.Path.{sym, ap, ◌∙◌}
use borrow.Author.Rules.{rules}
use Rattle.direct.specs.Answers.{lists_in}
use Rattle.verdict.proofs.ThreeFindings.{takes_second, takes_third}
use Rattle.verdict.proofs.finding.find_in_blocks.Goals as goal

pub returns-then-found_cell : goal.returns-then-found_cell
returns-then-found_cell c = takes_second _ _ _ c.minus_cells-minus.ensures (sym c.found_cell.ensures ∙ c.if-found_cell.true)

pub enumerate_rule-requires : goal.enumerate_rule-requires
enumerate_rule-requires c = record { whole = c.requires.whole; combinable = c.requires.combinable }

pub returns : goal.returns
returns c =
    takes_third _ _ _ c.minus_cells-minus.ensures (sym c.found_cell.ensures ∙ c.if-found_cell.false) _
    (c.lists_of.ensures ∙ ap lists_in c.enumerate_rule.ensures.value)
