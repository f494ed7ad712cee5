-- `subtraction::minus_rule` meets its contract: the direct rule runs on what its own marks leave, and its contradiction is handed on, or its lists go behind
-- those of the marks. There is room for both, since they are cells of the set. Rests on the laws of the rule's answer on a set. Assumes nothing.
use mathlib.Core.Path.{sym, ◌∙◌}
use Rattle.std.proofs.lemmas.Result.{err_from_is_err_and}
use Rattle.subtraction.proofs.MinusAnswer.{left_ready, rule_contradicted, all_fit, rule_answered}
use Rattle.subtraction.proofs.minus_rule.Goals as goal

pub left_blocks-requires : goal.left_blocks-requires
left_blocks-requires c = c.requires.whole

pub direct_rule-requires : goal.direct_rule-requires
direct_rule-requires c = record { whole = c.left_blocks.ensures.whole; ready = left_ready c.args.set c.requires.whole c.requires.ready c.subtract-own.result c.subtract-own.ensures _ (rw c.subtract-own.ensures.subtracted at c.left_blocks.ensures.value) }

pub returns-in_err-rule : goal.returns-in_err-rule
returns-in_err-rule c =
    let p = err_from_is_err_and c.from_residual.result c.from_residual.ensures.1 in
    rw p.1
    (record {
      value = rule_contradicted c.args.set c.requires.whole c.requires.ready c.subtract-own.result c.subtract-own.ensures _ (rw c.subtract-own.ensures.subtracted at c.left_blocks.ensures.value)
          c.in_err-rule.field-0.0 _ (sym c.in_err-rule.was ∙ c.direct_rule.ensures.value);
      left_whole = tt;
    })

pub followed_by-requires : goal.followed_by-requires
followed_by-requires c =
    all_fit c.args.set c.requires.whole c.requires.ready c.subtract-own.result c.subtract-own.ensures _ (rw c.subtract-own.ensures.subtracted at c.left_blocks.ensures.value)
    c.in_ok-rule.rule (sym c.in_ok-rule.was ∙ c.direct_rule.ensures.value)

pub chunk_matrixes-requires : goal.chunk_matrixes-requires
chunk_matrixes-requires c = c.in_ok-rule.ensures.left_whole

pub returns : goal.returns
returns c =
    record {
      value = rule_answered c.args.set c.requires.whole c.requires.ready c.subtract-own.result c.subtract-own.ensures _ (rw c.subtract-own.ensures.subtracted at c.left_blocks.ensures.value)
          c.in_ok-rule.rule (sym c.in_ok-rule.was ∙ c.direct_rule.ensures.value) _ c.followed_by.ensures _ c.chunk_matrixes.ensures.value;
      left_whole = c.chunk_matrixes.ensures.whole;
    }
