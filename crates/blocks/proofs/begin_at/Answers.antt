-- `blocks::begin_at` meets its contract. Assumes nothing.
use mathlib.Core.Path.{◌∙◌}
use Rattle.blocks.proofs.Between.{begin_first, begin_later}
use Rattle.blocks.proofs.begin_at.Goals as goal

pub returns-then-k-eq0 : goal.returns-then-k-eq0
returns-then-k-eq0 c = begin_first c.args.ends.now c.args.k c.if-k-eq0.true

pub returns-else-k-eq0 : goal.returns-else-k-eq0
returns-else-k-eq0 c = c.wide.ensures ∙ begin_later c.args.ends.now c.args.k c.if-k-eq0.false
