-- `export::put_count` meets its contract: a store past the end of a list changes nothing. Assumes nothing.
use mathlib.Core.Path.{sym}
use native.Mathlib.Omega.{arith}
use borrow.Author.Rules.{rules}
use lib.Seq.{set_out}
use Rattle.export.proofs.put_count.Goals as goal

pub returns-else-at-counts : goal.returns-else-at-counts
returns-else-at-counts c = sym (set_out _ _ _ (omega arith))
