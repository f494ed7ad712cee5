-- `window::is_inner` meets its contract, by its two ways. Assumes nothing.
use borrow.Author.Tests.{lt-ltb, le-ltb}
use Rattle.grid.proofs.window.is_inner.Goals as goal

pub returns-then-i-gt0 : goal.returns-then-i-gt0
returns-then-i-gt0 c = rw (lt-ltb _ _ c.if-i-gt0.true)

pub returns-else-i-gt0 : goal.returns-else-i-gt0
returns-else-i-gt0 c = rw (le-ltb _ _ c.if-i-gt0.false)
