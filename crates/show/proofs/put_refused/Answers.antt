-- `show::put_refused` meets its contract: the word and the number are one text. Assumes nothing.
use mathlib.Core.Path.{◌∙◌}
use Rattle.text.proofs.Writing.{wrote_both}
use Rattle.show.proofs.put_refused.Goals as goal

pub returns : goal.returns
returns c = wrote_both c.bytes.ensures (rw (c.from-2.ensures ∙ c.from.ensures) at c.number.ensures)
