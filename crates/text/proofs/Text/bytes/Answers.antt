-- `Text::bytes` meets its contract: each turn writes one byte behind those before it. Assumes nothing.
use Rattle.std.proofs.lemmas.List.{take_more}
use Rattle.text.proofs.Writing.{wrote_both}
use Rattle.text.proofs.Text.bytes.Goals as goal

pub loop-byte-preserved : goal.loop-byte-preserved
loop-byte-preserved c = rw (take_more c.args.bytes.now c.loop-byte.byte-index 0 c.loop-byte-test.true) (wrote_both c.loop-byte.invariant c.byte.ensures)
