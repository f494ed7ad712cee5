use lib.ListN.{take}
use Rattle.text.specs.Text.{Wrote}
use Rattle.text.proofs.Text.bytes.Given as goal

abbrev pub invariant-loop-byte : goal.invariant-loop-byte
invariant-loop-byte l = Wrote l.initial.self l.self (take l.byte-index l.bytes)
