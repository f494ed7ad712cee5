-- `put_slices` meets its contract: by the verdict's form it writes nothing, or the two words with the numbers behind each, which are one text. Assumes nothing.
use Rattle.refusals.proofs.FirstFailure.{refusal_not_zero}
use Rattle.text.proofs.Writing.{wrote_none, wrote_both}
use Rattle.board_lines.proofs.verdicts.put_slices.Goals as goal

pub returns-in-Err : goal.returns-in-Err
returns-in-Err c = rw (c.in-Err.is, refusal_not_zero) (wrote_none c.args.out.now)

pub returns-in-Ok : goal.returns-in-Ok
returns-in-Ok c = rw c.in-Ok.is (wrote_both (wrote_both c.bytes.ensures c.put_cells.ensures) (wrote_both c.bytes-in-Ok.ensures c.put_rounds.ensures))
