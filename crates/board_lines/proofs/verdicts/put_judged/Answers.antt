-- `put_judged` meets its contract: the verdict and what stands behind it are one text. Assumes nothing.
use Rattle.text.proofs.Writing.{wrote_both}
use Rattle.board_lines.proofs.verdicts.put_judged.Goals as goal

pub returns : goal.returns
returns c = wrote_both c.put_verdict.ensures c.put_slices.ensures
