-- `put_left` meets its contract: the space and the blocks are one text, where the rule leaves blocks. Assumes nothing.
use mathlib.Core.Path.{◌≡◌}
use mathlib.Core.Logic.{◌⊎◌, inl, inr}
use mathlib.Core.List.{◌∷◌}
use Rattle.blocks.specs.declared.BlockSet.{BlockSet}
use Rattle.blocks.specs.BlockSets.{blocks_of}
use Rattle.deductions.specs.declared.Rule.{Rule}
use Rattle.deductions.specs.declared.Rule.TheVariants.{Direct, Minus}
use Rattle.text.proofs.Writing.{wrote_both}
use Rattle.show.specs.Blocks.{blocks_text}
use Rattle.rule_lines.specs.Deductions.{left_text}
use Rattle.rule_lines.proofs.put_left.Goals as goal

leaves : (rule : Rule) (set : BlockSet) → (rule ≡ Direct) ⊎ (rule ≡ Minus) → left_text rule set ≡ 32 ∷ blocks_text (blocks_of set)
leaves rule set (inl e) = rw e
leaves rule set (inr e) = rw e

pub returns-in-Direct : goal.returns-in-Direct
returns-in-Direct c = rw (leaves c.args.rule c.args.left.now c.in-Direct.is) (wrote_both c.bytes.ensures c.put_blocks.ensures)
