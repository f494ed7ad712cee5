-- What the direct rule answers where no equation is negative: the lists of the two sweeps, which are the blocks' lists, and the blocks left, split anew. Rests on
-- the laws of listed cells and of all blocks. Assumes nothing.
use mathlib.Core.Path.{◌≡◌, refl, ap, ◌∙◌}
use mathlib.Core.Bool.{false}
use mathlib.Core.List.{List, map}
use Rattle.blocks.specs.Blocks.{BlockEquation, Block}
use Rattle.blocks.specs.BlockSets.{all_equations, block_set}
use Rattle.blocks.specs.declared.BlockSet.{BlockSet}
use Rattle.chunks.specs.Chunks.{chunk_matrixes}
use Rattle.marks.specs.Marked.{Ready}
use Rattle.marks.specs.CellLists.{cell_list}
use Rattle.direct.specs.Direct.{sure_mines, sure_safe, direct_left, negative, direct}
use Rattle.direct.specs.Answers.{Sweeps, rule_answer, swept_lists}
use Rattle.std.specs.Prelude.{Ok}
use Rattle.direct.specs.declared.direct.Swept.{Swept}
use Rattle.direct.proofs.RuleAnswers.{lists_made, answer_ok}
use Rattle.direct.proofs.AllBlocks.{mines_of_all, safe_of_all}

-- ---- none is negative

module _ (bs : List Block) (ready : Ready bs) (fine : negative (map direct_left bs) ≡ false) where
  -- the lists in their arrays, and the blocks left
  pub answer_found : (r : Swept) → Sweeps (all_equations bs) r → (left : BlockSet) → left ≡ block_set (chunk_matrixes (map direct_left bs))
      → Ok (record { lists = r.lists; left = left }) ≡ rule_answer (direct bs)
  unfolding direct
  answer_found r w left is =
      rw fine
      (answer_ok _ _ (record {
        none = refl;
        safe_are = w.safe_are ∙ ap cell_list (safe_of_all bs ready);
        mines_are = w.mines_are ∙ ap cell_list (mines_of_all bs ready);
        left_is = is;
      }))

-- ---- the lists alone

-- those of the two sweeps over any equations
pub lists_swept : (es : List BlockEquation) (r : Swept) → Sweeps es r → r.lists ≡ swept_lists es
lists_swept es r w = lists_made r.lists (sure_safe es) (sure_mines es) w.safe_are w.mines_are
