-- The subtraction rule on a block set, as the code puts it together: with its own lists (`Subtracts`) the direct rule's answer on what is left is a
-- contradiction or two more lists and the blocks left, and the struct that holds all of it is the rule's answer. Rests on the laws of blocks that fit.
-- Assumes nothing.
use mathlib.Core.Path.{◌≡◌, sym, ap, ◌∙◌}
use mathlib.Core.Bool.{true, false}
use mathlib.Core.List.{List, ◌++◌}
use Prim.Native.Nat.{◌+◌, ◌≤◌}
use Rattle.blocks.specs.Blocks.{Block}
use Rattle.blocks.specs.BlockSets.{block_set, blocks_of, Whole}
use Rattle.blocks.specs.declared.BlockSet.{BlockSet}
use Rattle.blocks.proofs.Reading.{blocks_of_set}
use Rattle.chunks.specs.Chunks.{chunk_matrixes}
use Rattle.marks.specs.Marked.{Ready, left_blocks}
use Rattle.marks.specs.CellLists.{cell_list}
use Rattle.std.specs.Prelude.{Ok, Err}
use Rattle.direct.specs.Found.{Found, contradicted}
use Rattle.direct.specs.Direct.{from_last, direct}
use Rattle.direct.specs.Answers.{rule_answer, AppendedLists}
use Rattle.direct.specs.declared.answer.Contradiction.{Contradiction}
use Rattle.direct.specs.declared.answer.Lists.{Lists}
use Rattle.direct.specs.declared.answer.RuleAnswer.{RuleAnswer}
use Rattle.direct.proofs.RuleAnswers.{Holds, answer_err, answer_ok, err_answered, ok_answered}
use Rattle.direct.proofs.LeftFits.{direct_left_fits}
use Rattle.subtraction.specs.Minus.{minus_mines, minus_safe, minus_blocks, subtraction}
use Rattle.subtraction.specs.Pairs.{Subtracts}
use Rattle.subtraction.specs.declared.Subtracted.{Subtracted}
use Rattle.subtraction.proofs.LeftFits.{minus_fits}
use Rattle.subtraction.proofs.ReadyBlocks.{minus_ready, mines_room, safe_room}

-- ---- the answers of the two rules

-- where the direct rule finds the contradiction
subtraction_contradicted : (bs : List Block) → (direct (minus_blocks bs)).contradiction ≡ true → subtraction bs ≡ contradicted
unfolding subtraction
subtraction_contradicted bs h = rw h

-- else both lists go on with those of the direct rule, and its blocks are split once more
module _ (bs : List Block) (none : (direct (minus_blocks bs)).contradiction ≡ false) where
  subtraction_found : (subtraction bs).contradiction ≡ false
  unfolding subtraction
  subtraction_found = rw none

  pub found_safe : (subtraction bs).safe ≡ from_last minus_safe bs ++ (direct (minus_blocks bs)).safe
  unfolding subtraction
  found_safe = rw none

  pub found_mines : (subtraction bs).mines ≡ from_last minus_mines bs ++ (direct (minus_blocks bs)).mines
  unfolding subtraction
  found_mines = rw none

  found_left : (subtraction bs).left ≡ chunk_matrixes (direct (minus_blocks bs)).left
  unfolding subtraction
  found_left = rw none

-- ---- on a set

-- `left` holds what the marks leave
module _ (s : BlockSet) (w : Whole s) (ready : Ready (blocks_of s)) (own : Subtracted) (told : Subtracts (blocks_of s) own)
    (left : BlockSet) (left_is : left ≡ block_set (left_blocks true own.known.mines own.known.cells (blocks_of s))) where
  abbrev bs : List Block
  bs = blocks_of s

  blocks_left : blocks_of left ≡ minus_blocks bs
  blocks_left = ap blocks_of (left_is ∙ ap block_set told.blocks_left) ∙ blocks_of_set (minus_blocks bs) (minus_fits bs w.fits)

  -- it is ready for the direct rule
  pub left_ready : Ready (blocks_of left)
  left_ready = rw blocks_left (minus_ready bs ready)

  found_again : direct (blocks_of left) ≡ direct (minus_blocks bs)
  found_again = ap direct blocks_left

  -- the contradiction is handed on
  pub rule_contradicted : (e f : Contradiction) → Err e ≡ rule_answer (direct (blocks_of left)) → Err f ≡ rule_answer (subtraction bs)
  rule_contradicted e f h =
      let none = err_answered (direct (minus_blocks bs)) e (rw found_again at h) in
      answer_err (subtraction bs) f (ap (λ (x : Found). x.contradiction) (subtraction_contradicted bs none))

  -- else `rule` is what that answers
  module _ (rule : RuleAnswer) (rule_is : Ok rule ≡ rule_answer (direct (blocks_of left))) where
    rule_holds : Holds (direct (minus_blocks bs)) rule
    rule_holds = ok_answered (direct (minus_blocks bs)) rule (rw found_again at rule_is)

    -- its blocks are read back
    rule_left : blocks_of rule.left ≡ (direct (minus_blocks bs)).left
    rule_left = ap blocks_of rule_holds.left_is ∙ blocks_of_set (direct (minus_blocks bs)).left (direct_left_fits (minus_blocks bs) (minus_fits bs w.fits))

    -- there is room for both lists
    pub all_fit : (own.lists.safe.count + rule.lists.safe.count ≤ 1024) × (own.lists.mines.count + rule.lists.mines.count ≤ 1024)
    all_fit = (rw (told.safe_are, rule_holds.safe_are) (safe_room bs ready w.fits), rw (told.mines_are, rule_holds.mines_are) (mines_room bs ready w.fits))

    -- and the struct that holds them, with the blocks left, is the rule's answer
    pub rule_answered : (lists : Lists) → AppendedLists own.lists rule.lists lists → (split : BlockSet) → split ≡ block_set (chunk_matrixes (blocks_of rule.left))
        → Ok (record { lists = lists; left = split }) ≡ rule_answer (subtraction bs)
    rule_answered lists appended split split_is =
        let none = rule_holds.none in
        answer_ok (subtraction bs) _ (record {
          none = subtraction_found bs none;
          safe_are = appended.0 (from_last minus_safe bs) (direct (minus_blocks bs)).safe told.safe_are rule_holds.safe_are ∙ ap cell_list (sym (found_safe bs none));
          mines_are = appended.1 (from_last minus_mines bs) (direct (minus_blocks bs)).mines told.mines_are rule_holds.mines_are ∙ ap cell_list (sym (found_mines bs none));
          left_is = split_is ∙ ap (λ (r : List Block). block_set (chunk_matrixes r)) rule_left ∙ ap block_set (sym (found_left bs none));
        })
