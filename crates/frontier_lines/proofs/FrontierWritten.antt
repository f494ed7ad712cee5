-- The writes that make up the frontier's answer, and that its block set can be read: the frontier fits into it, and a refusal has none. Rests on the law
-- of two writes joined, of the crate text, and on what an acceptance tells. Assumes nothing.
use mathlib.Core.Path.{◌≡◌, refl}
use mathlib.Core.List.{List, [], ◌∷◌}
use Prim.Native.Nat.{ℕ}
use Rattle.std.specs.Prelude.{Ok, Err}
use Rattle.grid.specs.Window.{flat, neighbours}
use Rattle.refusals.specs.Refusals.{Tested}
use Rattle.refusals.specs.Tests.{position_tested}
use Rattle.refusals.proofs.Accepted.{accepted_position}
use Rattle.blocks.specs.BlockSets.{block_set, blocks_of, Whole}
use Rattle.blocks.proofs.Behind.{set_whole}
use Rattle.frontier.specs.declared.FrontierAnswer.{FrontierAnswer}
use Rattle.frontier.specs.Frontier.{frontier}
use Rattle.frontier.specs.Answer.{frontier_after_tests, refresh_matrixs}
use Rattle.frontier.proofs.ReadFrontier.{frontier_fits}
use Rattle.text.specs.declared.Text.{Text}
use Rattle.text.specs.Text.{decimal, Wrote}
use Rattle.text.proofs.Writing.{wrote_both}
use Rattle.show.specs.Blocks.{blocks_text}
use Rattle.frontier_lines.specs.Frontier.{frontier_text}

-- ---- the block set

pub answer_whole : (rows columns : ℕ) (p : List ℕ) (answer : FrontierAnswer) → refresh_matrixs flat rows columns p ≡ Ok answer → Whole answer.blocks
unfolding refresh_matrixs
answer_whole rows columns p answer is = go (position_tested rows columns p) refl is
  where
    go : (t : Tested) → position_tested rows columns p ≡ t → frontier_after_tests t flat rows columns p ≡ Ok answer → Whole answer.blocks
    go (Ok _) e h =
        let blocks : block_set (frontier (neighbours flat rows columns) p) ≡ answer.blocks = cc in
        rw (← blocks) (set_whole (frontier (neighbours flat rows columns) p) _ refl (frontier_fits flat rows columns p (accepted_position rows columns p e).board))
    go (Err r) e h = absurd (cc)

-- ---- the writes

-- where it isn't refused
pub accepted_frontier : {before inside cells mines known gap after : Text} (answer : FrontierAnswer)
    → Wrote before inside (105 ∷ 110 ∷ 115 ∷ 105 ∷ 100 ∷ 101 ∷ 32 ∷ []) → Wrote inside cells (decimal answer.inside_cell)
    → Wrote cells mines (32 ∷ 109 ∷ 105 ∷ 110 ∷ 101 ∷ 115 ∷ 32 ∷ []) → Wrote mines known (decimal answer.is_minenum)
    → Wrote known gap (32 ∷ []) → Wrote gap after (blocks_text (blocks_of answer.blocks))
    → Wrote before after (frontier_text (Ok answer))
accepted_frontier answer v w x y z blocks = wrote_both (wrote_both v w) (wrote_both (wrote_both x y) (wrote_both z blocks))
