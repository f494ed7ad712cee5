-- `direct::direct::direct_rule` meets its contract. The equations read are those of all blocks; the two sweeps list the mines and the safe cells of all of
-- them; what is left by their marks is what the direct rule leaves, and the set that holds it has a negative remainder exactly where one of its blocks
-- has. Rests on the laws of all blocks at once. Assumes nothing.
use mathlib.Core.Path.{◌≡◌, sym, ap, ◌∙◌}
use mathlib.Core.List.{List, map}
use Rattle.blocks.specs.Blocks.{Block}
use Rattle.blocks.specs.BlockSets.{all_equations, block_set, blocks_of}
use Rattle.chunks.specs.Chunks.{chunk_matrixes}
use Rattle.direct.specs.Direct.{direct_left, negative, direct}
use Rattle.direct.specs.Answers.{Sweeps}
use Rattle.direct.proofs.WholeSets.{few_equations, equations_of_all, slots_of_all, negative_of_all}
use Rattle.direct.proofs.LeftByMarks.{left_of_all}
use Rattle.direct.proofs.SmallerBlocks.{direct_fits}
use Rattle.direct.proofs.DirectAnswer.{answer_found}
use Rattle.direct.proofs.RuleAnswers.{answer_err}
use Rattle.direct.proofs.DirectLaws.{direct_contradiction}
use Rattle.blocks.proofs.Reading.{blocks_of_set}
use Rattle.blocks.proofs.Behind.{blocks_few}
use Rattle.direct.proofs.direct.direct_rule.Goals as goal
use Rattle.direct.proofs.direct.direct_rule.Goals.{After-has_negative, After-left_blocks-left, After-sweep-found}

pub next_equation-equations-requires : goal.next_equation-equations-requires
next_equation-equations-requires c = blocks_few c.args.set c.requires.whole

pub sweep-found-requires : goal.sweep-found-requires
sweep-found-requires c = slots_of_all c.args.set c.requires.whole _ c.next_equation-equations.ensures

-- the blocks that the set holds
abbrev blocks : After-sweep-found → List Block
blocks c = blocks_of c.args.set

-- the lists are those of the equations of all blocks
swept : (c : After-sweep-found) → Sweeps (all_equations (blocks c)) c.sweep-found.result
swept c = rw (equations_of_all c.args.set c.requires.whole _ c.next_equation-equations.ensures) at c.sweep-found.ensures

pub left_blocks-left-requires : goal.left_blocks-left-requires
left_blocks-left-requires c = c.requires.whole

-- the blocks of which it was made
abbrev all_blocks : After-left_blocks-left → List Block
all_blocks c = blocks (goal.at.After-left_blocks-left c).After-sweep-found

-- it is what the direct rule leaves of the blocks
left_made : (c : After-left_blocks-left) → c.left_blocks-left.result ≡ block_set (map direct_left (all_blocks c))
left_made c =
    let w = swept (goal.at.After-left_blocks-left c).After-sweep-found in
    let r = c.sweep-found.result in
    c.left_blocks-left.ensures.value
    ∙ ap block_set
    (left_of_all (all_blocks c) c.requires.ready c.requires.whole.fits.on_board r.mine_marks r.safe_marks _
    w.mines_marked w.safe_marked c.marked_in_one.ensures)

-- and reads as that
left_read : (c : After-left_blocks-left) → blocks_of c.left_blocks-left.result ≡ map direct_left (all_blocks c)
left_read c =
    ap blocks_of (left_made c) ∙ blocks_of_set (map direct_left (all_blocks c)) (direct_fits (all_blocks c) c.requires.whole.fits)

pub next_equation-end-requires : goal.next_equation-end-requires
next_equation-end-requires c = let l = c.left_blocks-left in blocks_few l.result l.ensures.whole

pub shared_ref_as_front-rests : goal.shared_ref_as_front-rests
shared_ref_as_front-rests c = let l = c.left_blocks-left in few_equations l.result l.ensures.whole _ c.next_equation-end.ensures

-- an equation of it is negative exactly where one that the direct rule leaves is
negative_asked : (c : After-has_negative) → c.has_negative.result ≡ negative (map direct_left (all_blocks (goal.at.After-has_negative c).After-left_blocks-left))
negative_asked c =
    let l = c.left_blocks-left in
    c.has_negative.ensures ∙ negative_of_all l.result l.ensures.whole _ c.next_equation-end.ensures ∙ ap negative (left_read (goal.at.After-has_negative c).After-left_blocks-left)

pub returns-then-has_negative : goal.returns-then-has_negative
returns-then-has_negative c =
    let bs = all_blocks (goal.at.returns-then-has_negative c).After-left_blocks-left in
    record { value = answer_err (direct bs) _ (direct_contradiction bs ∙ sym (negative_asked (goal.at.returns-then-has_negative c).After-has_negative) ∙ c.if-has_negative.true); left_whole = tt }

pub chunk_matrixes-requires : goal.chunk_matrixes-requires
chunk_matrixes-requires c = c.left_blocks-left.ensures.whole

pub returns : goal.returns
returns c =
    record {
      value = answer_found (all_blocks (goal.at.returns c).After-left_blocks-left) c.requires.ready (sym (negative_asked (goal.at.returns c).After-has_negative) ∙ c.if-has_negative.false) c.sweep-found.result (swept (goal.at.returns c).After-sweep-found) _
          (c.chunk_matrixes.ensures.value ∙ ap (λ (bs : List Block). block_set (chunk_matrixes bs)) (left_read (goal.at.returns c).After-left_blocks-left));
      left_whole = c.chunk_matrixes.ensures.whole;
    }
