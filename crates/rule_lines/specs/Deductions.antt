-- Cited by no public contract. The answers of the calls that deduce to a line: `safe 1,5 mine 5 pos 0 12 0 1 1 11`, behind it the blocks left, ` blocks 0`,
-- where the rule hands them out; `refused 6`, or `unreadable`. Each list that is lent has room for 1024 cells. Assumes nothing.
use Rattle.std.specs.Prelude.{Result, Err, Bool, true, false, cond, List, [], ◌∷◌, ◌++◌, ℕ, take, replicate, Ok}
use Rattle.grid.specs.Window.{flat}
use Rattle.refusals.specs.declared.Refusal.{Refusal}
use Rattle.refusals.specs.Refusals.{refusal_number}
use Rattle.blocks.specs.declared.BlockSet.{BlockSet}
use Rattle.blocks.specs.BlockSets.{blocks_of}
use Rattle.deductions.specs.declared.answer.DeductionAnswer.{DeductionAnswer}
use Rattle.deductions.specs.Answers.{Seen, safe_count, mine_count, deduction}
use Rattle.deductions.specs.ByRule.{rule_on}
use Rattle.deductions.specs.declared.Rule.{Rule}
use Rattle.deductions.specs.declared.Rule.TheVariants.{Direct, Minus, Enumerate}
use Rattle.show.specs.Blocks.{numbers_text, blocks_text}
use Rattle.show.specs.Cells.{cells_text}
use Rattle.show.specs.Refusals.{refused_text}
use Rattle.lines.specs.declared.Line.{Line}
use Rattle.lines.specs.Lines.{line_of, answer_text}

-- `safe 1,5`
abbrev pub safe_text : List ℕ → List ℕ
safe_text l = (115 ∷ 97 ∷ 102 ∷ 101 ∷ 32 ∷ []) ++ numbers_text l

-- ` mine 5`
abbrev pub mine_text : List ℕ → List ℕ
mine_text l = (32 ∷ 109 ∷ 105 ∷ 110 ∷ 101 ∷ 32 ∷ []) ++ numbers_text l

-- ` pos 0 12 0 1 1 11`
abbrev pub position_text : List ℕ → List ℕ
position_text p = (32 ∷ 112 ∷ 111 ∷ 115 ∷ []) ++ cells_text p

-- the three, one after another
unfoldable pub found_text : Seen → List ℕ
found_text w = safe_text (take (safe_count w.answer) w.safe) ++ (mine_text (take (mine_count w.answer) w.mines) ++ position_text w.position)

-- does a rule leave blocks? enumeration does not
abbrev pub leaves_blocks : Rule → Bool
leaves_blocks Direct = true
leaves_blocks Minus = true
leaves_blocks Enumerate = false

-- ` blocks 0`: the blocks left
abbrev pub left_text : Rule → BlockSet → List ℕ
left_text rule set = cond (leaves_blocks rule) (32 ∷ blocks_text (blocks_of set)) []

abbrev pub text_after : Rule → Result DeductionAnswer Refusal → Seen → List ℕ
text_after rule (Err r) w = refused_text (refusal_number r)
text_after rule (Ok a) w = found_text w ++ left_text rule a.blocks

-- what the caller of a rule sees, as text
unfoldable pub deduction_text : Rule → Seen → List ℕ
deduction_text rule w = text_after rule w.answer w

-- what the caller of a rule sees of a line's position
abbrev pub called_on : Rule → Line → Seen
called_on rule l = deduction (rule_on rule) flat l.rows l.columns (take l.len l.cells) (replicate 1024 0) (replicate 1024 0)

-- a rule's answer to a line
unfoldable pub deduction_line : Rule → List ℕ → List ℕ
deduction_line rule line = answer_text (λ l. deduction_text rule (called_on rule l)) (line_of line)
