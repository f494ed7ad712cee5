-- Cited by no public contract. What the functions of subtraction are told and tell: equations at their places, no cell twice in one; what all pairs of a set
-- tell, in arrays; and the lists that the rule finds, in the struct that a verdict reads. Assumes nothing.
use Rattle.std.specs.Prelude.{◌≡◌, Bool, true, ◌&&◌, List, ◌++◌, ℕ, ◌<◌, get_or}
use Rattle.lists.specs.Lists.{any, nodup}
use Rattle.blocks.specs.Blocks.{Block, BlockEquation}
use Rattle.blocks.specs.BlockSets.{all_equations, slot_cells}
use Rattle.marks.specs.Marked.{left_equations, left_blocks}
use Rattle.marks.specs.CellLists.{cell_list}
use Rattle.direct.specs.Direct.{sure_mines, sure_safe, from_last}
use Rattle.direct.specs.declared.answer.Lists.{Lists}
use Rattle.direct.specs.Answers.{lists_of}
use Rattle.subtraction.specs.Minus.{minus_mines, minus_safe, left_of, exceeds, minus_blocks}
use Rattle.subtraction.specs.declared.Subtracted.{Subtracted}

-- what subtraction finds in blocks: its own lists, then what the sweeps find in all that is left
abbrev pub minus_lists : List Block → Lists
minus_lists bs = lists_of (from_last minus_safe bs ++ sure_safe (left_of bs)) (from_last minus_mines bs ++ sure_mines (left_of bs))

-- the equation at a place
abbrev pub equation_in : List ℕ → List ℕ → ℕ → BlockEquation
equation_in slots rests e = record { cells = slot_cells slots e; rest = get_or rests e 0 }

-- before a place no equation has a cell twice
pub record Once (slots : List ℕ) (end : ℕ) : Type 0 where
  pub at : (e : ℕ) → e < end → nodup (slot_cells slots e) ≡ true

-- an equation exceeds one of a list, and the two pass a test
abbrev pub some_other : (BlockEquation → BlockEquation → Bool) → BlockEquation → List BlockEquation → Bool
some_other t e es = any (λ (f : BlockEquation). exceeds e f && t e f) es

-- what all pairs of all blocks tell: the rule's own lists, and marks by which there is left what the rule leaves
pub record Subtracts (bs : List Block) (r : Subtracted) : Type 0 where
  pub subtracted : r.known.subtracted ≡ true
  pub safe_are : r.lists.safe ≡ cell_list (from_last minus_safe bs)
  pub mines_are : r.lists.mines ≡ cell_list (from_last minus_mines bs)
  pub blocks_left : left_blocks true r.known.mines r.known.cells bs ≡ minus_blocks bs
  pub equations_left : left_equations true r.known.mines r.known.cells (all_equations bs) ≡ left_of bs
