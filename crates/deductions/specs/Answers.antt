-- The calls on a position (SPECIFICATION 4.3 and 8): what a caller sees of a rule's answer, refusals first, and the three calls. Assumes nothing.
use Rattle.std.specs.Prelude.{◌≡◌, Bool, cond, List, ℕ, ◌≤◌, length, Result, Ok, Err}
use Rattle.std.proofs.lemmas.List.Edits.{sets}
use Rattle.grid.specs.Window.{neighbours}
use Rattle.refusals.specs.declared.Refusal.{Refusal}
use Rattle.refusals.specs.declared.Refusal.TheVariants.{Contradiction}
use Rattle.refusals.specs.Tests.{deduction_tested}
use Rattle.blocks.specs.Blocks.{Block}
use Rattle.blocks.specs.BlockSets.{block_set, blocks_of}
use Rattle.frontier.specs.Frontier.{frontier}
use Rattle.marks.specs.CellLists.{Below}
use Rattle.marks.specs.Written.{written}
use Rattle.direct.specs.Found.{Found}
use Rattle.direct.specs.Direct.{direct}
use Rattle.direct.specs.declared.answer.RuleAnswer.{RuleAnswer}
use Rattle.subtraction.specs.Minus.{subtraction}
use Rattle.enumeration.specs.Enumeration.{enumerated}
use Rattle.deductions.specs.declared.answer.DeductionAnswer.{DeductionAnswer}
use Rattle.refusals.specs.Refusals.{Tested}

-- a struct that holds lists of cells below n, which fit into slices of s and m entries, and blocks, and nothing else
pub record Held (r : RuleAnswer) (n s m : ℕ) : Type 0 where
  pub safe_below : Below n r.lists.safe
  pub mines_below : Below n r.lists.mines
  pub room_safe : r.lists.safe.count ≤ s
  pub room_mines : r.lists.mines.count ≤ m
  pub left_is : r.left ≡ block_set (blocks_of r.left)

-- what the caller sees after the call: the answer, and each slice that was lent
pub record Seen : Type 0 where
  pub answer : Result DeductionAnswer Refusal
  pub position : List ℕ
  pub safe : List ℕ
  pub mines : List ℕ

abbrev pub seen : Result DeductionAnswer Refusal → List ℕ → List ℕ → List ℕ → Seen
seen r p s m = record { answer = r; position = p; safe = s; mines = m }

-- the counts of the two lists; a refusal has none
abbrev pub safe_count : Result DeductionAnswer Refusal → ℕ
safe_count (Ok a) = a.safe
safe_count (Err r) = 0

abbrev pub mine_count : Result DeductionAnswer Refusal → ℕ
mine_count (Ok a) = a.mines
mine_count (Err r) = 0

-- a refusal: its name alone, and every slice as it was
abbrev pub refused : Refusal → List ℕ → List ℕ → List ℕ → Seen
refused r p s m = seen (Err r) p s m

-- a contradiction is refusal 6; else the lists, each at the front of its slice; the position with 12 at each safe cell and 11 at each mine, 11 where a cell is in both lists
unfoldable pub after_found : Found → List ℕ → List ℕ → List ℕ → Seen
after_found f p s m =
    cond f.contradiction (refused Contradiction p s m)
    (seen (Ok (record { safe = length f.safe; mines = length f.mines; blocks = block_set f.left }))
    (written 11 f.mines (written 12 f.safe p))
    (sets s 0 f.safe)
    (sets m 0 f.mines))

-- refusals 1 to 3 first
abbrev pub deduction_after_tests : Tested → Found → List ℕ → List ℕ → List ℕ → Seen
deduction_after_tests (Ok _) f p s m = after_found f p s m
deduction_after_tests (Err r) f p s m = refused r p s m

-- a rule called on a position: it reads a fresh frontier
abbrev pub deduction : (List Block → Found) → Bool → ℕ → ℕ → List ℕ → List ℕ → List ℕ → Seen
deduction rule edgeless rows columns p s m =
    deduction_after_tests (deduction_tested rows columns p (length s) (length m)) (rule (frontier (neighbours edgeless rows columns) p)) p s m

abbrev pub solve_direct : Bool → ℕ → ℕ → List ℕ → List ℕ → List ℕ → Seen
solve_direct edgeless rows columns p s m = deduction direct edgeless rows columns p s m

abbrev pub solve_minus : Bool → ℕ → ℕ → List ℕ → List ℕ → List ℕ → Seen
solve_minus edgeless rows columns p s m = deduction subtraction edgeless rows columns p s m

abbrev pub solve_enumerate : Bool → ℕ → ℕ → List ℕ → List ℕ → List ℕ → Seen
solve_enumerate edgeless rows columns p s m = deduction enumerated edgeless rows columns p s m
