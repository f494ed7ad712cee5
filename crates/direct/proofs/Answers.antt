-- What the two rules have in common on a list of blocks: what is true of each equation goes from the blocks to those made of them; a list of an answer
-- is made of the blocks' lists, from the last block to the first; and an answer with a contradiction has empty lists. Rests on TakenOut. Assumes nothing.
use mathlib.Core.Path.{◌≡◌, refl, sym, ◌∙◌}
use mathlib.Core.Bool.{Bool, true, false, not, cond, ◌&&◌}
use mathlib.Core.List.{List, [], map, reverse, Memᴰ}
use Prim.Native.Nat.{ℕ}
use Rattle.lists.specs.Lists.{keep, any, has}
use Rattle.lists.proofs.Tests.{and_right, clash}
use Rattle.lists.proofs.Unions.{has_joined_map}
use Rattle.lists.proofs.PassingElements.{any_reverse, Each, each_kept, each_mapped, each_joined, joined_each}
use Rattle.lists.proofs.Occurrences.{any_in}
use Rattle.blocks.specs.Blocks.{BlockEquation, Block}
use Rattle.blocks.specs.BlockSets.{all_equations}
use Rattle.direct.specs.Found.{contradicted, found}
use Rattle.direct.specs.Direct.{from_last}
use Rattle.direct.proofs.TakenOut.{SolvedBy, SolvesAll}

-- ---- each equation of all blocks

module _ (P : BlockEquation → Type 0) where
  -- what is true of each is true of those of each block
  pub each_of_block : (bs : List Block) → Each P (all_equations bs) → (b : Block) → Memᴰ b bs → Each P b.equations
  each_of_block = joined_each P (λ (b : Block). b.equations)

  -- and of those of blocks made of the blocks, where each block made keeps it
  pub each_of_made : (g : Block → Block) (bs : List Block) → ((b : Block) → Memᴰ b bs → Each P b.equations → Each P (g b).equations)
      → Each P (all_equations bs) → Each P (all_equations (map g bs))
  each_of_made g bs keeps h =
      each_joined P (λ (b : Block). b.equations) (map g bs)
      (each_mapped (λ (b : Block). Each P b.equations) g bs (λ b m. keeps b m (each_of_block bs h b m)))

  -- and of those of the blocks that are kept
  pub each_of_kept : (t : Block → Bool) (bs : List Block) → Each P (all_equations bs) → Each P (all_equations (keep t bs))
  each_of_kept t bs h =
      each_joined P (λ (b : Block). b.equations) (keep t bs) (each_kept (λ (b : Block). Each P b.equations) t bs (each_of_block bs h))

-- so what solves all equations solves those of each block
pub solves_block : (f : ℕ → Bool) (bs : List Block) → SolvesAll f (all_equations bs) → (b : Block) → Memᴰ b bs → SolvesAll f b.equations
solves_block f = each_of_block (SolvedBy f)

-- ---- the lists of the blocks, from the last to the first

module _ (g : Block → List ℕ) (bs : List Block) where
  -- a cell stands there exactly where it stands in the list of a block
  pub from_last_has : (c : ℕ) → has (from_last g bs) c ≡ any (λ b. has (g b) c) bs
  from_last_has c = has_joined_map g (reverse bs) c ∙ any_reverse (λ b. has (g b) c) bs

  -- so what holds of each cell in the list of each block holds of each cell there
  pub from_last_each : (P : ℕ → Type 0) → ((b : Block) → Memᴰ b bs → (c : ℕ) → has (g b) c ≡ true → P c)
      → (c : ℕ) → has (from_last g bs) c ≡ true → P c
  from_last_each P each c h = let (b, m, k) = any_in (λ b. has (g b) c) bs (sym (from_last_has c) ∙ h) in each b m c k

-- ---- an answer

module _ (safe mines : List ℕ) (left : List Block) where
  -- it has the contradiction that is asked for
  pub answer_contradiction : (t : Bool) → (cond t contradicted (found safe mines left)).contradiction ≡ t
  answer_contradiction true = refl
  answer_contradiction false = refl

  -- which comes alone
  pub answer_alone : (t : Bool) → (cond t contradicted (found safe mines left)).contradiction ≡ true → cond t contradicted (found safe mines left) ≡ contradicted
  answer_alone true h = refl
  answer_alone false h = clash false h refl

  -- where there is one its safe cells are none
  pub answer_safe : (t : Bool) → (cond t contradicted (found safe mines left)).safe ≡ cond t [] safe
  answer_safe true = refl
  answer_safe false = refl

  -- and so are its mines
  pub answer_mines : (t : Bool) → (cond t contradicted (found safe mines left)).mines ≡ cond t [] mines
  answer_mines true = refl
  answer_mines false = refl

  -- and no block is left
  pub answer_left : (t : Bool) → (cond t contradicted (found safe mines left)).left ≡ cond t [] left
  answer_left true = refl
  answer_left false = refl

-- a cell of a list that may be emptied
pub unless_listed : (t : Bool) (l : List ℕ) (c : ℕ) → has (cond t [] l) c ≡ (not t && has l c)
unless_listed true l c = refl
unless_listed false l c = refl

-- is one of the list
pub unless_has : (t : Bool) (l : List ℕ) (c : ℕ) → has (cond t [] l) c ≡ true → has l c ≡ true
unless_has t l c h = and_right (not t) (has l c) (sym (unless_listed t l c) ∙ h)
