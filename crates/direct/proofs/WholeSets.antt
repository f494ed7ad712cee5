-- All equations of a block set, read in one go. A set that holds its blocks and nothing else has the equations of all blocks one after another, before the
-- place where the last block's end; each has few cells, and one is negative exactly where one of a block is. Rests on the laws of reading a set.
-- Assumes nothing.
use mathlib.Core.Path.{◌≡◌, sym, ap, ◌∙◌}
use mathlib.Core.Bool.{true, ◌&&◌}
use mathlib.Core.List.{List, map}
use Prim.Native.Nat.{ℕ, ◌-◌, ◌≤◌, ◌<◌}
use native.Mathlib.Omega.{arith}
use lib.Dec.{leb, ltb}
use lib.ListN.{length, get_or, take}
use Rattle.lists.specs.Lists.{range, any, all}
use Rattle.lists.proofs.Tests.{and_left, and_right}
use Rattle.lists.proofs.All.{all_at}
use Rattle.lists.proofs.Joined.{read_all, map_range, read_range}
use Rattle.lists.proofs.PassingElements.{any_map, any_joined_map}
use Rattle.blocks.specs.Blocks.{BlockEquation, Block}
use Rattle.blocks.specs.BlockSets.{all_equations, slot_cells, begin_at, equation_at, blocks_of, small_equation, Whole}
use Rattle.blocks.specs.Places.{Slots, equations_from}
use Rattle.blocks.specs.declared.BlockSet.{BlockSet}
use Rattle.blocks.proofs.Reading.{no_equation, equation_read}
use Rattle.blocks.proofs.Behind.{slots_long, rests_long, equations_held}
use Rattle.direct.specs.Direct.{negative}
use Rattle.direct.proofs.TakenOut.{is_negative}

-- the equations of the last block end at place n
module _ (s : BlockSet) (w : Whole s) (n : ℕ) (at : n ≡ begin_at s.equation_ends s.blocks) where
  abbrev es : List BlockEquation
  es = all_equations (blocks_of s)

  -- so n is the number of all equations
  counted : n ≡ length es
  counted = at ∙ equations_held s w

  -- which is at most 1,024
  pub few_equations : n ≤ 1024
  few_equations = omega (arith, counted, w.fits.few_equations)

  one_read : (e : ℕ) → e < length es → equation_at s e ≡ get_or es e no_equation
  one_read e h = ap (λ (x : BlockSet). equation_at x e) w.is ∙ equation_read (blocks_of s) w.fits.small e h

  all_read : map (equation_at s) (range 0 n) ≡ es
  all_read =
      ap (λ (k : ℕ). map (equation_at s) (range 0 k)) counted
      ∙ map_range (equation_at s) (λ (e : ℕ). get_or es e no_equation) 0 (length es) (λ e l u. one_read e (omega arith))
      ∙ read_all es no_equation

  -- the equations before place n are those of all blocks
  pub equations_of_all : equations_from s.slots s.rests 0 n ≡ all_equations (blocks_of s)
  unfolding equations_from
  equations_of_all = let e : n - 0 ≡ n = omega arith in ap (λ (k : ℕ). map (equation_at s) (range 0 k)) e ∙ all_read

  -- each with few cells, all of them places of the marks
  pub slots_of_all : Slots s.slots n
  slots_of_all = record { whole = slots_long s w; few = few_equations; below = λ e h. below e (omega (arith, counted, h)) }
    where
      below : (e : ℕ) → e < length es → all (λ c. ltb c 1024) (slot_cells s.slots e) ≡ true
      below e h =
          let x = get_or es e no_equation in
          ap (λ (y : BlockEquation). all (λ c. ltb c 1024) y.cells) (one_read e h)
          ∙ and_left (all (λ c. ltb c 1024) x.cells) (ltb x.rest 256)
          (and_right (leb (length x.cells) 8) (all (λ c. ltb c 1024) x.cells && ltb x.rest 256) (all_at small_equation es e no_equation w.fits.small h))

  -- one is negative exactly where one of a block is
  pub negative_of_all : any (λ r. ltb r 8) (take n s.rests) ≡ negative (blocks_of s)
  negative_of_all =
      ap (any (λ r. ltb r 8)) (sym (read_range s.rests 0 0 n (omega (arith, few_equations, rests_long s w))))
      ∙ any_map (λ r. ltb r 8) (λ (e : ℕ). get_or s.rests e 0) (range 0 n)
      ∙ sym (any_map is_negative (equation_at s) (range 0 n))
      ∙ ap (any is_negative) all_read
      ∙ any_joined_map is_negative (λ (b : Block). b.equations) (blocks_of s)
