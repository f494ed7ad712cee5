-- A rule's answer handed on, from the definition's lists to the struct and from the struct to the caller. The struct of what a rule found holds its lists; where
-- its block set is whole, its blocks make the same struct again, and a caller sees of blocks only that. So what the caller sees is what the rule found.
-- Assumes nothing.
use Rattle.std.specs.Prelude.{Result, Ok, Err}
use mathlib.Core.Path.{◌≡◌, refl, sym, ap, ◌∙◌}
use mathlib.Core.Logic.{inl, inr}
use mathlib.Core.Bool.{Bool, true, false, cond}
use mathlib.Core.List.{List}
use Prim.Native.Nat.{ℕ, ◌≤◌}
use native.Mathlib.Omega.{arith}
use lib.Dec.{ltb}
use lib.ListN.{length, length-take}
use lib.Seq.{sets}
use Rattle.lists.specs.Lists.{all}
use Rattle.lists.proofs.Tests.{Decided, decided}
use Rattle.lists.proofs.Arrays.{pad_take}
use Rattle.refusals.specs.declared.Refusal.TheVariants.{Contradiction}
use Rattle.blocks.proofs.Reading.{blocks_of_set}
use Rattle.blocks.specs.BlockSets.{block_set, Small, Whole}
use Rattle.marks.specs.CellLists.{cell_list, list_in, Below}
use Rattle.marks.specs.declared.listing.CellList.{CellList}
use Rattle.marks.specs.Written.{written}
use Rattle.marks.proofs.HeldLists.{list_held, cell_list_below}
use Rattle.direct.specs.Found.{Found, contradicted, found}
use Rattle.direct.specs.Answers.{rule_answer, found_in, lists_of}
use Rattle.direct.specs.declared.answer.Contradiction.{Contradiction as RuleContradiction}
use Rattle.direct.specs.declared.answer.RuleAnswer.{RuleAnswer}
use Rattle.deductions.specs.Answers.{Held, seen, refused, after_found}

-- ---- what a caller sees of a rule's answer

module _ (f : Found) (p s m : List ℕ) where
  -- of a contradiction its name alone
  pub after_contradiction : f.contradiction ≡ true → after_found f p s m ≡ refused Contradiction p s m
  unfolding after_found
  after_contradiction h = rw h

  -- else the lists, the marks and the blocks
  pub after_lists : f.contradiction ≡ false
      → after_found f p s m
      ≡ seen (Ok (record { safe = length f.safe; mines = length f.mines; blocks = block_set f.left }))
      (written 11 f.mines (written 12 f.safe p)) (sets s 0 f.safe) (sets m 0 f.mines)
  unfolding after_found
  after_lists h = rw h

-- two answers of a rule with the same lists, whose blocks make the same struct
pub record SameAnswer (f g : Found) : Type 0 where
  pub same_contradiction : f.contradiction ≡ g.contradiction
  pub same_safe : f.safe ≡ g.safe
  pub same_mines : f.mines ≡ g.mines
  pub same_left : block_set f.left ≡ block_set g.left

-- make the same answer
pub same_struct : (f g : Found) → SameAnswer f g → rule_answer f ≡ rule_answer g
unfolding rule_answer
same_struct f g e = rw (e.same_contradiction, e.same_safe, e.same_mines, e.same_left)

-- and are the same to a caller
pub same_seen : (f g : Found) (p s m : List ℕ) → SameAnswer f g → after_found f p s m ≡ after_found g p s m
unfolding after_found
same_seen f g p s m e = rw (e.same_contradiction, e.same_safe, e.same_mines, e.same_left)

-- ---- what a rule on blocks answers

-- a contradiction is answered where there is one, and nowhere else
pub contradiction_answered : (f : Found) {e : RuleContradiction} → Err e ≡ rule_answer f → f.contradiction ≡ true
unfolding rule_answer
contradiction_answered f {e} is = go (decided f.contradiction)
  where
    go : Decided f.contradiction → f.contradiction ≡ true
    go (inl k) = k
    go (inr k) = let both : ◌≡◌ {A = Result RuleAnswer RuleContradiction} (Err e) (Ok (record { lists = lists_of f.safe f.mines; left = block_set f.left })) = is ∙ rw k in let z : ◌≡◌ {A = ℕ} 0 1 = cc in absurd (omega arith)

-- of a rule that met a contradiction the caller sees refusal 6, and all that was lent as it was
pub contradiction_seen : (e : RuleContradiction) (p s m : List ℕ) → after_found (found_in (Err e)) p s m ≡ refused Contradiction p s m
unfolding found_in
contradiction_seen e p s m = after_contradiction (found_in (Err e)) p s m refl

module _ (f : Found) (r : RuleAnswer) (is : Ok r ≡ rule_answer f) where
  -- else a struct is
  no_contradiction : f.contradiction ≡ false
  unfolding rule_answer
  no_contradiction = go (decided f.contradiction)
    where
      go : Decided f.contradiction → f.contradiction ≡ false
      go (inl k) = let both : ◌≡◌ {A = Result RuleAnswer RuleContradiction} (Ok r) (Err (record {})) = is ∙ rw k in let z : ◌≡◌ {A = ℕ} 0 1 = cc in absurd (omega arith)
      go (inr k) = k

  struct : r ≡ record { lists = lists_of f.safe f.mines; left = block_set f.left }
  unfolding rule_answer
  struct = let both : ◌≡◌ {A = Result RuleAnswer RuleContradiction} (Ok r) (Ok (record { lists = lists_of f.safe f.mines; left = block_set f.left })) = is ∙ rw no_contradiction in cc

  -- it holds the safe cells
  struct_safe : r.lists.safe ≡ cell_list f.safe
  unfolding lists_of
  struct_safe = ap (λ (x : RuleAnswer). x.lists.safe) struct

  -- and the mines
  struct_mines : r.lists.mines ≡ cell_list f.mines
  unfolding lists_of
  struct_mines = ap (λ (x : RuleAnswer). x.lists.mines) struct

  -- and blocks that make the same struct, where its block set is whole; so it holds the same answer
  pub struct_found : Whole r.left → SameAnswer (found_in (Ok r)) f
  unfolding found_in
  struct_found whole = record {
    same_contradiction = sym no_contradiction;
    same_safe = list_held r.lists.safe f.safe struct_safe;
    same_mines = list_held r.lists.mines f.mines struct_mines;
    same_left = sym whole.is ∙ ap (λ (x : RuleAnswer). x.left) struct;
  }

  -- and can be handed to a caller whose slices have room for its lists
  pub struct_held : Whole r.left → (n s m : ℕ) → length f.safe ≤ s → length f.mines ≤ m → length f.safe ≤ 1024 → length f.mines ≤ 1024
      → all (λ c. ltb c n) f.safe ≡ true → all (λ c. ltb c n) f.mines ≡ true
      → Held r n s m
  struct_held whole n s m room_safe room_mines few_safe few_mines safe_below mines_below = record {
    safe_below = cell_list_below n r.lists.safe f.safe struct_safe few_safe safe_below;
    mines_below = cell_list_below n r.lists.mines f.mines struct_mines few_mines mines_below;
    room_safe = rw struct_safe room_safe;
    room_mines = rw struct_mines room_mines;
    left_is = whole.is;
  }

-- ---- what a rule found with no contradiction is its lists and its blocks
no_contradiction_is : (f : Found) → f.contradiction ≡ false → found f.safe f.mines f.left ≡ f
no_contradiction_is f k = ap (λ (t : Bool). record { contradiction = t; safe = f.safe; mines = f.mines; left = f.left }) (sym k)

-- of blocks that fit the answer holds the very lists and blocks; of a contradiction, that alone
pub found_in_answer : (f : Found) → Small f.left → found_in (rule_answer f) ≡ cond f.contradiction contradicted f
unfolding found_in rule_answer lists_of
found_in_answer f small = go (decided f.contradiction)
  where
    go : Decided f.contradiction → found_in (rule_answer f) ≡ cond f.contradiction contradicted f
    go (inl k) = rw k
    go (inr k) =
        let lists : found_in (rule_answer f) ≡ found f.safe f.mines f.left = rw (k, pad_take 1024 0 f.safe, pad_take 1024 0 f.mines, blocks_of_set f.left small) refl in
        let whole : cond f.contradiction contradicted f ≡ f = rw k refl in
        lists ∙ no_contradiction_is f k ∙ sym whole

-- a struct that is handed to a caller

-- a list has as many cells as its count says
pub list_counted : {n : ℕ} {l : CellList} → Below n l → length (list_in l) ≡ l.count
list_counted h = simp length-take (omega (arith, h.few, h.long))

-- the caller sees what is to be seen
pub gives_found : {r : RuleAnswer} {n a b : ℕ} → Held r n a b → (p s m : List ℕ) {p' s' m' : List ℕ}
    → p' ≡ written 11 (list_in r.lists.mines) (written 12 (list_in r.lists.safe) p) → s' ≡ sets s 0 (list_in r.lists.safe) → m' ≡ sets m 0 (list_in r.lists.mines)
    → seen (Ok (record { safe = r.lists.safe.count; mines = r.lists.mines.count; blocks = r.left })) p' s' m' ≡ after_found (found_in (Ok r)) p s m
unfolding found_in after_found
gives_found h p s m marked safe_stored mines_stored = rw (marked, safe_stored, mines_stored, list_counted h.safe_below, list_counted h.mines_below, ← h.left_is)
