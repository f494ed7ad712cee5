-- What a rule answers in the code: it is the contradiction exactly where the rule found that, and else a struct that holds the rule's lists and the blocks left.
-- Assumes nothing.
use mathlib.Core.Path.{◌≡◌, refl, ap, ◌∙◌}
use mathlib.Core.Bool.{Bool, true, false, cond}
use mathlib.Core.List.{List}
use Prim.Native.Nat.{ℕ}
use Rattle.std.specs.Prelude.{Result, Ok, Err}
use Rattle.blocks.specs.BlockSets.{block_set}
use Rattle.blocks.specs.declared.BlockSet.{BlockSet}
use Rattle.marks.specs.CellLists.{cell_list}
use Rattle.marks.specs.declared.listing.CellList.{CellList}
use Rattle.direct.specs.Found.{Found}
use Rattle.direct.specs.Answers.{rule_answer, lists_of}
use Rattle.direct.specs.declared.answer.Contradiction.{Contradiction}
use Rattle.direct.specs.declared.answer.Lists.{Lists}
use Rattle.direct.specs.declared.answer.RuleAnswer.{RuleAnswer}

-- ---- two lists

both : CellList → CellList → Lists
both safe mines = record { safe = safe; mines = mines }

module _ (l : Lists) (safe mines : List ℕ) where
  -- the struct that holds them
  pub lists_made : l.safe ≡ cell_list safe → l.mines ≡ cell_list mines → l ≡ lists_of safe mines
  unfolding lists_of both
  lists_made s m = ap (λ (x : CellList). both x l.mines) s ∙ ap (both (cell_list safe)) m

  -- holds each
  pub lists_safe : l ≡ lists_of safe mines → l.safe ≡ cell_list safe
  unfolding lists_of
  lists_safe e = ap (λ (x : Lists). x.safe) e

  pub lists_mines : l ≡ lists_of safe mines → l.mines ≡ cell_list mines
  unfolding lists_of
  lists_mines e = ap (λ (x : Lists). x.mines) e

-- ---- an answer

-- a struct holds what a rule found, which is no contradiction
pub record Holds (f : Found) (r : RuleAnswer) : Type 0 where
  pub none : f.contradiction ≡ false
  pub safe_are : r.lists.safe ≡ cell_list f.safe
  pub mines_are : r.lists.mines ≡ cell_list f.mines
  pub left_is : r.left ≡ block_set f.left

-- the struct of the lists and the blocks left
abbrev held : Lists → BlockSet → RuleAnswer
held l b = record { lists = l; left = b }

abbrev answered : Bool → Found → Result RuleAnswer Contradiction
answered t f = cond t (Err (record {})) (Ok (held (lists_of f.safe f.mines) (block_set f.left)))

module _ (f : Found) where
  -- the contradiction is answered where the rule found it
  pub answer_err : (e : Contradiction) → f.contradiction ≡ true → Err e ≡ rule_answer f
  unfolding rule_answer
  answer_err e h = rw h

  -- else the struct that holds what it found
  pub answer_ok : (r : RuleAnswer) → Holds f r → Ok r ≡ rule_answer f
  unfolding rule_answer
  answer_ok r h =
      let lists = lists_made r.lists f.safe f.mines h.safe_are h.mines_are in
      rw h.none (ap Ok (ap (λ (l : Lists). held l r.left) lists ∙ ap (held (lists_of f.safe f.mines)) h.left_is))

  -- and only there
  pub err_answered : (e : Contradiction) → Err e ≡ rule_answer f → f.contradiction ≡ true
  unfolding rule_answer
  err_answered e = go f.contradiction
    where
      go : (t : Bool) → Err e ≡ answered t f → t ≡ true
      go true h = refl
      go false h = absurd (cc)

  pub ok_answered : (r : RuleAnswer) → Ok r ≡ rule_answer f → Holds f r
  unfolding rule_answer
  ok_answered r h = go f.contradiction refl h
    where
      found : Ok r ≡ answered false f → f.contradiction ≡ false → Holds f r
      found e none =
          let is : r ≡ held (lists_of f.safe f.mines) (block_set f.left) = cc in
          record {
            none = none;
            safe_are = lists_safe r.lists f.safe f.mines (ap (λ (x : RuleAnswer). x.lists) is);
            mines_are = lists_mines r.lists f.safe f.mines (ap (λ (x : RuleAnswer). x.lists) is);
            left_is = ap (λ (x : RuleAnswer). x.left) is;
          }

      go : (t : Bool) → f.contradiction ≡ t → Ok r ≡ answered t f → Holds f r
      go true e k = absurd (cc)
      go false e k = found k e
