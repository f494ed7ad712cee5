-- All that subtraction leaves, swept at once. A block that has no cell left adds nothing to a sweep, since the cells of its equations would be its own; so
-- the sweeps over all equations left find what the direct rule finds in the blocks left, in the same order, and there is room for it behind the rule's own
-- lists. Where the direct rule meets no contradiction the two together are the rule's lists. Rests on AllBlocks and ReadyBlocks. Assumes nothing.
use mathlib.Core.Path.{◌≡◌, refl, sym, ap, ◌∙◌}
use mathlib.Core.Logic.{inl, inr}
use mathlib.Core.Bool.{Bool, true, false, cond}
use mathlib.Core.List.{List, [], ◌∷◌, ◌++◌, map, reverse, Memᴰ}
use Prim.Native.Nat.{ℕ, ◌+◌, ◌≤◌}
use native.Mathlib.Omega.{arith}
use lib.ListN.{length, length-append}
use borrow.Author.Tests.{not-false}
use Rattle.lists.specs.Lists.{keep, empty, has, joined}
use Rattle.lists.proofs.Tests.{Decided, decided, clash}
use Rattle.lists.proofs.Members.{has_head}
use Rattle.lists.proofs.Occurrences.{empty_nil, reverse_in}
use Rattle.lists.proofs.TurnedRound.{keep_reverse, map_agree, joined_keep}
use Rattle.lists.proofs.Among.{Among, among_length}
use Rattle.blocks.specs.Blocks.{Block}
use Rattle.blocks.specs.BlockSets.{all_cells, Small}
use Rattle.marks.specs.Marked.{Ready}
use Rattle.direct.specs.Direct.{sure_mines, sure_safe, from_last, direct}
use Rattle.direct.proofs.DirectLaws.{sure_mine_equation, sure_safe_equation, sure_mines_once, sure_safe_once, direct_mines, direct_safe}
use Rattle.direct.proofs.AllBlocks.{mines_of_all, safe_of_all}
use Rattle.subtraction.specs.Minus.{minus_mines, minus_safe, minus_left, left_of, minus_blocks, subtraction}
use Rattle.subtraction.proofs.MinusLaws.{minus_mines_among, minus_safe_among, listed_among}
use Rattle.subtraction.proofs.LeftFits.{has_cell}
use Rattle.subtraction.proofs.ReadyBlocks.{ReadyBlock, ready_block, all_left_ready, minus_ready, lists_among}
use Rattle.subtraction.proofs.MinusAnswer.{found_safe, found_mines}

-- ---- blocks without cells

-- blocks that give nothing may be left out
from_last_kept : (g : Block → List ℕ) (t : Block → Bool) (bs : List Block) → ((b : Block) → Memᴰ b bs → t b ≡ false → g b ≡ [])
    → from_last g (keep t bs) ≡ from_last g bs
from_last_kept g t bs none =
    ap (λ (l : List Block). joined (map g l)) (sym (keep_reverse t bs))
    ∙ joined_keep g t (reverse bs)
    ∙ ap joined (map_agree (λ (b : Block). cond (t b) (g b) []) g (reverse bs) (λ b m. go b (reverse_in bs m) (decided (t b))))
  where
    go : (b : Block) → Memᴰ b bs → Decided (t b) → cond (t b) (g b) [] ≡ g b
    go b m (inl e) = rw e
    go b m (inr e) = rw e (sym (none b m e))

-- a list of cells of a block that has none
none_inside : (b : Block) (l : List ℕ) → ((c : ℕ) → has l c ≡ true → has b.cells c ≡ true) → has_cell b ≡ false → l ≡ []
none_inside b [] inside h = refl
none_inside b (x ∷ l) inside h =
    clash (has b.cells x) (inside x (has_head x l)) (ap (λ (k : List ℕ). has k x) (empty_nil b.cells (not-false (empty b.cells) h)))

-- ---- a list of the direct rule in each block

-- such a list has cells of its block alone
mines_within : (b : Block) → ReadyBlock b → (c : ℕ) → has (sure_mines b.equations) c ≡ true → has b.cells c ≡ true
mines_within b ready c h = let (e, m, _, k) = sure_mine_equation b.equations c h in ready.inside e m c k

safe_within : (b : Block) → ReadyBlock b → (c : ℕ) → has (sure_safe b.equations) c ≡ true → has b.cells c ≡ true
safe_within b ready c h = let (e, m, _, k) = sure_safe_equation b.equations c h in ready.inside e m c k

module _ (bs : List Block) (ready : Ready bs) where
  -- so the blocks without a cell add nothing
  left_kept : (g : Block → List ℕ) → ((b : Block) → ReadyBlock b → (c : ℕ) → has (g b) c ≡ true → has b.cells c ≡ true)
      → from_last g (map minus_left bs) ≡ from_last g (minus_blocks bs)
  left_kept g within =
      sym (from_last_kept g has_cell (map minus_left bs)
      (λ b m. none_inside b (g b) (within b (ready_block (map minus_left bs) (all_left_ready bs ready) b m))))

  -- the sweeps over all equations left are those of the blocks left
  left_mines : sure_mines (left_of bs) ≡ from_last (λ b. sure_mines b.equations) (minus_blocks bs)
  left_mines = mines_of_all (map minus_left bs) (all_left_ready bs ready) ∙ left_kept (λ b. sure_mines b.equations) mines_within

  left_safe : sure_safe (left_of bs) ≡ from_last (λ b. sure_safe b.equations) (minus_blocks bs)
  left_safe = safe_of_all (map minus_left bs) (all_left_ready bs ready) ∙ left_kept (λ b. sure_safe b.equations) safe_within

  -- ---- room

  -- they stand among the cells left
  left_mines_among : Among (sure_mines (left_of bs)) (all_cells (minus_blocks bs))
  left_mines_among =
      rw left_mines (lists_among (minus_blocks bs) (minus_ready bs ready) (λ b. sure_mines b.equations) (λ b. sure_mines_once b.equations) mines_within false)

  left_safe_among : Among (sure_safe (left_of bs)) (all_cells (minus_blocks bs))
  left_safe_among =
      rw left_safe (lists_among (minus_blocks bs) (minus_ready bs ready) (λ b. sure_safe b.equations) (λ b. sure_safe_once b.equations) safe_within false)

  -- so there is room for them behind the rule's own lists
  module _ (fits : Small bs) where
    pub left_mines_room : length (from_last minus_mines bs) + length (sure_mines (left_of bs)) ≤ 1024
    left_mines_room =
        let k = from_last minus_mines bs in
        let l = sure_mines (left_of bs) in
        omega (arith, length-append k l, among_length (k ++ l) (all_cells bs) (listed_among bs minus_mines l false minus_mines_among left_mines_among), fits.few_cells)

    pub left_safe_room : length (from_last minus_safe bs) + length (sure_safe (left_of bs)) ≤ 1024
    left_safe_room =
        let k = from_last minus_safe bs in
        let l = sure_safe (left_of bs) in
        omega (arith, length-append k l, among_length (k ++ l) (all_cells bs) (listed_among bs minus_safe l false minus_safe_among left_safe_among), fits.few_cells)

  -- ---- the rule's lists

  module _ (none : (direct (minus_blocks bs)).contradiction ≡ false) where
    -- the mines
    pub subtraction_mines_swept : (subtraction bs).mines ≡ from_last minus_mines bs ++ sure_mines (left_of bs)
    subtraction_mines_swept =
        found_mines bs none
        ∙ ap (λ (l : List ℕ). from_last minus_mines bs ++ l) (direct_mines (minus_blocks bs) ∙ rw none (sym left_mines))

    -- the safe cells
    pub subtraction_safe_swept : (subtraction bs).safe ≡ from_last minus_safe bs ++ sure_safe (left_of bs)
    subtraction_safe_swept =
        found_safe bs none
        ∙ ap (λ (l : List ℕ). from_last minus_safe bs ++ l) (direct_safe (minus_blocks bs) ∙ rw none (sym left_safe))
