-- Blocks as the frontier gives them, one by one: no cell stands twice in an equation, and its cells are its block's. Such blocks in which no cell stands twice
-- are ready for the rules, and what the subtraction rule leaves of ready blocks is ready. As the lists of both rules stand among the cells, there is room
-- for them. Rests on the laws of the two rules and of lists that stand among others. Assumes nothing.
use mathlib.Core.Path.{◌≡◌}
use mathlib.Core.Bool.{Bool, true, false, not, cond, ◌||◌}
use mathlib.Core.List.Memᴰ
use mathlib.Core.List.{List, [], ◌++◌, map, Memᴰ}
use Prim.Native.Nat.{ℕ, ◌+◌, ◌≤◌}
use native.Mathlib.Omega.{arith}
use lib.ListN.{length, length-append}
use borrow.Author.Tests.{not-true}
use Rattle.lists.specs.Lists.{keep, all, has, nodup}
use Rattle.lists.proofs.Members.{kept_passes, kept_has, has_kept}
use Rattle.lists.proofs.All.{has_all, all_has}
use Rattle.lists.proofs.Occurrences.{all_in}
use Rattle.lists.proofs.Unions.{all_of}
use Rattle.lists.proofs.PassingElements.{Each, each_kept, each_mapped, each_joined}
use Rattle.lists.proofs.Among.{Among, among_length, among_nodup, nodup_among, joined_reverse, joined_among}
use Rattle.lists.proofs.ListsOfElements.{one_once}
use Rattle.blocks.specs.Blocks.{BlockEquation, Block}
use Rattle.blocks.specs.BlockSets.{all_cells, all_equations, Small}
use Rattle.marks.specs.Marked.{Ready}
use Rattle.direct.specs.Found.{less_mines, less_safe}
use Rattle.direct.specs.Direct.{sure_mines, sure_safe, from_last, direct}
use Rattle.direct.proofs.TakenOut.{less_mines_once, less_safe_once}
use Rattle.direct.proofs.DirectLaws.{sure_mine_equation, sure_safe_equation, sure_mines_once, sure_safe_once, direct_mines, direct_safe}
use Rattle.subtraction.specs.Minus.{minus_mines, minus_safe, minus_left, minus_blocks}
use Rattle.subtraction.proofs.MinusLaws.{minus_mines_among, minus_safe_among, listed_among}
use Rattle.subtraction.proofs.LeftFits.{has_cell, left_among, minus_among}

-- ---- one block

-- no cell stands twice in an equation, and its cells are the block's
pub record ReadyBlock (b : Block) : Type 0 where
  pub equations_once : (e : BlockEquation) → Memᴰ e b.equations → nodup e.cells ≡ true
  pub inside : (e : BlockEquation) → Memᴰ e b.equations → (c : ℕ) → has e.cells c ≡ true → has b.cells c ≡ true

-- each of ready blocks is so
pub ready_block : (bs : List Block) → Ready bs → (b : Block) → Memᴰ b bs → ReadyBlock b
ready_block bs ready b m = record {
  equations_once = λ e n. all_in (λ (x : BlockEquation). nodup x.cells) b.equations
      (all_in (λ (q : Block). all (λ (x : BlockEquation). nodup x.cells) q.equations) bs ready.equations_once m) n;
  inside = λ e n. all_has (has b.cells) e.cells
      (all_in (λ (x : BlockEquation). all (has b.cells) x.cells) b.equations
      (all_in (λ (q : Block). all (λ (x : BlockEquation). all (has q.cells) x.cells) q.equations) bs ready.inside m) n);
}

-- no cell stands twice in a block
pub block_once : (bs : List Block) → Ready bs → (b : Block) → Memᴰ b bs → nodup b.cells ≡ true
block_once bs ready = one_once (λ (b : Block). b.cells) bs ready.once

-- nor in an equation of all blocks
pub all_equations_once : (bs : List Block) → Ready bs → all (λ (e : BlockEquation). nodup e.cells) (all_equations bs) ≡ true
all_equations_once bs ready =
    all_of (λ (e : BlockEquation). nodup e.cells) (all_equations bs)
    (each_joined (λ (e : BlockEquation). nodup e.cells ≡ true) (λ (b : Block). b.equations) bs (λ b m. (ready_block bs ready b m).equations_once))

-- and back
pub blocks_ready : (bs : List Block) → nodup (all_cells bs) ≡ true → Each ReadyBlock bs → Ready bs
blocks_ready bs once each = record {
  once = once;
  equations_once = all_of (λ (b : Block). all (λ (e : BlockEquation). nodup e.cells) b.equations) bs
      (λ b m. all_of (λ (e : BlockEquation). nodup e.cells) b.equations (each b m).equations_once);
  inside = all_of (λ (b : Block). all (λ (e : BlockEquation). all (has b.cells) e.cells) b.equations) bs
      (λ b m. all_of (λ (e : BlockEquation). all (has b.cells) e.cells) b.equations (λ e n. has_all (has b.cells) e.cells ((each b m).inside e n)));
}

-- ---- what subtraction leaves

-- an equation without the cells that are known of its block
abbrev after_minus : Block → BlockEquation → BlockEquation
after_minus b e = less_safe (minus_safe b) (less_mines (minus_mines b) e)

-- what is left of a block keeps both
minus_left_ready : (b : Block) → ReadyBlock b → ReadyBlock (minus_left b)
unfolding minus_left
minus_left_ready b ready = record {
  equations_once = λ e m. let (d, n, w) = Memᴰ.of_map (after_minus b) b.equations m in
      rw (← w) (less_safe_once (minus_safe b) (less_mines (minus_mines b) d) (less_mines_once (minus_mines b) d (ready.equations_once d n)));
  inside = λ e m c h. let (d, n, w) = Memᴰ.of_map (after_minus b) b.equations m in stays d n c (rw (← w) at h);
}
  where
    unknown : ℕ → Bool
    unknown c = not (has (minus_mines b) c || has (minus_safe b) c)

    stays : (d : BlockEquation) → Memᴰ d b.equations → (c : ℕ) → has (after_minus b d).cells c ≡ true → has (keep unknown b.cells) c ≡ true
    stays d n c h =
        let k : has (less_mines (minus_mines b) d).cells c ≡ true = kept_has (λ x. not (has (minus_safe b) x)) (less_mines (minus_mines b) d).cells c h in
        has_kept unknown b.cells c
        (rw (not-true (has (minus_mines b) c) (kept_passes (λ x. not (has (minus_mines b) x)) d.cells c k))
        (kept_passes (λ x. not (has (minus_safe b) x)) (less_mines (minus_mines b) d).cells c h))
        (ready.inside d n c (kept_has (λ x. not (has (minus_mines b) x)) d.cells c k))

-- each of all that are left
left_each_ready : (bs : List Block) → Ready bs → Each ReadyBlock (map minus_left bs)
left_each_ready bs ready = each_mapped ReadyBlock minus_left bs (λ b m. minus_left_ready b (ready_block bs ready b m))

-- so they are ready, those without a cell too
pub all_left_ready : (bs : List Block) → Ready bs → Ready (map minus_left bs)
all_left_ready bs ready =
    blocks_ready (map minus_left bs) (among_nodup (all_cells (map minus_left bs)) (all_cells bs) (left_among bs) ready.once) (left_each_ready bs ready)

-- and so are those that the rule keeps
pub minus_ready : (bs : List Block) → Ready bs → Ready (minus_blocks bs)
minus_ready bs ready =
    blocks_ready (minus_blocks bs) (among_nodup (all_cells (minus_blocks bs)) (all_cells bs) (minus_among bs) ready.once)
    (each_kept ReadyBlock has_cell (map minus_left bs) (left_each_ready bs ready))

-- ---- room for the lists

-- the lists of a direct pass stand among the cells
module _ (bs : List Block) (ready : Ready bs) where
  pub lists_among : (g : Block → List ℕ) → ((b : Block) → nodup (g b) ≡ true) → ((b : Block) → ReadyBlock b → (c : ℕ) → has (g b) c ≡ true → has b.cells c ≡ true)
      → (t : Bool) → Among (cond t [] (from_last g bs)) (all_cells bs)
  lists_among g once within true f = omega arith
  lists_among g once within false f =
      omega (
        arith,
        joined_reverse g bs f,
        joined_among g (λ b. b.cells) bs
            (λ b m. nodup_among (g b) b.cells (once b) (block_once bs ready b m) (within b (ready_block bs ready b m))) f,
      )

  pub direct_mines_among : Among (direct bs).mines (all_cells bs)
  direct_mines_among =
      rw (direct_mines bs)
      (lists_among (λ b. sure_mines b.equations) (λ b. sure_mines_once b.equations)
      (λ b r c h. let (e, m, _, k) = sure_mine_equation b.equations c h in r.inside e m c k) (direct bs).contradiction)

  pub direct_safe_among : Among (direct bs).safe (all_cells bs)
  direct_safe_among =
      rw (direct_safe bs)
      (lists_among (λ b. sure_safe b.equations) (λ b. sure_safe_once b.equations)
      (λ b r c h. let (e, m, _, k) = sure_safe_equation b.equations c h in r.inside e m c k) (direct bs).contradiction)

-- and so do those of subtraction with those of the direct pass behind them
module _ (bs : List Block) (ready : Ready bs) (fits : Small bs) where
  pub mines_room : length (from_last minus_mines bs) + length (direct (minus_blocks bs)).mines ≤ 1024
  mines_room =
      let k = from_last minus_mines bs in
      let l = (direct (minus_blocks bs)).mines in
      omega (
        arith,
        length-append k l,
        among_length (k ++ l) (all_cells bs) (listed_among bs minus_mines l false minus_mines_among (direct_mines_among (minus_blocks bs) (minus_ready bs ready))),
        fits.few_cells,
      )

  pub safe_room : length (from_last minus_safe bs) + length (direct (minus_blocks bs)).safe ≤ 1024
  safe_room =
      let k = from_last minus_safe bs in
      let l = (direct (minus_blocks bs)).safe in
      omega (
        arith,
        length-append k l,
        among_length (k ++ l) (all_cells bs) (listed_among bs minus_safe l false minus_safe_among (direct_safe_among (minus_blocks bs) (minus_ready bs ready))),
        fits.few_cells,
      )
