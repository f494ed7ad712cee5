-- What the direct rule finds does not depend on its order (SPECIFICATION 8.2). Three tests on a list of equations say it without an order: a cell is a mine
-- where a full equation has it; it is safe where an equation that isn't full has it and has no mine besides those; and there is a contradiction where
-- an equation has fewer than those. They look at all equations at once, so blocks do not matter either, as no cell stands in two; and two lists
-- with the same equations, in any order of equations and cells, have the same answers. Rests on DirectLaws. Assumes nothing.
use mathlib.Core.Path.{◌≡◌, refl, sym, ◌∙◌}
use mathlib.Core.Logic.{inl, inr}
use mathlib.Core.Bool.{Bool, true, false, not, cond, ◌&&◌, and_assoc}
use mathlib.Core.List.{List, [], Memᴰ}
use Prim.Native.Nat.{ℕ, ◌+◌}
use native.Mathlib.Omega.{arith}
use lib.Dec.{ltb, eqb}
use borrow.Author.Tests.{eqb-true, eq-eqb, ne_eqb, ltb-true, lt-ltb, not-true}
use Rattle.lists.specs.Lists.{keep, count, any, has, nodup}
use Rattle.lists.proofs.Tests.{Decided, decided, same_test, and_left, and_right}
use Rattle.lists.proofs.Members.{has_keep}
use Rattle.lists.proofs.Counts.{count_ext}
use Rattle.lists.proofs.Rearranged.{Rearranged, rearranged_length, rearranged_has}
use Rattle.lists.proofs.PassingElements.{not_passes, any_none, any_keep, any_map, any_joined_map}
use Rattle.lists.proofs.Among.{joined_once}
use Rattle.lists.proofs.Occurrences.{any_in, in_any, any_agree}
use Rattle.blocks.specs.Blocks.{BlockEquation, Block}
use Rattle.blocks.specs.BlockSets.{all_cells, all_equations}
use Rattle.blocks.proofs.ProperBlocks.{block_equation_lem, equation_block, Proper}
use Rattle.direct.specs.Found.{less_mines, less_safe}
use Rattle.direct.specs.Direct.{full, clear, sure_mines, after_mines, sure_safe, after_safe, direct_left, from_last, direct}
use Rattle.direct.proofs.TakenOut.{is_negative}
use Rattle.direct.proofs.Answers.{from_last_has, unless_listed}
use Rattle.direct.proofs.DirectLaws.{cells_of_has, not_full, not_clear, direct_contradiction, direct_mines, direct_safe}

-- ---- the three tests

-- a full equation has the cell
abbrev pub is_mine_of : List BlockEquation → ℕ → Bool
is_mine_of es c = any (λ (e : BlockEquation). full e && has e.cells c) es

-- an equation that isn't full has as many mines as a test finds among its cells
abbrev pub only_those : (ℕ → Bool) → BlockEquation → Bool
only_those mine e = not (full e) && eqb e.rest (8 + count mine e.cells)

-- or fewer, which cannot be where these are mines
abbrev pub too_few : (ℕ → Bool) → BlockEquation → Bool
too_few mine e = not (full e) && ltb e.rest (8 + count mine e.cells)

-- the cell is no mine, and an equation with no other mines has it
abbrev pub is_safe_of : List BlockEquation → ℕ → Bool
is_safe_of es c = not (is_mine_of es c) && any (λ (e : BlockEquation). only_those (is_mine_of es) e && has e.cells c) es

-- an equation has fewer mines than there are among its cells
abbrev pub is_contradictory : List BlockEquation → Bool
is_contradictory es = any (too_few (is_mine_of es)) es

-- ---- the lists of a block's equations

-- an equation without some mines is clear where these are as many as it has
less_mines_clear : (ms : List ℕ) (e : BlockEquation) → clear (less_mines ms e) ≡ eqb e.rest (8 + count (has ms) e.cells)
less_mines_clear ms e = same_test (clear (less_mines ms e)) (eqb e.rest (8 + count (has ms) e.cells))
    (λ h. eq-eqb e.rest (8 + count (has ms) e.cells) (omega (arith, eqb-true (less_mines ms e).rest 8 h)))
    (λ h. eq-eqb (less_mines ms e).rest 8 (omega (arith, eqb-true e.rest (8 + count (has ms) e.cells) h)))

-- and negative where these are more
less_mines_negative : (ms : List ℕ) (e : BlockEquation) → ltb (less_mines ms e).rest 8 ≡ ltb e.rest (8 + count (has ms) e.cells)
less_mines_negative ms e = same_test (ltb (less_mines ms e).rest 8) (ltb e.rest (8 + count (has ms) e.cells))
    (λ h. lt-ltb e.rest (8 + count (has ms) e.cells) (omega (arith, ltb-true (less_mines ms e).rest 8 h)))
    (λ h. lt-ltb (less_mines ms e).rest 8 (omega (arith, ltb-true e.rest (8 + count (has ms) e.cells) h)))

module _ (es : List BlockEquation) where
  -- the mines
  pub sure_mines_has : (c : ℕ) → has (sure_mines es) c ≡ is_mine_of es c
  unfolding sure_mines
  sure_mines_has = cells_of_has full es

  -- a test at some equation after the first sweep
  after_mines_any : (t : BlockEquation → Bool) → any t (after_mines es) ≡ any (λ (e : BlockEquation). not (full e) && t (less_mines (sure_mines es) e)) es
  after_mines_any t =
      any_map t (less_mines (sure_mines es)) (keep not_full es)
      ∙ any_keep (λ (e : BlockEquation). t (less_mines (sure_mines es) e)) not_full es

  -- the mines of the list among some cells
  sure_mines_count : (l : List ℕ) → count (has (sure_mines es)) l ≡ count (is_mine_of es) l
  sure_mines_count l = count_ext (has (sure_mines es)) (is_mine_of es) l (λ c _. sure_mines_has c)

  -- the safe cells
  pub sure_safe_has : (c : ℕ) → has (sure_safe es) c ≡ is_safe_of es c
  unfolding sure_safe
  sure_safe_has c =
      cells_of_has clear (after_mines es) c
      ∙ after_mines_any (λ (e : BlockEquation). clear e && has e.cells c)
      ∙ go (decided (is_mine_of es c))
    where
      left : (e : BlockEquation) → has (less_mines (sure_mines es) e).cells c ≡ (not (is_mine_of es c) && has e.cells c)
      left e = has_keep (λ x. not (has (sure_mines es) x)) e.cells c ∙ rw (sure_mines_has c)

      go : Decided (is_mine_of es c)
          → any (λ (e : BlockEquation). not (full e) && (clear (less_mines (sure_mines es) e) && has (less_mines (sure_mines es) e).cells c)) es ≡ is_safe_of es c
      go (inl h) = rw h (any_none _ es (λ e m. rw (left e, h)
          (not_passes (not (full e) && (clear (less_mines (sure_mines es) e) && false)) false
          (λ t. and_right (clear (less_mines (sure_mines es) e)) false (and_right (not (full e)) (clear (less_mines (sure_mines es) e) && false) t)) refl)))
      go (inr h) = rw h (any_agree _ _ es (λ e m.
          rw (left e, h, less_mines_clear (sure_mines es) e, sure_mines_count e.cells)
          (sym (and_assoc (not (full e)) (eqb e.rest (8 + count (is_mine_of es) e.cells)) (has e.cells c)))))

  -- a negative equation left over
  pub after_safe_negative : any is_negative (after_safe es) ≡ is_contradictory es
  after_safe_negative =
      any_map is_negative (less_safe (sure_safe es)) (keep not_clear (after_mines es))
      ∙ any_keep is_negative not_clear (after_mines es)
      ∙ any_agree (λ (e : BlockEquation). not (clear e) && ltb e.rest 8) is_negative (after_mines es) (λ e m. below e.rest)
      ∙ after_mines_any is_negative
      ∙ any_agree (λ (e : BlockEquation). not (full e) && ltb (less_mines (sure_mines es) e).rest 8) (too_few (is_mine_of es)) es
      (λ e m. rw (less_mines_negative (sure_mines es) e, sure_mines_count e.cells))
    where
      below : (n : ℕ) → (not (eqb n 8) && ltb n 8) ≡ ltb n 8
      below n = same_test (not (eqb n 8) && ltb n 8) (ltb n 8) (and_right (not (eqb n 8)) (ltb n 8)) (λ h. rw (ne_eqb n 8 (λ e. omega (arith, ltb-true n 8 h)), h))

-- ---- all blocks at once, where each is proper and no cell stands in two

module _ (bs : List Block) (proper : (b : Block) → Memᴰ b bs → Proper b) (once : nodup (all_cells bs) ≡ true) where
  -- a cell of a block is a mine of it where it is a mine of all
  mine_of_block : (b : Block) → Memᴰ b bs → (c : ℕ) → has b.cells c ≡ true → is_mine_of b.equations c ≡ is_mine_of (all_equations bs) c
  mine_of_block b m c h = same_test (is_mine_of b.equations c) (is_mine_of (all_equations bs) c) there back
    where
      passes : BlockEquation → Bool
      passes e = full e && has e.cells c

      there : is_mine_of b.equations c ≡ true → is_mine_of (all_equations bs) c ≡ true
      there t = let (e, n, x) = any_in passes b.equations t in in_any passes (all_equations bs) (block_equation_lem bs b e m n) x

      back : is_mine_of (all_equations bs) c ≡ true → is_mine_of b.equations c ≡ true
      back t =
          let (e, n, x) = any_in passes (all_equations bs) t in
          let (d, k, o) = equation_block bs e n in
          let w : d ≡ b = joined_once (λ (y : Block). y.cells) bs once d b k m c ((proper d k).within e o c (and_right (full e) (has e.cells c) x)) h in
          in_any passes b.equations (rw w at o) x

  -- so an equation of a block has as many mines of the one as of the other
  mines_of_block : (b : Block) → Memᴰ b bs → (e : BlockEquation) → Memᴰ e b.equations
      → count (is_mine_of b.equations) e.cells ≡ count (is_mine_of (all_equations bs)) e.cells
  mines_of_block b m e n =
      count_ext (is_mine_of b.equations) (is_mine_of (all_equations bs)) e.cells (λ c h. mine_of_block b m c ((proper b m).within e n c h))

  -- a cell is a mine of some block where it is one of all
  some_mine_lem : (c : ℕ) → any (λ (b : Block). is_mine_of b.equations c) bs ≡ is_mine_of (all_equations bs) c
  some_mine_lem c = sym (any_joined_map (λ (e : BlockEquation). full e && has e.cells c) (λ (b : Block). b.equations) bs)

  -- safe in some block where it is in all
  some_safe : (c : ℕ) → any (λ (b : Block). is_safe_of b.equations c) bs ≡ is_safe_of (all_equations bs) c
  some_safe c = same_test (any (λ (b : Block). is_safe_of b.equations c) bs) (is_safe_of (all_equations bs) c) there back
    where
      passes : (ℕ → Bool) → BlockEquation → Bool
      passes mine e = only_those mine e && has e.cells c

      -- what it is to be safe
      safe_from : (es : List BlockEquation) → is_safe_of es c ≡ true → (is_mine_of es c ≡ false) × ((e : BlockEquation) × Memᴰ e es × (passes (is_mine_of es) e ≡ true))
      safe_from es t = (
        not-true (is_mine_of es c) (and_left (not (is_mine_of es c)) (any (passes (is_mine_of es)) es) t),
        any_in (passes (is_mine_of es)) es (and_right (not (is_mine_of es c)) (any (passes (is_mine_of es)) es) t),
      )

      from_safe : (es : List BlockEquation) (e : BlockEquation) → is_mine_of es c ≡ false → Memᴰ e es → passes (is_mine_of es) e ≡ true → is_safe_of es c ≡ true
      from_safe es e x m y = rw (x, in_any (passes (is_mine_of es)) es m y)

      -- the mines may be those of the block or of all
      same : (b : Block) → Memᴰ b bs → (e : BlockEquation) → Memᴰ e b.equations
          → passes (is_mine_of b.equations) e ≡ passes (is_mine_of (all_equations bs)) e
      same b m e n = rw (mines_of_block b m e n)

      mine_either : (b : Block) → Memᴰ b bs → (e : BlockEquation) → Memᴰ e b.equations → (mine : ℕ → Bool) → passes mine e ≡ true
          → is_mine_of b.equations c ≡ is_mine_of (all_equations bs) c
      mine_either b m e n mine y = mine_of_block b m c ((proper b m).within e n c (and_right (only_those mine e) (has e.cells c) y))

      there : any (λ (b : Block). is_safe_of b.equations c) bs ≡ true → is_safe_of (all_equations bs) c ≡ true
      there t =
          let (b, m, x) = any_in (λ (d : Block). is_safe_of d.equations c) bs t in
          let (u, (e, n, y)) = safe_from b.equations x in
          from_safe (all_equations bs) e (sym (mine_either b m e n (is_mine_of b.equations) y) ∙ u) (block_equation_lem bs b e m n) (sym (same b m e n) ∙ y)

      back : is_safe_of (all_equations bs) c ≡ true → any (λ (b : Block). is_safe_of b.equations c) bs ≡ true
      back t =
          let (u, (e, n, y)) = safe_from (all_equations bs) t in
          let (b, m, o) = equation_block bs e n in
          in_any (λ (d : Block). is_safe_of d.equations c) bs m
          (from_safe b.equations e (mine_either b m e o (is_mine_of (all_equations bs)) y ∙ u) o (same b m e o ∙ y))

  -- contradictory in some block where it is in all
  some_contradictory : any (λ (b : Block). is_contradictory b.equations) bs ≡ is_contradictory (all_equations bs)
  some_contradictory =
      any_agree (λ (b : Block). is_contradictory b.equations) (λ (b : Block). any (too_few (is_mine_of (all_equations bs))) b.equations) bs
      (λ b m. any_agree (too_few (is_mine_of b.equations)) (too_few (is_mine_of (all_equations bs))) b.equations (λ e n. rw (mines_of_block b m e n)))
      ∙ sym (any_joined_map (too_few (is_mine_of (all_equations bs))) (λ (b : Block). b.equations) bs)

  -- ---- the answer of the direct rule

  -- a contradiction
  pub direct_contradiction_free : (direct bs).contradiction ≡ is_contradictory (all_equations bs)
  unfolding direct_left
  direct_contradiction_free =
      direct_contradiction bs
      ∙ any_map (λ (b : Block). any is_negative b.equations) direct_left bs
      ∙ any_agree (λ (b : Block). any is_negative (after_safe b.equations)) (λ (b : Block). is_contradictory b.equations) bs
      (λ b m. after_safe_negative b.equations)
      ∙ some_contradictory

  -- a list of the answer, where the lists of the blocks have what a test on their equations says, and the test may be asked of all at once
  listed_free : (g : Block → List ℕ) (test : List BlockEquation → ℕ → Bool) (c : ℕ) → ((b : Block) → has (g b) c ≡ test b.equations c)
      → any (λ (b : Block). test b.equations c) bs ≡ test (all_equations bs) c
      → has (cond (direct bs).contradiction [] (from_last g bs)) c ≡ (not (is_contradictory (all_equations bs)) && test (all_equations bs) c)
  listed_free g test c each all =
      unless_listed (direct bs).contradiction (from_last g bs) c
      ∙ rw (direct_contradiction_free, from_last_has g bs c, any_agree (λ (b : Block). has (g b) c) (λ (b : Block). test b.equations c) bs (λ b m. each b), all)

  -- the mines, where there is no contradiction
  pub direct_mines_free : (c : ℕ) → has (direct bs).mines c ≡ (not (is_contradictory (all_equations bs)) && is_mine_of (all_equations bs) c)
  direct_mines_free c =
      rw (direct_mines bs) (listed_free (λ b. sure_mines b.equations) is_mine_of c (λ b. sure_mines_has b.equations c) (some_mine_lem c))

  -- and the safe cells
  pub direct_safe_free : (c : ℕ) → has (direct bs).safe c ≡ (not (is_contradictory (all_equations bs)) && is_safe_of (all_equations bs) c)
  direct_safe_free c =
      rw (direct_safe bs) (listed_free (λ b. sure_safe b.equations) is_safe_of c (λ b. sure_safe_has b.equations c) (some_safe c))

-- ---- the same equations in another order

-- two equations say the same: the same cells in any order, and equal remainders
pub record Alike (d e : BlockEquation) : Type 0 where
  pub same_cells : Rearranged d.cells e.cells
  pub same_rest : d.rest ≡ e.rest

-- each equation of the one list has its like in the other
pub record SameEquations (ds es : List BlockEquation) : Type 0 where
  pub there : (d : BlockEquation) → Memᴰ d ds → (e : BlockEquation) × Memᴰ e es × Alike d e
  pub back : (e : BlockEquation) → Memᴰ e es → (d : BlockEquation) × Memᴰ d ds × Alike d e

module _ (ds es : List BlockEquation) (same : SameEquations ds es) where
  -- two tests that agree on equations that are alike pass at some equation of both lists or of neither
  same_any : (t u : BlockEquation → Bool) → ((d e : BlockEquation) → Alike d e → t d ≡ u e) → any t ds ≡ any u es
  same_any t u agree = same_test (any t ds) (any u es)
      (λ h. let (d, m, x) = any_in t ds h in let (e, n, w) = same.there d m in in_any u es n (sym (agree d e w) ∙ x))
      (λ h. let (e, m, x) = any_in u es h in let (d, n, w) = same.back e m in in_any t ds n (agree d e w ∙ x))

  module _ (d e : BlockEquation) (alike : Alike d e) where
    -- they have the same cells
    alike_has : (c : ℕ) → has d.cells c ≡ has e.cells c
    alike_has = rearranged_has d.cells e.cells alike.same_cells

    -- and are full together
    alike_full : full d ≡ full e
    alike_full = rw (alike.same_rest, rearranged_length d.cells e.cells alike.same_cells)

  -- so the mines are the same
  pub same_mine : (c : ℕ) → is_mine_of ds c ≡ is_mine_of es c
  same_mine c = same_any (λ (e : BlockEquation). full e && has e.cells c) (λ (e : BlockEquation). full e && has e.cells c)
      (λ d e w. rw (alike_full d e w, alike_has d e w c))

  -- as many in equations that are alike
  alike_mines : (d e : BlockEquation) → Alike d e → count (is_mine_of ds) d.cells ≡ count (is_mine_of es) e.cells
  alike_mines d e w = w.same_cells (is_mine_of ds) ∙ count_ext (is_mine_of ds) (is_mine_of es) e.cells (λ c _. same_mine c)

  -- the safe cells
  pub same_safe : (c : ℕ) → is_safe_of ds c ≡ is_safe_of es c
  same_safe c = rw (
    same_mine c,
    same_any (λ (e : BlockEquation). only_those (is_mine_of ds) e && has e.cells c) (λ (e : BlockEquation). only_those (is_mine_of es) e && has e.cells c)
        (λ d e w. rw (alike_full d e w, w.same_rest, alike_mines d e w, alike_has d e w c)),
  )

  -- and the contradiction
  pub same_contradictory : is_contradictory ds ≡ is_contradictory es
  same_contradictory = same_any (too_few (is_mine_of ds)) (too_few (is_mine_of es)) (λ d e w. rw (alike_full d e w, w.same_rest, alike_mines d e w))

-- blocks of the same equations, in whatever blocks and order, give the direct rule the same answer but for the order of its lists
pub direct_order_free : (bs cs : List Block) → ((b : Block) → Memᴰ b bs → Proper b) → nodup (all_cells bs) ≡ true
    → ((c : Block) → Memᴰ c cs → Proper c) → nodup (all_cells cs) ≡ true → SameEquations (all_equations bs) (all_equations cs)
    → ((direct bs).contradiction ≡ (direct cs).contradiction)
    × ((c : ℕ) → has (direct bs).mines c ≡ has (direct cs).mines c)
    × ((c : ℕ) → has (direct bs).safe c ≡ has (direct cs).safe c)
direct_order_free bs cs proper_bs once_bs proper_cs once_cs same = (
  direct_contradiction_free bs proper_bs once_bs ∙ contradictory ∙ sym (direct_contradiction_free cs proper_cs once_cs),
  λ c. direct_mines_free bs proper_bs once_bs c ∙ rw (contradictory, same_mine ds es same c) (sym (direct_mines_free cs proper_cs once_cs c)),
  λ c. direct_safe_free bs proper_bs once_bs c ∙ rw (contradictory, same_safe ds es same c) (sym (direct_safe_free cs proper_cs once_cs c)),
)
  where
    ds : List BlockEquation
    ds = all_equations bs

    es : List BlockEquation
    es = all_equations cs

    contradictory : is_contradictory ds ≡ is_contradictory es
    contradictory = same_contradictory ds es same
