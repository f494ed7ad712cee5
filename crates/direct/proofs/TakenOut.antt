-- Known cells taken out of equations. Where f has mines at the cells that go as mines, and none at those that go as safe, an equation says the same of f
-- before and after: the count of mines splits into the cells that go and those that stay. And where a remainder plus 8 is at least the number of
-- cells, as at the frontier, it stays so, and what is subtracted from it is never more than it is. Rests on the laws of counts. Assumes nothing.
use mathlib.Core.Path.{◌≡◌, ◌∙◌}
use mathlib.Core.Logic.{◌↔◌}
use mathlib.Core.Bool.{Bool, true, false, not, cond, ◌||◌}
use mathlib.Core.List.{List, map, Memᴰ}
use Prim.Native.Nat.{ℕ, ◌+◌, ◌≤◌}
use native.Mathlib.Omega.{arith}
use lib.Dec.{ltb}
use lib.ListN.{length}
use borrow.Author.Tests.{eqb-true, eq-eqb, le-ltb, not-true}
use Rattle.lists.specs.Lists.{keep, count, any, has, nodup}
use Rattle.lists.proofs.Tests.{same_test, or_false_left, or_false_right}
use Rattle.lists.proofs.Members.{kept_passes, kept_has, has_kept, nodup_keep}
use Rattle.lists.proofs.Counts.{count_ext, count_zero, count_split, length_keep}
use Rattle.lists.proofs.Rearranged.{count_all}
use Rattle.lists.proofs.PassingElements.{any_none, Each, each_mapped}
use Rattle.fitting.specs.Equations.{Holds}
use Rattle.blocks.specs.Blocks.{BlockEquation, Block, says}
use Rattle.blocks.proofs.ProperBlocks.{Proper}
use Rattle.direct.specs.Found.{less_mines, less_safe}
use Rattle.direct.specs.Direct.{full}

-- ---- one equation

module _ (known : List ℕ) (e : BlockEquation) where
  -- the cells that stay
  abbrev others : List ℕ
  others = keep (λ c. not (has known c)) e.cells

  -- each cell goes or stays
  cells_parted : count (has known) e.cells + length others ≡ length e.cells
  cells_parted =
      omega (
        arith,
        count_split (λ _. true) (has known) e.cells,
        count_all e.cells,
        count_all (keep (has known) e.cells),
        count_all others,
        length_keep (has known) e.cells,
      )

  -- where f is v at the known cells, so do the mines
  mines_parted : (f : ℕ → Bool) (v : Bool) → ((c : ℕ) → has known c ≡ true → has e.cells c ≡ true → f c ≡ v)
      → count f e.cells ≡ cond v (count (has known) e.cells) 0 + count f others
  mines_parted f v same =
      omega (
        arith,
        count_split f (has known) e.cells,
        going v (λ c h. same c (kept_passes (has known) e.cells c h) (kept_has (has known) e.cells c h)),
      )
    where
      going : (t : Bool) → ((c : ℕ) → has (keep (has known) e.cells) c ≡ true → f c ≡ t)
          → count f (keep (has known) e.cells) ≡ cond t (count (has known) e.cells) 0
      going true h = count_ext f (λ _. true) (keep (has known) e.cells) h ∙ count_all (keep (has known) e.cells) ∙ length_keep (has known) e.cells
      going false h = count_zero f (keep (has known) e.cells) h

  -- no cell stands twice without known mines, if none did
  pub less_mines_once : nodup e.cells ≡ true → nodup (less_mines known e).cells ≡ true
  less_mines_once n = nodup_keep (λ c. not (has known c)) e.cells n

  -- nor without known safe cells
  pub less_safe_once : nodup e.cells ≡ true → nodup (less_safe known e).cells ≡ true
  less_safe_once = less_mines_once

  -- ---- mines

  -- where the known cells of the equation are mines, it says the same without them
  pub less_mines_says : (f : ℕ → Bool) → ((c : ℕ) → has known c ≡ true → has e.cells c ≡ true → f c ≡ true)
      → Holds f (says e) ↔ Holds f (says (less_mines known e))
  less_mines_says f mines = (λ h. omega (arith, mines_parted f true mines), λ h. omega (arith, mines_parted f true mines))

  -- the remainder falls by as many
  pub less_mines_rest : length e.cells ≤ e.rest → (less_mines known e).rest + count (has known) e.cells ≡ e.rest
  less_mines_rest h = omega (arith, cells_parted)

  -- and plus 8 is still at least the number of cells
  pub less_mines_enough : length e.cells ≤ e.rest → length (less_mines known e).cells ≤ (less_mines known e).rest
  less_mines_enough h = omega (arith, cells_parted)

  -- it is full exactly where it was
  pub less_mines_full : full (less_mines known e) ≡ full e
  less_mines_full = same_test (full (less_mines known e)) (full e) before after
    where
      before : full (less_mines known e) ≡ true → full e ≡ true
      before h = let w = eqb-true (less_mines known e).rest (length others + 8) h in
          eq-eqb e.rest (length e.cells + 8) (omega (arith, cells_parted))

      after : full e ≡ true → full (less_mines known e) ≡ true
      after h = let w = eqb-true e.rest (length e.cells + 8) h in
          eq-eqb (less_mines known e).rest (length others + 8) (omega (arith, cells_parted))

  -- ---- safe cells

  -- where the known cells of the equation are free, it says the same without them
  pub less_safe_says : (f : ℕ → Bool) → ((c : ℕ) → has known c ≡ true → has e.cells c ≡ true → f c ≡ false)
      → Holds f (says e) ↔ Holds f (says (less_safe known e))
  less_safe_says f safe = (λ h. omega (arith, mines_parted f false safe), λ h. omega (arith, mines_parted f false safe))

  -- the remainder plus 8 is still at least the number of cells
  pub less_safe_enough : length e.cells ≤ e.rest → length (less_safe known e).cells ≤ (less_safe known e).rest
  less_safe_enough h = omega (arith, cells_parted)

-- ---- a block

-- known mines and safe cells taken out of a proper block: it stays proper, also where equations are dropped that have no cell left
pub taken_out_proper : (ms ss : List ℕ) (b : Block) (left : List BlockEquation) → Proper b
    → ((e : BlockEquation) → Memᴰ e left → (d : BlockEquation) × Memᴰ d b.equations × (less_safe ss (less_mines ms d) ≡ e))
    → ((d : BlockEquation) → Memᴰ d b.equations → (c : ℕ) → has d.cells c ≡ true → has ms c ≡ false → has ss c ≡ false
    → Memᴰ (less_safe ss (less_mines ms d)) left)
    → Proper (record { cells = keep (λ c. not (has ms c || has ss c)) b.cells; equations = left })
taken_out_proper ms ss b left proper from stays = record {
  once = nodup_keep unknown b.cells proper.once;
  equations_once = λ e m. let (d, n, w) = from e m in
      rw (← w) (less_safe_once ss (less_mines ms d) (less_mines_once ms d (proper.equations_once d n)));
  within = λ e m c h. let (d, n, w) = from e m in inside d n c (rw (← w) at h);
  covered = λ c h. covering c (not-true (has ms c || has ss c) (kept_passes unknown b.cells c h)) (proper.covered c (kept_has unknown b.cells c h));
}
  where
    unknown : ℕ → Bool
    unknown c = not (has ms c || has ss c)

    inside : (d : BlockEquation) → Memᴰ d b.equations → (c : ℕ) → has (less_safe ss (less_mines ms d)).cells c ≡ true
        → has (keep unknown b.cells) c ≡ true
    inside d n c h =
        let k : has (less_mines ms d).cells c ≡ true = kept_has (λ x. not (has ss x)) (less_mines ms d).cells c h in
        has_kept unknown b.cells c
        (rw (not-true (has ms c) (kept_passes (λ x. not (has ms x)) d.cells c k)) (kept_passes (λ x. not (has ss x)) (less_mines ms d).cells c h))
        (proper.within d n c (kept_has (λ x. not (has ms x)) d.cells c k))

    covering : (c : ℕ) → (has ms c || has ss c) ≡ false → (d : BlockEquation) × Memᴰ d b.equations × (has d.cells c ≡ true)
        → (e : BlockEquation) × Memᴰ e left × (has e.cells c ≡ true)
    covering c out (d, n, h) =
        let x : has ms c ≡ false = or_false_left (has ms c) (has ss c) out in
        let y : has ss c ≡ false = or_false_right (has ms c) (has ss c) out in (
          less_safe ss (less_mines ms d),
          stays d n c h x y,
          has_kept (λ z. not (has ss z)) (less_mines ms d).cells c (rw y) (has_kept (λ z. not (has ms z)) d.cells c (rw x) h),
        )

-- ---- a list of equations

-- mines placed as f says solve an equation
abbrev pub SolvedBy : (ℕ → Bool) → BlockEquation → Type 0
SolvedBy f e = Holds f (says e)

-- each equation of a list
abbrev pub SolvesAll : (ℕ → Bool) → List BlockEquation → Type 0
SolvesAll f es = Each (SolvedBy f) es

-- an equation with a negative remainder
abbrev pub is_negative : BlockEquation → Bool
is_negative e = ltb e.rest 8

module _ (f : ℕ → Bool) where
  -- then it solves them without known mines
  pub solves_less_mines : (ms : List ℕ) (es : List BlockEquation) → ((c : ℕ) → has ms c ≡ true → f c ≡ true)
      → SolvesAll f es → SolvesAll f (map (less_mines ms) es)
  solves_less_mines ms es mines s =
      each_mapped (SolvedBy f) (less_mines ms) es (λ e m. (less_mines_says ms e f (λ c h _. mines c h)).0 (s e m))

  -- and without known safe cells
  pub solves_less_safe : (ss : List ℕ) (es : List BlockEquation) → ((c : ℕ) → has ss c ≡ true → f c ≡ false)
      → SolvesAll f es → SolvesAll f (map (less_safe ss) es)
  solves_less_safe ss es safe s =
      each_mapped (SolvedBy f) (less_safe ss) es (λ e m. (less_safe_says ss e f (λ c h _. safe c h)).0 (s e m))

  -- and no remainder is negative
  pub solved_not_negative : (es : List BlockEquation) → SolvesAll f es → any is_negative es ≡ false
  solved_not_negative es s = any_none is_negative es (λ e m. le-ltb e.rest 8 (omega (arith, s e m)))

-- a remainder plus 8 is at least the number of cells
abbrev pub RestCovers : BlockEquation → Type 0
RestCovers e = length e.cells ≤ e.rest

-- that of each equation of a list
abbrev pub RestsCover : List BlockEquation → Type 0
RestsCover es = Each RestCovers es

-- so it is without known mines
pub covers_less_mines : (ms : List ℕ) (es : List BlockEquation) → RestsCover es → RestsCover (map (less_mines ms) es)
covers_less_mines ms es h = each_mapped RestCovers (less_mines ms) es (λ e m. less_mines_enough ms e (h e m))

-- and without known safe cells
pub covers_less_safe : (ss : List ℕ) (es : List BlockEquation) → RestsCover es → RestsCover (map (less_safe ss) es)
covers_less_safe ss es h = each_mapped RestCovers (less_safe ss) es (λ e m. less_safe_enough ss e (h e m))
