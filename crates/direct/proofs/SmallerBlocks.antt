-- Blocks made smaller fit into a block set where the blocks do: cells, equations and blocks only get fewer, and an equation without known cells is no larger.
-- So what the direct rule leaves fits. Rests on the laws of lists that stand among others. Assumes nothing.
use mathlib.Core.Path.{◌≡◌, ap}
use mathlib.Core.Bool.{Bool, true, false, not, cond, ◌&&◌, ◌||◌}
use mathlib.Core.List.{List, [], ◌∷◌, map, map-map}
use Prim.Native.Nat.{ℕ, ◌-◌, ◌≤◌}
use native.Mathlib.Omega.{arith}
use lib.Dec.{leb, ltb}
use lib.ListN.{length, length-append, length-map}
use borrow.Author.Tests.{le-leb, leb-true, lt-ltb, ltb-true}
use Rattle.lists.specs.Lists.{keep, count, all, has, joined}
use Rattle.lists.proofs.Tests.{and_left, and_right}
use Rattle.lists.proofs.All.{all_keep, has_all, all_has}
use Rattle.lists.proofs.Occurrences.{all_in}
use Rattle.lists.proofs.Unions.{all_of}
use Rattle.lists.proofs.PassingElements.{Each, each_kept, each_mapped}
use Rattle.lists.proofs.Among.{Among, among_length, among_has, keep_among, joined_keep_among, joined_among}
use Rattle.lists.proofs.StoredAndKept.{keep_fewer}
use Rattle.blocks.specs.Blocks.{BlockEquation, Block}
use Rattle.blocks.specs.BlockSets.{all_cells, all_equations, small_equation, Small}
use Rattle.direct.specs.Found.{less_mines, less_safe}
use Rattle.direct.specs.Direct.{full, clear, sure_mines, after_mines, sure_safe, direct_left}
use Rattle.direct.proofs.Answers.{each_of_made, each_of_kept}

-- ---- an equation

-- it fits into the arrays
abbrev pub SmallEquation : BlockEquation → Type 0
SmallEquation e = small_equation e ≡ true

-- some of its cells with at most its remainder
smaller_equation : (e : BlockEquation) (f : ℕ → Bool) (k : ℕ) → SmallEquation e → SmallEquation (record { cells = keep f e.cells; rest = e.rest - k })
smaller_equation e f k h =
    let rest = and_right (leb (length e.cells) 8) (all (λ c. ltb c 1024) e.cells && ltb e.rest 256) h in
    let few : length e.cells ≤ 8 = leb-true (length e.cells) 8 (and_left (leb (length e.cells) 8) _ h) in
    let below = and_left (all (λ c. ltb c 1024) e.cells) (ltb e.rest 256) rest in
    let byte = ltb-true e.rest 256 (and_right (all (λ c. ltb c 1024) e.cells) (ltb e.rest 256) rest) in
    rw (
      le-leb (length (keep f e.cells)) 8 (omega (arith, keep_fewer f e.cells)),
      all_keep (λ c. ltb c 1024) f e.cells below,
      lt-ltb (e.rest - k) 256 (omega arith),
    )

pub less_mines_small : (known : List ℕ) (e : BlockEquation) → SmallEquation e → SmallEquation (less_mines known e)
less_mines_small known e = smaller_equation e (λ c. not (has known c)) (count (has known) e.cells)

pub less_safe_small : (known : List ℕ) (e : BlockEquation) → SmallEquation e → SmallEquation (less_safe known e)
less_safe_small known e h =
    let same : e.rest - 0 ≡ e.rest = omega arith in
    rw same at (smaller_equation e (λ c. not (has known c)) 0 h)

-- ---- blocks

-- some of its cells, no more equations, and these fit where its equations do
pub record Smaller (q b : Block) : Type 0 where
  pub cells : Among q.cells b.cells
  pub equations : length q.equations ≤ length b.equations
  pub small : Each SmallEquation b.equations → Each SmallEquation q.equations

-- each block made smaller
module _ (g : Block → Block) (smaller : (b : Block) → Smaller (g b) b) where
  pub made_among : (bs : List Block) → Among (all_cells (map g bs)) (all_cells bs)
  made_among bs f =
      omega (
        arith,
        ap (λ (ls : List (List ℕ)). count f (joined ls)) (map-map (λ (b : Block). b.cells) g bs),
        joined_among (λ b. (g b).cells) (λ b. b.cells) bs (λ b m. (smaller b).cells) f,
      )

  made_few : (bs : List Block) → length (all_equations (map g bs)) ≤ length (all_equations bs)
  made_few [] = omega arith
  made_few (b ∷ bs) =
      omega (
        arith,
        length-append (g b).equations (all_equations (map g bs)),
        length-append b.equations (all_equations bs),
        (smaller b).equations,
        made_few bs,
      )

  pub made_fits : (bs : List Block) → Small bs → Small (map g bs)
  made_fits bs s = record {
    few_cells = omega (arith, among_length (all_cells (map g bs)) (all_cells bs) (made_among bs), s.few_cells);
    few_equations = omega (arith, made_few bs, s.few_equations);
    few_blocks = omega (arith, length-map bs g, s.few_blocks);
    on_board = has_all (λ c. ltb c 1024) (all_cells (map g bs))
        (λ c h. all_has (λ x. ltb x 1024) (all_cells bs) s.on_board c (among_has (all_cells (map g bs)) (all_cells bs) (made_among bs) c h));
    small = all_of small_equation (all_equations (map g bs))
        (each_of_made SmallEquation g bs (λ b m. (smaller b).small) (λ e n. all_in small_equation (all_equations bs) s.small n));
  }

-- some of the blocks
module _ (t : Block → Bool) where
  pub some_among : (bs : List Block) → Among (all_cells (keep t bs)) (all_cells bs)
  some_among = joined_keep_among (λ (b : Block). b.cells) t

  some_few : (bs : List Block) → length (all_equations (keep t bs)) ≤ length (all_equations bs)
  some_few [] = omega arith
  some_few (b ∷ bs) = go (t b) (some_few bs)
    where
      go : (v : Bool) → length (all_equations (keep t bs)) ≤ length (all_equations bs)
          → length (all_equations (cond v (b ∷ keep t bs) (keep t bs))) ≤ length (all_equations (b ∷ bs))
      go true ih = omega (arith, length-append b.equations (all_equations (keep t bs)), length-append b.equations (all_equations bs))
      go false ih = omega (arith, length-append b.equations (all_equations bs))

  pub some_fits : (bs : List Block) → Small bs → Small (keep t bs)
  some_fits bs s = record {
    few_cells = omega (arith, among_length (all_cells (keep t bs)) (all_cells bs) (some_among bs), s.few_cells);
    few_equations = omega (arith, some_few bs, s.few_equations);
    few_blocks = omega (arith, keep_fewer t bs, s.few_blocks);
    on_board = has_all (λ c. ltb c 1024) (all_cells (keep t bs))
        (λ c h. all_has (λ x. ltb x 1024) (all_cells bs) s.on_board c (among_has (all_cells (keep t bs)) (all_cells bs) (some_among bs) c h));
    small = all_of small_equation (all_equations (keep t bs)) (each_of_kept SmallEquation t bs (λ e n. all_in small_equation (all_equations bs) s.small n));
  }

-- ---- what the direct rule leaves

-- the direct rule
direct_smaller : (b : Block) → Smaller (direct_left b) b
unfolding direct_left
direct_smaller b =
    let es = b.equations in
    let first = keep (λ (e : BlockEquation). not (full e)) es in
    let second = keep (λ (e : BlockEquation). not (clear e)) (after_mines es) in
    record {
      cells = keep_among (λ c. not (has (sure_mines es) c || has (sure_safe es) c)) b.cells;
      equations = omega (
        arith,
        length-map second (less_safe (sure_safe es)),
        keep_fewer (λ (e : BlockEquation). not (clear e)) (after_mines es),
        length-map first (less_mines (sure_mines es)),
        keep_fewer (λ (e : BlockEquation). not (full e)) es,
      );
      small = λ h.
          each_mapped SmallEquation (less_safe (sure_safe es)) second
          (λ e m. less_safe_small (sure_safe es) e
          (each_kept SmallEquation (λ (x : BlockEquation). not (clear x)) (after_mines es)
          (each_mapped SmallEquation (less_mines (sure_mines es)) first
          (λ d n. less_mines_small (sure_mines es) d (each_kept SmallEquation (λ (x : BlockEquation). not (full x)) es h d n))) e m));
    }

pub direct_fits : (bs : List Block) → Small bs → Small (map direct_left bs)
direct_fits = made_fits direct_left direct_smaller
