-- The two sweeps over all equations at once, where no cell stands in two blocks and the cells of an equation are its block's. The cells of the equations
-- that pass a test are then the blocks' lists, from the last block to the first, since no cell of one list is in another; and a cell of a block is
-- found among all equations exactly where it is found in its own block. Rests on the laws of lists joined. Assumes nothing.
use mathlib.Core.Path.{◌≡◌, refl, sym, ap, ◌∙◌}
use mathlib.Core.Logic.{inl, inr}
use mathlib.Core.Bool.{Bool, true, false, not}
use mathlib.Core.List.Memᴰ
use mathlib.Core.List.{List, [], ◌∷◌, ◌++◌, map, map-map, map-append, append-nil, reverse, reverse-cons, reverse-append, Memᴰ}
use Prim.Native.Nat.{ℕ}
use Rattle.lists.specs.Lists.{keep, any, all, has, nodup, joined, add_new}
use Rattle.lists.proofs.Tests.{Decided, decided, clash, same_test}
use Rattle.lists.proofs.Members.{kept_has}
use Rattle.lists.proofs.Counts.{count_ext}
use Rattle.lists.proofs.All.{all_has}
use Rattle.lists.proofs.AddNew.{add_new_append}
use Rattle.lists.proofs.Kept.{keep_append, keep_ext}
use Rattle.lists.proofs.Backwards.{reverse_map}
use Rattle.lists.proofs.Joined.{joined_append, joined_push}
use Rattle.lists.proofs.Unions.{mem_joined, joined_mem, mem_has, has_mem, has_add_new}
use Rattle.lists.proofs.Occurrences.{all_in, any_in, in_any, kept_in}
use Rattle.lists.proofs.Among.{among_nodup, among_right, joined_once}
use Rattle.lists.proofs.TurnedRound.{map_agree, keep_joined, map_joined, nodup_apart, add_new_behind}
use Rattle.blocks.specs.Blocks.{BlockEquation, Block}
use Rattle.blocks.specs.BlockSets.{all_cells, all_equations}
use Rattle.marks.specs.Marked.{Ready}
use Rattle.direct.specs.Found.{less_mines}
use Rattle.direct.specs.Direct.{full, clear, cells_of, sure_mines, after_mines, sure_safe, from_last}
use Rattle.direct.proofs.Answers.{from_last_has}
use Rattle.direct.proofs.DirectLaws.{not_full, cells_of_equation, after_mines_from, sure_mine_equation, sure_safe_equation}

-- the cells of an equation are its block's
abbrev pub Inside : List Block → Type 0
Inside bs = (b : Block) → Memᴰ b bs → (e : BlockEquation) → Memᴰ e b.equations → (c : ℕ) → has e.cells c ≡ true → has b.cells c ≡ true

-- that is part of what blocks are when a rule begins
pub ready_inside : (bs : List Block) → Ready bs → Inside bs
ready_inside bs ready b m e n c h =
    all_has (has b.cells) e.cells
    (all_in (λ (x : BlockEquation). all (has b.cells) x.cells) b.equations
    (all_in (λ (x : Block). all (λ (y : BlockEquation). all (has x.cells) y.cells) x.equations) bs ready.inside m) n) c h

-- an equation of all blocks is one of a block
equation_block : (bs : List Block) (e : BlockEquation) → Memᴰ e (all_equations bs) → (b : Block) × Memᴰ b bs × Memᴰ e b.equations
equation_block bs e m =
    let (es, n, k) = joined_mem (map (λ (b : Block). b.equations) bs) m in
    let (b, i, w) = Memᴰ.of_map (λ (x : Block). x.equations) bs n in
    (b, i, rw (← w) at k)

-- ---- the lists of the blocks

-- with one block more before the others
from_last_more : (f : Block → List ℕ) (b : Block) (bs : List Block) → from_last f (b ∷ bs) ≡ from_last f bs ++ f b
from_last_more f b bs = ap (λ (l : List Block). joined (map f l)) (reverse-cons b bs) ∙ joined_push f (reverse bs) b

-- of blocks made of others
from_last_made : (f : Block → List ℕ) (g : Block → Block) (bs : List Block) → from_last f (map g bs) ≡ from_last (λ (b : Block). f (g b)) bs
from_last_made f g bs = ap (λ (l : List Block). joined (map f l)) (reverse_map g bs) ∙ ap joined (map-map f g (reverse bs))

-- where each list has cells of its block alone, a cell of a block is listed exactly where its own block lists it
from_last_own : (f : Block → List ℕ) (bs : List Block) → nodup (all_cells bs) ≡ true
    → ((b : Block) → Memᴰ b bs → (c : ℕ) → has (f b) c ≡ true → has b.cells c ≡ true)
    → (b : Block) → Memᴰ b bs → (c : ℕ) → has b.cells c ≡ true → has (from_last f bs) c ≡ has (f b) c
from_last_own f bs once own b m c h = from_last_has f bs c ∙ same_test (any (λ x. has (f x) c) bs) (has (f b) c) there here
  where
    there : any (λ x. has (f x) c) bs ≡ true → has (f b) c ≡ true
    there k =
        let (x, n, t) = any_in (λ x. has (f x) c) bs k in
        let same : x ≡ b = joined_once (λ (y : Block). y.cells) bs once x b n m c (own x n c t) h in
        rw same at t

    here : has (f b) c ≡ true → any (λ x. has (f x) c) bs ≡ true
    here k = in_any (λ x. has (f x) c) bs m k

-- ---- one sweep

module _ (t : BlockEquation → Bool) where
  -- the cells of the equations that pass, with repetition
  abbrev passing : List BlockEquation → List ℕ
  passing es = joined (map (λ (e : BlockEquation). e.cells) (keep t es))

  passing_append : (es ds : List BlockEquation) → passing (es ++ ds) ≡ passing es ++ passing ds
  passing_append es ds =
      let cells : BlockEquation → List ℕ = λ e. e.cells in
      ap (λ (l : List BlockEquation). joined (map cells l)) (keep_append t es ds)
      ∙ ap joined (map-append cells (keep t es) (keep t ds))
      ∙ joined_append (map cells (keep t es)) (map cells (keep t ds))

  -- they are cells of the block
  listed_inside : (bs : List Block) → Inside bs → (b : Block) → Memᴰ b bs → (c : ℕ) → has (cells_of t b.equations) c ≡ true → has b.cells c ≡ true
  listed_inside bs inside b m c h = let (e, n, _, k) = cells_of_equation t b.equations c h in inside b m e n c k

  -- and those of all blocks are cells of the blocks
  all_inside : (bs : List Block) → Inside bs → (c : ℕ) → has (cells_of t (all_equations bs)) c ≡ true → has (all_cells bs) c ≡ true
  all_inside bs inside c h =
      let (e, n, _, k) = cells_of_equation t (all_equations bs) c h in
      let (b, m, i) = equation_block bs e n in
      mem_has (all_cells bs) (mem_joined (has_mem b.cells c (inside b m e i c k)) (Memᴰ.map (λ (x : Block). x.cells) m))

  -- one block and then others
  sweep_more : (b : Block) (bs : List Block) → Inside (b ∷ bs) → nodup (all_cells (b ∷ bs)) ≡ true
      → cells_of t (all_equations (b ∷ bs)) ≡ cells_of t (all_equations bs) ++ cells_of t b.equations
  sweep_more b bs inside once =
      let own = passing b.equations in
      let others = passing (all_equations bs) in
      ap (λ (l : List ℕ). add_new [] (reverse l)) (passing_append b.equations (all_equations bs))
      ∙ ap (add_new []) (reverse-append own others)
      ∙ add_new_append [] (reverse others) (reverse own)
      ∙ ap (λ (l : List ℕ). add_new l (reverse own)) (sym (append-nil (add_new [] (reverse others))))
      ∙ add_new_behind (add_new [] (reverse others)) (reverse own) [] apart
    where
      apart : (c : ℕ) → has (reverse (passing b.equations)) c ≡ true → has (cells_of t (all_equations bs)) c ≡ false
      apart c h = go (decided (has (cells_of t (all_equations bs)) c))
        where
          mine : has b.cells c ≡ true
          mine = listed_inside (b ∷ bs) inside b (Memᴰ.head refl) c (has_add_new [] (reverse (passing b.equations)) c ∙ h)

          go : Decided (has (cells_of t (all_equations bs)) c) → has (cells_of t (all_equations bs)) c ≡ false
          go (inl k) =
              clash (has (all_cells bs) c) (all_inside bs (λ x m. inside x (Memᴰ.tail m)) c k)
              (nodup_apart b.cells (all_cells bs) once c mine)
          go (inr k) = k

  -- the cells of all equations that pass are the lists of the blocks
  pub sweep_of_all : (bs : List Block) → Inside bs → nodup (all_cells bs) ≡ true
      → cells_of t (all_equations bs) ≡ from_last (λ (b : Block). cells_of t b.equations) bs
  sweep_of_all [] inside once = refl
  sweep_of_all (b ∷ bs) inside once =
      sweep_more b bs inside once
      ∙ ap (λ (l : List ℕ). l ++ cells_of t b.equations)
      (sweep_of_all bs (λ x m. inside x (Memᴰ.tail m)) (among_nodup (all_cells bs) (b.cells ++ all_cells bs) (among_right b.cells (all_cells bs)) once))
      ∙ sym (from_last_more (λ (x : Block). cells_of t x.equations) b bs)

-- ---- the mines and the safe cells of all blocks

-- an equation less known mines is the same where two lists agree on its cells
less_mines_agree : (ms ks : List ℕ) (e : BlockEquation) → ((c : ℕ) → has e.cells c ≡ true → has ms c ≡ has ks c) → less_mines ms e ≡ less_mines ks e
less_mines_agree ms ks e h =
    rw (
      keep_ext (λ c. not (has ms c)) (λ c. not (has ks c)) e.cells (λ c k. ap not (h c k)),
      count_ext (has ms) (has ks) e.cells h,
    )

-- a block after the first sweep
abbrev without_mines : Block → Block
without_mines b = record { cells = b.cells; equations = after_mines b.equations }

module _ (bs : List Block) (ready : Ready bs) where
  -- the mines are the blocks' mines, from the last block to the first
  pub mines_of_all : sure_mines (all_equations bs) ≡ from_last (λ b. sure_mines b.equations) bs
  unfolding sure_mines
  mines_of_all = sweep_of_all full bs (ready_inside bs ready) ready.once

  -- so a cell of a block is a mine of the list exactly where it is one of its own block
  pub own_mine : (b : Block) → Memᴰ b bs → (c : ℕ) → has b.cells c ≡ true → has (sure_mines (all_equations bs)) c ≡ has (sure_mines b.equations) c
  own_mine b m c h =
      ap (λ (l : List ℕ). has l c) mines_of_all
      ∙ from_last_own (λ x. sure_mines x.equations) bs ready.once
      (λ x n d k. let (e, i, _, u) = sure_mine_equation x.equations d k in ready_inside bs ready x n e i d u) b m c h

  -- the equations after the first sweep are those of the blocks after it
  after_mines_of_all : after_mines (all_equations bs) ≡ all_equations (map without_mines bs)
  after_mines_of_all =
      let ms = sure_mines (all_equations bs) in
      ap (map (less_mines ms)) (keep_joined not_full (λ (b : Block). b.equations) bs)
      ∙ map_joined (less_mines ms) (λ (b : Block). keep not_full b.equations) bs
      ∙ ap joined (map_agree (λ (b : Block). map (less_mines ms) (keep not_full b.equations)) (λ (b : Block). after_mines b.equations) bs agree)
      ∙ ap joined (sym (map-map (λ (b : Block). b.equations) without_mines bs))
    where
      agree : (b : Block) → Memᴰ b bs → map (less_mines (sure_mines (all_equations bs))) (keep not_full b.equations) ≡ after_mines b.equations
      agree b m =
          map_agree (less_mines (sure_mines (all_equations bs))) (less_mines (sure_mines b.equations)) (keep not_full b.equations)
          (λ e n. less_mines_agree (sure_mines (all_equations bs)) (sure_mines b.equations) e
          (λ c h. own_mine b m c (ready_inside bs ready b m e (kept_in not_full b.equations e n).0 c h)))

  -- the safe cells are the blocks' safe cells
  pub safe_of_all : sure_safe (all_equations bs) ≡ from_last (λ b. sure_safe b.equations) bs
  unfolding sure_safe
  safe_of_all =
      ap (cells_of clear) after_mines_of_all
      ∙ sweep_of_all clear (map without_mines bs) inside (rw (map-map (λ (b : Block). b.cells) without_mines bs) ready.once)
      ∙ from_last_made (λ (b : Block). cells_of clear b.equations) without_mines bs
    where
      inside : Inside (map without_mines bs)
      inside x m e n c h =
          let (b, i, w) = Memᴰ.of_map without_mines bs m in
          let (d, j, _, v) = after_mines_from b.equations e (rw (← w) at n) in
          let k : has (less_mines (sure_mines b.equations) d).cells c ≡ true = rw (← v) at h in
          rw (← w) (ready_inside bs ready b i d j c (kept_has (λ y. not (has (sure_mines b.equations) y)) d.cells c k))

  -- and a cell of a block is safe by the list exactly where it is by its own block
  pub own_safe : (b : Block) → Memᴰ b bs → (c : ℕ) → has b.cells c ≡ true → has (sure_safe (all_equations bs)) c ≡ has (sure_safe b.equations) c
  own_safe b m c h =
      ap (λ (l : List ℕ). has l c) safe_of_all
      ∙ from_last_own (λ x. sure_safe x.equations) bs ready.once
      (λ x n d k. let (e, i, _, u) = sure_safe_equation x.equations d k in ready_inside bs ready x n e i d u) b m c h
