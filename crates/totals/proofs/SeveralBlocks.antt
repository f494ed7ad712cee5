-- Several blocks that share no cell: what their mine counts may add up to is exactly what one placing of mines that solves them all has on their
-- cells. The idea: a solution of each block, put together, solves them all, and a block's count is that of its own solution. Then one block, the
-- i-th, and the others. For blocks as they should be (`Proper`). Rests on SumsOfSets and BlockCounts. Assumes nothing.
use mathlib.Core.Path.{◌≡◌, refl, sym, ap, ◌∙◌, subst}
use mathlib.Core.Logic.{◌⊎◌, inl, inr}
use mathlib.Core.Bool.{Bool, true, false}
use mathlib.Core.List.Memᴰ
use mathlib.Core.List.{List, [], ◌∷◌, ◌++◌, map, Memᴰ, map-append}
use Prim.Native.Nat.{ℕ, suc, ◌+◌, ◌<◌}
use native.Mathlib.Omega.{arith}
use lib.ListN.{length, get_or, take, drop}
use lib.Seq.{split_at}
use Rattle.lists.specs.Lists.{count, has, nodup, joined}
use Rattle.lists.proofs.Tests.{Decided, decided, clash}
use Rattle.lists.proofs.Counts.{count_ext, count_append}
use Rattle.lists.proofs.Rearranged.{Rearranged}
use Rattle.lists.proofs.Joined.{joined_append, joined_split}
use Rattle.lists.proofs.Among.{among_right, among_nodup}
use Rattle.lists.proofs.TurnedRound.{nodup_apart}
use Rattle.blocks.specs.Blocks.{Block}
use Rattle.blocks.specs.BlockSets.{all_cells}
use Rattle.blocks.proofs.ProperBlocks.{Proper, block_cell, Solves}
use Rattle.blocks.proofs.Reading.{no_block}
use Rattle.frontier.proofs.JoinedBlocks.{SolvesEach, same_solves, on_cells}
use Rattle.totals.specs.Totals.{possible_count, sums_to, others_than}
use Rattle.totals.proofs.SumsOfSets.{sums_equal, sums_more, none_sums, more_sums}
use Rattle.totals.proofs.BlockCounts.{solution_possible, possible_solution}

-- each of some blocks is as it should be
abbrev pub ProperEach : List Block → Type 0
ProperEach bs = (b : Block) → Memᴰ b bs → Proper b

-- ---- two placings of mines, put together

module _ (k l : List ℕ) (g h : ℕ → Bool) where
  -- on these cells it counts as g
  count_on : count (on_cells k g h) k ≡ count g k
  count_on = count_ext (on_cells k g h) g k (λ c e. rw e)

  -- and where none of them stands, as h
  count_off : ((c : ℕ) → has l c ≡ true → has k c ≡ false) → count (on_cells k g h) l ≡ count h l
  count_off apart = count_ext (on_cells k g h) h l (λ c e. rw (apart c e))

-- no number stands in both of two lists that together have none twice
other_side : (k l : List ℕ) → nodup (k ++ l) ≡ true → (c : ℕ) → has l c ≡ true → has k c ≡ false
other_side k l once c h = go (decided (has k c))
  where
    go : Decided (has k c) → has k c ≡ false
    go (inl e) = clash (has l c) h (nodup_apart k l once c e)
    go (inr e) = e

-- ---- a block and others

module _ (b : Block) (bs : List Block) (proper : Proper b) (each : ProperEach bs) (once : nodup (b.cells ++ all_cells bs) ≡ true)
    (g h : ℕ → Bool) (own : Solves g b) (others : SolvesEach h bs) where
  -- the block's solution on its cells, with one of the others elsewhere, solves the block
  pub joined_own : Solves (on_cells b.cells g h) b
  joined_own = same_solves b proper (on_cells b.cells g h) g (λ c e. rw e) own

  -- and the others
  pub joined_others : SolvesEach (on_cells b.cells g h) bs
  joined_others x m =
      same_solves x (each x m) (on_cells b.cells g h) h
      (λ c e. rw (other_side b.cells (all_cells bs) once c (block_cell bs x c m e))) (others x m)

  -- and has the mines of both
  pub joined_count : count (on_cells b.cells g h) (b.cells ++ all_cells bs) ≡ count g b.cells + count h (all_cells bs)
  joined_count =
      count_append (on_cells b.cells g h) b.cells (all_cells bs)
      ∙ rw (count_on b.cells (all_cells bs) g h, count_off b.cells (all_cells bs) g h (other_side b.cells (all_cells bs) once))

-- ---- what several blocks add up to

-- the mines of what solves them all are a sum of possible counts
pub solutions_sum : (bs : List Block) → ProperEach bs → (f : ℕ → Bool) → SolvesEach f bs
    → sums_to (map possible_count bs) (count f (all_cells bs)) ≡ true
solutions_sum [] each f s = refl
solutions_sum (b ∷ bs) each f s =
    sums_equal (map possible_count (b ∷ bs)) (sym (count_append f b.cells (all_cells bs)))
    (sums_more (possible_count b) (map possible_count bs) (count f b.cells) (count f (all_cells bs))
    (solution_possible b (each b (Memᴰ.head refl)) f (s b (Memᴰ.head refl)))
    (solutions_sum bs (λ x m. each x (Memᴰ.tail m)) f (λ x m. s x (Memᴰ.tail m))))

-- and where possible counts add up to n, something with n mines on their cells solves them all
pub sum_solutions : (bs : List Block) → ProperEach bs → nodup (all_cells bs) ≡ true → (n : ℕ) → sums_to (map possible_count bs) n ≡ true
    → (f : ℕ → Bool) × SolvesEach f bs × (count f (all_cells bs) ≡ n)
sum_solutions [] each once n h = (λ _. false, λ b m. absurd (Memᴰ.not-nil m), sym (none_sums n h))
sum_solutions (b ∷ bs) each once n h =
    let (t, r, k, l, e) = more_sums (possible_count b) (map possible_count bs) n h in
    let (g, own, v) = possible_solution b (each b (Memᴰ.head refl)) t k in
    let (f, others, w) = sum_solutions bs rest (among_nodup (all_cells bs) (all_cells (b ∷ bs)) (among_right b.cells (all_cells bs)) once) r l in (
      on_cells b.cells g f,
      λ x m. go g f own others x (Memᴰ.cases_cons m),
      joined_count b bs (each b (Memᴰ.head refl)) rest once g f own others ∙ rw (v, w, e),
    )
  where
    rest : ProperEach bs
    rest x m = each x (Memᴰ.tail m)

    go : (g f : ℕ → Bool) → Solves g b → SolvesEach f bs → (x : Block) → (x ≡ b) ⊎ Memᴰ x bs → Solves (on_cells b.cells g f) x
    go g f own others x (inl e) =
        subst (λ (y : Block). Solves (on_cells b.cells g f) y) (sym e) (joined_own b bs (each b (Memᴰ.head refl)) rest once g f own others)
    go g f own others x (inr m) = joined_others b bs (each b (Memᴰ.head refl)) rest once g f own others x m

-- ---- the i-th block and the others

module _ (bs : List Block) (i : ℕ) (within : i < length bs) where
  abbrev pub block_there : Block
  block_there = get_or bs i no_block

  -- a block is the i-th or one of the others
  pub there_or_other : (x : Block) → Memᴰ x bs → (x ≡ block_there) ⊎ Memᴰ x (others_than i bs)
  there_or_other x m = go (Memᴰ.append_cases (take i bs) (subst (λ (l : List Block). Memᴰ x l) (split_at bs i no_block within) m))
    where
      behind : (x ≡ block_there) ⊎ Memᴰ x (drop (suc i) bs) → (x ≡ block_there) ⊎ Memᴰ x (others_than i bs)
      behind (inl e) = inl e
      behind (inr k) = inr (Memᴰ.append_right (take i bs) k)

      go : Memᴰ x (take i bs) ⊎ Memᴰ x (block_there ∷ drop (suc i) bs) → (x ≡ block_there) ⊎ Memᴰ x (others_than i bs)
      go (inl k) = inr (Memᴰ.append_left (drop (suc i) bs) k)
      go (inr k) = behind (Memᴰ.cases_cons k)

  -- the others are blocks of the list
  pub other_listed : (x : Block) → Memᴰ x (others_than i bs) → Memᴰ x bs
  other_listed x m = subst (λ (l : List Block). Memᴰ x l) (sym (split_at bs i no_block within)) (go (Memᴰ.append_cases (take i bs) m))
    where
      go : Memᴰ x (take i bs) ⊎ Memᴰ x (drop (suc i) bs) → Memᴰ x (take i bs ++ (block_there ∷ drop (suc i) bs))
      go (inl k) = Memᴰ.append_left (block_there ∷ drop (suc i) bs) k
      go (inr k) = Memᴰ.append_right (take i bs) (Memᴰ.tail k)

  -- the cells of all are its cells and those of the others
  pub cells_there_and_others : Rearranged (all_cells bs) (block_there.cells ++ all_cells (others_than i bs))
  cells_there_and_others f =
      omega (
        arith,
        ap (count f) (joined_split (λ (b : Block). b.cells) bs i no_block within),
        count_append f (all_cells (take i bs)) (block_there.cells ++ all_cells (drop (suc i) bs)),
        count_append f block_there.cells (all_cells (drop (suc i) bs)),
        count_append f block_there.cells (all_cells (others_than i bs)),
        ap (count f) (ap joined (map-append (λ (b : Block). b.cells) (take i bs) (drop (suc i) bs))
            ∙ joined_append (map (λ (b : Block). b.cells) (take i bs)) (map (λ (b : Block). b.cells) (drop (suc i) bs))),
        count_append f (all_cells (take i bs)) (all_cells (drop (suc i) bs)),
      )
