-- What the solutions of a block with an allowed count show, where the array of allowed counts says what the definition does: any count at first, then those that the
-- sums of the other blocks and the inside cells leave. Where every count that a solution has is left, nothing changes. Assumes nothing.
use mathlib.Core.Path.{◌≡◌, refl, sym, ap, ◌∙◌}
use mathlib.Core.Logic.{inl, inr}
use mathlib.Core.Bool.{Bool, true, false, not, ◌&&◌}
use mathlib.Core.List.{List, [], ◌∷◌, ◌++◌, map, Memᴰ, map-append, map-map}
use Prim.Native.Nat.{ℕ, suc, ◌+◌, ◌-◌, ◌≤◌, ◌<◌}
use native.Mathlib.Omega.{arith}
use lib.Dec.{ltb, eqb}
use lib.ListN.{length, get_or, take, drop, get_or-replicate, length-drop}
use lib.Seq.{take-length}
use borrow.Author.Tests.{eq-eqb}
use Rattle.lists.specs.Lists.{range, keep, any, has, without}
use Rattle.lists.proofs.Tests.{Decided, decided}
use Rattle.lists.proofs.Members.{range_in, has_head, has_tail, without_gone, kept_has}
use Rattle.lists.proofs.PlacesAndRanges.{range_append}
use Rattle.lists.proofs.Kept.{keep_append}
use Rattle.lists.proofs.Joined.{read_range, read_all}
use Rattle.lists.proofs.Occurrences.{any_agree, in_any}
use Rattle.blocks.specs.Blocks.{Block}
use Rattle.blocks.proofs.ProperBlocks.{Proper}
use Rattle.groups.specs.Groups.{sizes}
use Rattle.search.specs.Solutions.{sum, solutions}
use Rattle.totals.specs.Totals.{possible_count, up_to, sums_to, others_than, allowed_count, some_mine, some_free}
use Rattle.totals.specs.Joining.{counts_at, counts_but}
use Rattle.totals.proofs.BlockCounts.{possible_at_most}
use Rattle.total_rule.specs.Blocks.{block_there, count_allowed, mine_allowed, free_allowed, any_count, CountsHeld}

-- ---- the rows of a block

module _ (b : Block) where
  -- two tests of the counts that agree on the rows' counts
  rows_agree : (one other : ℕ → Bool) (f : List ℕ → Bool) → ((row : List ℕ) → Memᴰ row (solutions b) → one (sum row) ≡ other (sum row))
      → any (λ (row : List ℕ). one (sum row) && f row) (solutions b) ≡ any (λ (row : List ℕ). other (sum row) && f row) (solutions b)
  rows_agree one other f h =
      any_agree (λ (row : List ℕ). one (sum row) && f row) (λ (row : List ℕ). other (sum row) && f row) (solutions b)
      (λ row m. ap (λ (t : Bool). t && f row) (h row m))

  -- a row's count is possible
  row_possible : (row : List ℕ) → Memᴰ row (solutions b) → possible_count b (sum row) ≡ true
  unfolding possible_count
  row_possible row m = in_any (λ (r : List ℕ). eqb (sum r) (sum row)) (solutions b) m (eq-eqb (sum row) (sum row) refl)

  module _ (proper : Proper b) (few : length b.cells ≤ 1024) where
    -- any count is allowed to a row
    any_allowed : (row : List ℕ) → Memᴰ row (solutions b) → eqb (get_or any_count (sum row) 0) 1 ≡ true
    any_allowed row m =
        let small : sum row < 1025 = omega (arith, possible_at_most b proper (sum row) (row_possible row m)) in
        ap (λ (n : ℕ). eqb n 1) (get_or-replicate 1025 (sum row) 1 0 small)

    pub any_count_lem : (t : ℕ) → count_allowed any_count b t ≡ possible_count b t
    unfolding possible_count
    any_count_lem t = rows_agree (λ n. eqb (get_or any_count n 0) 1) (λ _. true) (λ row. eqb (sum row) t) any_allowed

    -- where every possible count is allowed
    module _ (near : ℕ → List ℕ) (p : List ℕ) (total i : ℕ) (each : (t : ℕ) → possible_count b t ≡ true → allowed_count near p total i t ≡ true) where
      pub mine_same : (g : ℕ) → mine_allowed any_count b g ≡ some_mine near p total i b g
      unfolding some_mine
      mine_same g = rows_agree (λ n. eqb (get_or any_count n 0) 1) (allowed_count near p total i) (λ row. ltb 0 (get_or row g 0))
          (λ row m. any_allowed row m ∙ sym (each (sum row) (row_possible row m)))

      pub free_same : (g : ℕ) → free_allowed any_count b g ≡ some_free near p total i b g
      unfolding some_free
      free_same g = rows_agree (λ n. eqb (get_or any_count n 0) 1) (allowed_count near p total i) (λ row. ltb (get_or row g 0) (get_or (sizes b) g 0))
          (λ row m. any_allowed row m ∙ sym (each (sum row) (row_possible row m)))

  -- where the array allows what the definition does
  module _ (near : ℕ → List ℕ) (p : List ℕ) (total i : ℕ) (allowed : List ℕ) (says : (t : ℕ) → eqb (get_or allowed t 0) 1 ≡ allowed_count near p total i t) where
    pub mine_left : (g : ℕ) → mine_allowed allowed b g ≡ some_mine near p total i b g
    unfolding some_mine
    mine_left g = rows_agree (λ n. eqb (get_or allowed n 0) 1) (allowed_count near p total i) (λ row. ltb 0 (get_or row g 0)) (λ row m. says (sum row))

    pub free_left : (g : ℕ) → free_allowed allowed b g ≡ some_free near p total i b g
    unfolding some_free
    free_left g = rows_agree (λ n. eqb (get_or allowed n 0) 1) (allowed_count near p total i) (λ row. ltb (get_or row g 0) (get_or (sizes b) g 0)) (λ row m. says (sum row))

-- ---- the sums

-- sets that agree at every number
sums_mapped : (f g : ℕ → ℕ → Bool) (js : List ℕ) → ((j : ℕ) → has js j ≡ true → (t : ℕ) → f j t ≡ g j t) → (n : ℕ) → sums_to (map f js) n ≡ sums_to (map g js) n
sums_mapped f g [] h n = refl
sums_mapped f g (j ∷ js) h n =
    any_agree (λ (t : ℕ). f j t && sums_to (map f js) (n - t)) (λ (t : ℕ). g j t && sums_to (map g js) (n - t)) (range 0 (suc n))
    (λ t m. ap (λ (x : Bool). x && sums_to (map f js) (n - t)) (h j (has_head j js) t) ∙ ap (λ (x : Bool). g j t && x) (sums_mapped f g js (λ d w. h d (has_tail j js d w)) (n - t)))

-- the numbers below n but one
range_but : (i n : ℕ) → i < n → keep (λ j. not (eqb j i)) (range 0 n) ≡ range 0 i ++ range (suc i) (n - suc i)
range_but i n h =
    let parts : n ≡ i + suc (n - suc i) = omega arith in
    ap (λ (m : ℕ). without i (range 0 m)) parts ∙ ap (without i) (range_append 0 i (suc (n - suc i)))
    ∙ keep_append (λ j. not (eqb j i)) (range 0 i) (range (0 + i) (suc (n - suc i)))
    ∙ rw (without_gone i (range 0 i) before) (ap (λ (l : List ℕ). range 0 i ++ l) behind)
  where
    before : has (range 0 i) i ≡ false
    before = go (decided (has (range 0 i) i))
      where
        go : Decided (has (range 0 i) i) → has (range 0 i) i ≡ false
        go (inl e) = absurd (omega (arith, (range_in 0 i i e).1))
        go (inr e) = e

    after : has (range (suc i) (n - suc i)) i ≡ false
    after = go (decided (has (range (suc i) (n - suc i)) i))
      where
        go : Decided (has (range (suc i) (n - suc i)) i) → has (range (suc i) (n - suc i)) i ≡ false
        go (inl e) = absurd (omega (arith, (range_in (suc i) (n - suc i) i e).0))
        go (inr e) = e

    behind : without i (range (0 + i) (suc (n - suc i))) ≡ range (suc i) (n - suc i)
    behind =
        let zero_i : 0 + i ≡ i = omega arith in
        rw (zero_i, eq-eqb i i refl) (without_gone i (range (suc i) (n - suc i)) after)

-- the blocks but one, by their places
others_places : (bs : List Block) (i : ℕ) → i < length bs → map (block_there bs) (keep (λ j. not (eqb j i)) (range 0 (length bs))) ≡ others_than i bs
others_places bs i h =
    ap (map (block_there bs)) (range_but i (length bs) h) ∙ map-append (block_there bs) (range 0 i) (range (suc i) (length bs - suc i))
    ∙ rw (read_range bs none 0 i (omega arith), read_range bs none (suc i) (length bs - suc i) (omega arith)) (ap (λ (l : List Block). take i bs ++ l) (take_rest bs i h))
  where
    none : Block
    none = record { cells = []; equations = [] }

    take_rest : (l : List Block) (k : ℕ) → k < length l → take (length l - suc k) (drop (suc k) l) ≡ drop (suc k) l
    take_rest l k w = ap (λ (n : ℕ). take n (drop (suc k) l)) (sym (length-drop (suc k) l)) ∙ take-length (drop (suc k) l)

-- one set before sets whose sums agree
sums_first : (s : ℕ → Bool) (xs ys : List (ℕ → Bool)) → ((n : ℕ) → sums_to xs n ≡ sums_to ys n) → (n : ℕ) → sums_to (s ∷ xs) n ≡ sums_to (s ∷ ys) n
sums_first s xs ys h n =
    any_agree (λ (t : ℕ). s t && sums_to xs (n - t)) (λ (t : ℕ). s t && sums_to ys (n - t)) (range 0 (suc n)) (λ t m. ap (λ (x : Bool). s t && x) (h (n - t)))

module _ (bs : List Block) (ends counts : List ℕ) (held : CountsHeld bs ends counts (length bs)) where
  -- the sums of the blocks at some places
  sums_places : (js : List ℕ) → ((j : ℕ) → has js j ≡ true → j < length bs) → (n : ℕ) → sums_to (map (counts_at counts ends) js) n ≡ sums_to (map possible_count (map (block_there bs) js)) n
  sums_places js h n =
      sums_mapped (counts_at counts ends) (λ j. possible_count (block_there bs j)) js (λ j w. held.at_block j (h j w)) n
      ∙ ap (λ (ss : List (ℕ → Bool)). sums_to ss n) (sym (map-map possible_count (block_there bs) js))

  below : (f : ℕ → Bool) (j : ℕ) → has (keep f (range 0 (length bs))) j ≡ true → j < length bs
  below f j w = omega (arith, (range_in 0 (length bs) j (kept_has f (range 0 (length bs)) j w)).1)

  -- the sums of what the inside cells and the blocks but one can hold
  pub sums_others : (i : ℕ) → i < length bs → (free n : ℕ) → sums_to (up_to free ∷ counts_but counts ends i (length bs)) n ≡ sums_to (up_to free ∷ map possible_count (others_than i bs)) n
  sums_others i h free n =
      sums_first (up_to free) (counts_but counts ends i (length bs)) (map possible_count (others_than i bs))
      (λ m. sums_places (keep (λ j. not (eqb j i)) (range 0 (length bs))) (below (λ j. not (eqb j i))) m
      ∙ ap (λ (xs : List Block). sums_to (map possible_count xs) m) (others_places bs i h)) n

  -- and of all
  pub sums_all : (free n : ℕ) → sums_to (up_to free ∷ counts_but counts ends (length bs) (length bs)) n ≡ sums_to (up_to free ∷ map possible_count bs) n
  sums_all free n =
      sums_first (up_to free) (counts_but counts ends (length bs) (length bs)) (map possible_count bs)
      (λ m. sums_places (keep (λ j. not (eqb j (length bs))) (range 0 (length bs))) (below (λ j. not (eqb j (length bs)))) m
      ∙ ap (λ (js : List ℕ). sums_to (map possible_count (map (block_there bs) js)) m) (without_gone (length bs) (range 0 (length bs)) none)
      ∙ ap (λ (xs : List Block). sums_to (map possible_count xs) m) (read_all bs (record { cells = []; equations = [] }))) n
    where
      none : has (range 0 (length bs)) (length bs) ≡ false
      none = go (decided (has (range 0 (length bs)) (length bs)))
        where
          go : Decided (has (range 0 (length bs)) (length bs)) → has (range 0 (length bs)) (length bs) ≡ false
          go (inl e) = absurd (omega (arith, (range_in 0 (length bs) (length bs) e).1))
          go (inr e) = e
