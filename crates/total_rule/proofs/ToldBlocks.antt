-- The cells of blocks told, block after block: what is told of a block's cells by their groups is so of them; blocks share no cell, so telling one leaves the others as
-- they were; and the possible counts of the blocks stand one after another. Assumes nothing.
use mathlib.Core.Path.{◌≡◌, refl, sym, ap, ◌∙◌}
use mathlib.Core.Logic.{inl, inr}
use mathlib.Core.Bool.{Bool, true, false, cond, ◌&&◌}
use mathlib.Core.List.{List, [], ◌∷◌, ◌++◌, map}
use Prim.Native.Nat.{ℕ, zero, suc, ◌+◌, ◌-◌, ◌≤◌, ◌<◌}
use native.Mathlib.Omega.{arith}
use native.Mathlib.Nat.{zero-add, not-suc-le-zero, le_of_suc-le-suc}
use native.Mathlib.Decide.{dec_lt, dec_le}
use lib.Dec.{ltb, eqb}
use lib.ListN.{length, get_or, length-map, get_or-eq_default}
use borrow.Author.Tests.{eqb-true, eqb-false, lt-ltb, le-ltb, le-leb, lt-leb}
use Rattle.lists.specs.Lists.{range, bit, has, nodup}
use Rattle.lists.proofs.Tests.{Decided, decided, clash}
use Rattle.lists.proofs.Unions.{has_joined_map, mem_at}
use Rattle.lists.proofs.Occurrences.{in_any}
use Rattle.lists.proofs.Among.{among_nodup, among_right}
use Rattle.lists.proofs.TurnedRound.{nodup_apart}
use Rattle.lists.proofs.ReadBack.{range_made}
use Rattle.lists.proofs.Rearranged.{length_range}
use Rattle.blocks.specs.Blocks.{Block}
use Rattle.blocks.specs.BlockSets.{all_cells, begin_at}
use Rattle.blocks.specs.Places.{block_from, cells_from}
use Rattle.blocks.specs.declared.Bounds.{Bounds}
use Rattle.groups.specs.Groups.{firsts, group_of_cell}
use Rattle.groups.specs.Grouping.{Combinable, grouped}
use Rattle.groups.specs.declared.Grouped.{Grouped}
use Rattle.groups.proofs.GroupLaws.{firsts_few, group_of_below}
use Rattle.enumeration.proofs.ListedBlock.{group_read}
use Rattle.totals.specs.Totals.{possible_count}
use Rattle.totals.specs.Joining.{counts_at, EndsInOrder}
use Rattle.total_rule.specs.Cells.{Copied, Told}
use Rattle.total_rule.specs.Blocks.{block_there, ToldBlock, CountsHeld, CellsTold}

-- ---- one block

-- a group in the array is one of its places
pub groups_in_array : (b : Block) → Combinable b → (c : ℕ) → get_or (grouped b).group_of c 0 < 1024
unfolding grouped
groups_in_array b combinable c = go (dec_lt c 1024)
  where
    few : length (firsts b) ≤ 1024
    few = omega (arith, firsts_few b, combinable.few_cells)

    small : Decided (has b.cells c) → cond (has b.cells c) (group_of_cell b c) 0 < 1024
    small (inl e) = rw e (omega (arith, few, group_of_below b c e))
    small (inr e) = rw e (omega arith)

    go : Dec (c < 1024) → get_or (map (λ (d : ℕ). cond (has b.cells d) (group_of_cell b d) 0) (range 0 1024)) c 0 < 1024
    go (yes l) = rw (range_made (λ (d : ℕ). cond (has b.cells d) (group_of_cell b d) 0) 0 1024 c 0 l, zero-add c) (small (decided (has b.cells c)))
    go (no l) =
        let off : get_or (map (λ (d : ℕ). cond (has b.cells d) (group_of_cell b d) 0) (range 0 1024)) c 0 ≡ 0 =
        get_or-eq_default (map (λ (d : ℕ). cond (has b.cells d) (group_of_cell b d) 0) (range 0 1024)) 0 {n = c} (omega (arith, length-map (range 0 1024) (λ (d : ℕ). cond (has b.cells d) (group_of_cell b d) 0), length_range 0 1024)) in
        omega (arith, off)

-- cells told by their groups, which are told by a test
pub told_block : (cells slots rests : List ℕ) (bounds : Bounds) → Combinable (block_from cells slots rests bounds) → (r : Grouped) → r ≡ grouped (block_from cells slots rests bounds)
    → (by_group : List ℕ) (test : ℕ → Bool) → ((g : ℕ) → g < length (firsts (block_from cells slots rests bounds)) → get_or by_group g 0 ≡ bit (test g))
    → {before after : List ℕ} → Told (cells_from cells bounds.first_cell bounds.end_cell) (λ c. get_or by_group (get_or r.group_of c 0) 0) before after
    → ToldBlock (block_from cells slots rests bounds) test before after
unfolding block_from
told_block cells slots rests bounds combinable r is by_group test tells {before} {after} t = record { whole = t.whole; at_cell = λ c. t.at_cell c ∙ go c (decided (has b.cells c)) }
  where
    b : Block
    b = block_from cells slots rests bounds

    go : (c : ℕ) → Decided (has b.cells c)
        → cond (has b.cells c) (get_or by_group (get_or r.group_of c 0) 0) (get_or before c 0) ≡ cond (has b.cells c) (bit (test (group_of_cell b c))) (get_or before c 0)
    go c (inl e) =
        rw e
        (ap (λ (q : Grouped). get_or by_group (get_or q.group_of c 0) 0) is ∙ ap (λ (g : ℕ). get_or by_group g 0) (group_read b combinable c e) ∙ tells (group_of_cell b c) (group_of_below b c e))
    go c (inr e) = rw e

-- ---- block after block

pub cells_told_none : (bs : List Block) (test : ℕ → ℕ → Bool) (before : List ℕ) → CellsTold bs 0 test before before
cells_told_none bs test before = record { whole = refl; of_block = λ j h. absurd (omega arith); of_none = λ c h. refl }

-- with a test that says the same
pub cells_told_same : {bs : List Block} {k : ℕ} {test : ℕ → ℕ → Bool} {before after : List ℕ} → CellsTold bs k test before after
    → (other : ℕ → ℕ → Bool) → ((j g : ℕ) → j < k → other j g ≡ test j g) → CellsTold bs k other before after
cells_told_same t other h = record {
  whole = t.whole;
  of_block = λ j l c m. t.of_block j l c m ∙ ap bit (sym (h j _ l));
  of_none = t.of_none;
}

-- a cell of a block is one of the cells of all
pub there_all : (bs : List Block) (j : ℕ) → j < length bs → (c : ℕ) → has (block_there bs j).cells c ≡ true → has (all_cells bs) c ≡ true
there_all bs j l c h =
    has_joined_map (λ (b : Block). b.cells) bs c
    ∙ in_any (λ (b : Block). has b.cells c) bs (mem_at bs j (record { cells = []; equations = [] }) l) h

-- and a cell of no other
pub there_only : (bs : List Block) → nodup (all_cells bs) ≡ true → (i j : ℕ) → i < length bs → j < length bs
    → (c : ℕ) → has (block_there bs i).cells c ≡ true → has (block_there bs j).cells c ≡ true → i ≡ j
there_only [] once i j k l c h m = absurd (not-suc-le-zero k)
there_only (b ∷ bs) once zero zero k l c h m = refl
there_only (b ∷ bs) once zero (suc j) k l c h m =
    clash (has (all_cells bs) c) (there_all bs j (le_of_suc-le-suc l) c m) (nodup_apart b.cells (all_cells bs) once c h)
there_only (b ∷ bs) once (suc i) zero k l c h m =
    clash (has (all_cells bs) c) (there_all bs i (le_of_suc-le-suc k) c h) (nodup_apart b.cells (all_cells bs) once c m)
there_only (b ∷ bs) once (suc i) (suc j) k l c h m =
    ap suc (there_only bs (among_nodup (all_cells bs) (b.cells ++ all_cells bs) (among_right b.cells (all_cells bs)) once) i j (le_of_suc-le-suc k) (le_of_suc-le-suc l) c h m)

module _ (bs : List Block) (once : nodup (all_cells bs) ≡ true) where
  pub cells_told_next : {k : ℕ} {test : ℕ → ℕ → Bool} {before between after : List ℕ} → CellsTold bs k test before between
      → (i : ℕ) → i < length bs → (h : ℕ → Bool) → ToldBlock (block_there bs i) h between after
      → (more : ℕ) → more ≤ length bs → ((j : ℕ) → j < more → eqb j i ≡ false → j < k)
      → (other : ℕ → ℕ → Bool) → ((g : ℕ) → other i g ≡ h g) → ((j g : ℕ) → eqb j i ≡ false → other j g ≡ test j g) → CellsTold bs more other before after
  cells_told_next {k} {test} {before} {between} {after} t i within h told more few fewer other here there = record {
    whole = told.whole ∙ t.whole;
    of_block = λ j l c m. block j l c m (decided (eqb j i));
    of_none = λ c m. told.at_cell c ∙ none c m (decided (has (block_there bs i).cells c));
  }
    where
      block : (j : ℕ) → j < more → (c : ℕ) → has (block_there bs j).cells c ≡ true → Decided (eqb j i) → get_or after c 0 ≡ bit (other j (group_of_cell (block_there bs j) c))
      block j l c m (inl e) =
          let is : j ≡ i = eqb-true j i e in
          let own : has (block_there bs i).cells c ≡ true = rw is at m in
          rw is (told.at_cell c ∙ rw own (ap bit (sym (here (group_of_cell (block_there bs i) c)))))
      block j l c m (inr e) = told.at_cell c ∙ away (decided (has (block_there bs i).cells c)) ∙ t.of_block j (fewer j l e) c m ∙ ap bit (sym (there j _ e))
        where
          away : Decided (has (block_there bs i).cells c) → cond (has (block_there bs i).cells c) (bit (h (group_of_cell (block_there bs i) c))) (get_or between c 0) ≡ get_or between c 0
          away (inl w) = absurd (eqb-false j i e (there_only bs once j i (omega (arith, l, few)) within c m w))
          away (inr w) = rw w

      none : (c : ℕ) → has (all_cells bs) c ≡ false → Decided (has (block_there bs i).cells c)
          → cond (has (block_there bs i).cells c) (bit (h (group_of_cell (block_there bs i) c))) (get_or between c 0) ≡ get_or before c 0
      none c m (inl w) = clash (has (all_cells bs) c) (there_all bs i within c w) m
      none c m (inr w) = rw w (t.of_none c m)

-- ---- the counts of the blocks

-- the ends of blocks rise
pub ends_rise : (ends : List ℕ) (blocks : ℕ) → EndsInOrder ends blocks → (i j : ℕ) → j < i → i < blocks → get_or ends j 0 ≤ begin_at ends i
ends_rise ends blocks e zero j h l = absurd (omega arith)
ends_rise ends blocks e (suc i) j h l = go (decided (eqb j i)) (λ w. ends_rise ends blocks e i j w (omega arith))
  where
    go : Decided (eqb j i) → (j < i → get_or ends j 0 ≤ begin_at ends i) → get_or ends j 0 ≤ get_or ends i 0
    go (inl w) ih = rw (eqb-true j i w) (omega arith)
    go (inr w) ih = omega (arith, ih (omega (arith, eqb-false j i w)), (e.rising i (omega arith)).0)

pub counts_held_none : (bs : List Block) (ends counts : List ℕ) → length counts ≡ 2048 → CountsHeld bs ends counts 0
counts_held_none bs ends counts l = record { whole = l; at_block = λ j h. absurd (omega arith) }

pub counts_held_next : {bs : List Block} {ends counts after : List ℕ} {i blocks : ℕ} → CountsHeld bs ends counts i → EndsInOrder ends blocks → i < blocks
    → (reached : List ℕ) → Copied reached (get_or ends i 0 - begin_at ends i + 1) (begin_at ends i + i) counts after
    → ((t : ℕ) → t ≤ get_or ends i 0 - begin_at ends i → eqb (get_or reached t 0) 1 ≡ possible_count (block_there bs i) t)
    → ((t : ℕ) → possible_count (block_there bs i) t ≡ true → t ≤ get_or ends i 0 - begin_at ends i) → CountsHeld bs ends after (i + 1)
counts_held_next {bs} {ends} {counts} {after} {i} {blocks} held e l reached copied is most = record { whole = copied.whole ∙ held.whole; at_block = λ j h t. go j h t (decided (eqb j i)) }
  where
    rise : (begin_at ends i ≤ get_or ends i 0) × (get_or ends i 0 ≤ 1024)
    rise = e.rising i l

    -- the block's own places
    own : (t : ℕ) → Dec (t ≤ get_or ends i 0 - begin_at ends i) → counts_at after ends i t ≡ possible_count (block_there bs i) t
    own t (yes h) =
        let place : begin_at ends i + i + t - (begin_at ends i + i) ≡ t = omega arith in
        let read : get_or after (begin_at ends i + i + t) 0 ≡ get_or reached t 0 =
        copied.at_place (begin_at ends i + i + t)
        ∙ rw (le-leb (begin_at ends i + i) (begin_at ends i + i + t) (omega arith), lt-ltb (begin_at ends i + i + t) (begin_at ends i + i + (get_or ends i 0 - begin_at ends i + 1)) (omega arith), place) in
        rw (lt-ltb (begin_at ends i + i + t) (get_or ends i 0 + i + 1) (omega (arith, h, rise.0)), read) (is t h)
    own t (no h) =
        rw (le-ltb (begin_at ends i + i + t) (get_or ends i 0 + i + 1) (omega (arith, rise.0))) (none (decided (possible_count (block_there bs i) t)))
      where
        none : Decided (possible_count (block_there bs i) t) → false ≡ possible_count (block_there bs i) t
        none (inl w) = absurd (omega (arith, most t w))
        none (inr w) = sym w

    -- the places of a block before it
    before : (j : ℕ) → j < i → (t : ℕ) → Dec (begin_at ends j + j + t < get_or ends j 0 + j + 1) → counts_at after ends j t ≡ counts_at counts ends j t
    before j h t (yes w) =
        let far : begin_at ends j + j + t < begin_at ends i + i = omega (arith, ends_rise ends blocks e i j h l) in
        let kept : get_or after (begin_at ends j + j + t) 0 ≡ get_or counts (begin_at ends j + j + t) 0 = copied.at_place (begin_at ends j + j + t) ∙ rw (lt-leb (begin_at ends i + i) (begin_at ends j + j + t) far) in
        ap (λ (n : ℕ). ltb (begin_at ends j + j + t) (get_or ends j 0 + j + 1) && eqb n 1) kept
    before j h t (no w) = rw (le-ltb (begin_at ends j + j + t) (get_or ends j 0 + j + 1) (omega arith))

    go : (j : ℕ) → j < i + 1 → (t : ℕ) → Decided (eqb j i) → counts_at after ends j t ≡ possible_count (block_there bs j) t
    go j h t (inl w) = rw (eqb-true j i w) (own t (dec_le t (get_or ends i 0 - begin_at ends i)))
    go j h t (inr w) =
        let less : j < i = omega (arith, h, eqb-false j i w) in
        before j less t (dec_lt (begin_at ends j + j + t) (get_or ends j 0 + j + 1)) ∙ held.at_block j less t
