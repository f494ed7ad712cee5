-- Columns of cells in eight slots for each cell: the place of an equation put behind the columns of its cells, one cell after another; and the columns in the
-- equations passed so far, with those of one equation more. As a cell stands in an equation once, its place is put behind its column once. Rests on the laws
-- of slots. Assumes nothing.
use mathlib.Core.Path.{◌≡◌, refl, sym, ap, ◌∙◌}
use mathlib.Core.Logic.{inl, inr, ◌≢◌}
use mathlib.Core.Bool.{Bool, true, false, cond}
use mathlib.Core.List.{List, [], ◌∷◌, ◌++◌}
use Prim.Native.Nat.{ℕ, ◌+◌, ◌*◌, ◌≤◌, ◌<◌}
use native.Mathlib.Numerals.{add-one}
use native.Mathlib.Omega.{arith}
use lib.Dec.{ltb, eqb}
use lib.ListN.{length, get_or, take, replicate, length-append, length-replicate}
use lib.Seq.{sets, take-suc, length-sets}
use borrow.Author.Tests.{ltb-true, lt-ltb, eqb-true, eqb-false}
use Rattle.lists.specs.Lists.{range, all, has, nodup, pad}
use Rattle.lists.proofs.Tests.{Decided, decided}
use Rattle.lists.proofs.All.{all_at, all_push, has_all, all_has}
use Rattle.lists.proofs.Members.{kept_has, range_in}
use Rattle.lists.proofs.Kept.{keep_range_push, keep_range_pass}
use Rattle.lists.proofs.Unions.{last_own, last_other}
use Rattle.lists.proofs.PlacesAndRanges.{nodup_before, keep_range_within}
use Rattle.blocks.specs.BlockSets.{slot_cells}
use Rattle.blocks.specs.Places.{Slots}
use Rattle.blocks.proofs.SlotLaws.{slots_filled, put_there, put_elsewhere}
use Rattle.groups.specs.Combining.{ColumnsAre, column_in, column_with}

-- ---- the place of an equation put behind the columns of its cells

-- what is asked of the columns, of the equation's cells and of its place
pub record Pushable (columns cells : List ℕ) (place : ℕ) : Type 0 where
  pub slots : Slots columns 1024
  pub below : all (λ c. ltb c 1024) cells ≡ true
  pub once : nodup cells ≡ true
  pub small : place < 1024
  pub room : all (λ c. ltb (length (slot_cells columns c)) 8) cells ≡ true

pub push_none : {columns cells : List ℕ} {place : ℕ} → Pushable columns cells place → ColumnsAre columns (column_with columns (take 0 cells) place)
push_none p = record { whole = p.slots.whole; at = λ c u. refl }

-- the first k cells have the place behind their columns, and x is the next
module _ {before cells : List ℕ} {place : ℕ} (p : Pushable before cells place) {columns : List ℕ} {k x : ℕ} (inside : k < length cells) (at : x ≡ get_or cells k 0)
    (so_far : ColumnsAre columns (column_with before (take k cells) place)) where
  pub push_on_board : x < 1024
  push_on_board = rw at (ltb-true (get_or cells k 0) 1024 (all_at (λ c. ltb c 1024) cells k 0 p.below inside))

  -- its column is as it was
  own : slot_cells columns x ≡ slot_cells before x
  own = let fresh : has (take k cells) x ≡ false = rw at (nodup_before cells k p.once inside) in so_far.at x push_on_board ∙ rw fresh

  pub push_room : length (slot_cells columns x) < 8
  push_room = rw (own, at) (ltb-true (length (slot_cells before (get_or cells k 0))) 8 (all_at (λ c. ltb (length (slot_cells before c)) 8) cells k 0 p.room inside))

  longer : length (slot_cells columns x ++ (place ∷ [])) ≤ 8
  longer = omega (arith, length-append (slot_cells columns x) (place ∷ []), push_room)

  pub push_next : (after : List ℕ) → after ≡ sets columns (x * 8) (pad 8 65535 (slot_cells columns x ++ (place ∷ [])))
      → ColumnsAre after (column_with before (take (k + 1) cells) place)
  push_next after is =
      record { whole = ap length is ∙ length-sets columns (x * 8) (pad 8 65535 (slot_cells columns x ++ (place ∷ []))) ∙ so_far.whole; at = λ c u. go c u (decided (eqb c x)) }
    where
      new : List ℕ
      new = slot_cells columns x ++ (place ∷ [])

      passed : take (k + 1) cells ≡ take k cells ++ (x ∷ [])
      passed = rw (add-one k, at) (take-suc cells k 0 inside)

      go : (c : ℕ) → c < 1024 → Decided (eqb c x) → slot_cells after c ≡ column_with before (take (k + 1) cells) place c
      go c u (inl e) =
          let w : c ≡ x = eqb-true c x e in
          let numbers : all (λ d. ltb d 1024) new ≡ true =
          all_push (λ d. ltb d 1024) (slot_cells columns x) place (rw own (p.slots.below x push_on_board)) (lt-ltb place 1024 p.small) in
          rw (passed, w, last_own (take k cells) x, is) (put_there columns new x so_far.whole push_on_board longer numbers ∙ rw own)
      go c u (inr e) =
          let other : c ≢ x = eqb-false c x e in
          rw (passed, last_other (take k cells) x c other, is) (put_elsewhere columns new x so_far.whole push_on_board longer c other ∙ so_far.at c u)

-- ---- the columns in the equations that begin at a place

module _ (slots : List ℕ) (first : ℕ) where
  -- before the first equation they are empty
  pub columns_none : ColumnsAre (replicate 8192 65535) (column_in slots first 0)
  columns_none = record { whole = length-replicate {A = ℕ} 8192 65535; at = λ c u. slots_filled 8192 c }

  -- they have places of equations
  column_below : (k c : ℕ) → k ≤ 1024 → all (λ i. ltb i 1024) (column_in slots first k c) ≡ true
  column_below k c h =
      has_all (λ i. ltb i 1024) (column_in slots first k c)
      (λ i e. lt-ltb i 1024 (omega (arith, range_in 0 k i (kept_has (λ (j : ℕ). has (slot_cells slots (first + j)) c) (range 0 k) i e))))

  -- k equations are passed
  module _ (k : ℕ) {columns : List ℕ} (so_far : ColumnsAre columns (column_in slots first k)) where
    pub columns_slots : k ≤ 1024 → Slots columns 1024
    columns_slots h = record { whole = so_far.whole; few = omega arith; below = λ c u. rw (so_far.at c u) (column_below k c h) }

    -- the cells of the next equation have a shorter column than with it
    pub columns_room : (m : ℕ) → k < m → ((c : ℕ) → length (column_in slots first m c) ≤ 8) → all (λ c. ltb c 1024) (slot_cells slots (first + k)) ≡ true
        → all (λ c. ltb (length (slot_cells columns c)) 8) (slot_cells slots (first + k)) ≡ true
    columns_room m h few on = has_all (λ c. ltb (length (slot_cells columns c)) 8) (slot_cells slots (first + k)) room
      where
        room : (c : ℕ) → has (slot_cells slots (first + k)) c ≡ true → ltb (length (slot_cells columns c)) 8 ≡ true
        room c e =
            let f : ℕ → Bool = λ i. has (slot_cells slots (first + i)) c in
            let u : c < 1024 = ltb-true c 1024 (all_has (λ d. ltb d 1024) (slot_cells slots (first + k)) on c e) in
            rw (so_far.at c u)
            (lt-ltb (length (column_in slots first k c)) 8
            (omega (
              arith,
              few c,
              keep_range_within f (k + 1) m (omega arith),
              ap length (keep_range_push f k e),
              length-append (column_in slots first k c) (k ∷ []),
            )))

    -- with the next equation
    pub columns_next : (after : List ℕ) → ColumnsAre after (column_with columns (slot_cells slots (first + k)) k) → ColumnsAre after (column_in slots first (k + 1))
    columns_next after is = record { whole = is.whole; at = λ c u. is.at c u ∙ rw (so_far.at c u) (go c (decided (has (slot_cells slots (first + k)) c))) }
      where
        go : (c : ℕ) → Decided (has (slot_cells slots (first + k)) c)
            → cond (has (slot_cells slots (first + k)) c) (column_in slots first k c ++ (k ∷ [])) (column_in slots first k c) ≡ column_in slots first (k + 1) c
        go c (inl e) = rw e (sym (keep_range_push (λ (i : ℕ). has (slot_cells slots (first + i)) c) k e))
        go c (inr e) = rw e (sym (keep_range_pass (λ (i : ℕ). has (slot_cells slots (first + i)) c) k e))
