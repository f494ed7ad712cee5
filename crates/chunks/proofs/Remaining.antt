-- What the loops that put blocks have still to put. The equations without cells from a place on; the parts that begin with a cell that is not done, from a
-- place on; and the blocks of a set before a place, split anew. Each law says what the next turn puts, or that there is nothing left. Assumes nothing.
use mathlib.Core.Path.{◌≡◌, refl, sym, ap, ◌∙◌}
use mathlib.Core.Bool.{Bool, true, false, not, cond, ◌&&◌, ◌||◌}
use mathlib.Core.List.Memᴰ
use mathlib.Core.List.{List, [], ◌∷◌, ◌++◌, map, Memᴰ}
use Prim.Native.Nat.{ℕ, zero, suc, ◌+◌, ◌-◌, ◌*◌, ◌≤◌, ◌<◌}
use native.Mathlib.Omega.{arith}
use lib.Dec.{eqb}
use lib.ListN.{length, get_or, take, drop, replicate, length-map}
use lib.Seq.{drop-cons}
use borrow.Author.Tests.{eq-eqb, ne_eqb}
use Rattle.lists.specs.Lists.{range, keep, empty, has}
use Rattle.lists.proofs.Members.{range_in, in_range}
use Rattle.lists.proofs.Counts.{length_keep, count_le}
use Rattle.lists.proofs.Elements.{replicate_all}
use Rattle.lists.proofs.Kept.{keep_all, keep_both}
use Rattle.lists.proofs.Rearranged.{length_range}
use Rattle.lists.proofs.Occurrences.{keep_agree, map_in}
use Rattle.lists.proofs.Unions.{has_mem, mem_has}
use Rattle.blocks.specs.Blocks.{BlockEquation, Block}
use Rattle.blocks.specs.BlockSets.{before, slot_cells}
use Rattle.chunks.specs.Chunks.{connected, parts, alone}
use Rattle.blocks.proofs.Between.{cells_more, cells_none, equation_of, equations_more, equations_none}
use Rattle.blocks.proofs.MarkLaws.{marks_has}
use Rattle.blocks.specs.Places.{marked, Marks, cells_from, equations_from, block_from}
use Rattle.blocks.specs.declared.Bounds.{Bounds}
use Rattle.chunks.specs.Splitting.{bare, marked_part, all_parts}
use Rattle.chunks.proofs.Parts.{around, own, others}
use Rattle.chunks.proofs.Shown.{shown_part}

-- ---- equations without cells

module _ (slots : List ℕ) (e : ℕ) (whole : length slots ≡ 8192) (h : e < 1024) where
  eight : slot_cells slots e ≡ before 65535 (get_or slots (e * 8) 0 ∷ take 7 (drop (suc (e * 8)) slots))
  unfolding slot_cells
  eight = ap (λ (l : List ℕ). before 65535 (take 8 l)) (drop-cons slots (e * 8) 0 (omega arith))

  pub slot_filler : get_or slots (e * 8) 0 ≡ 65535 → slot_cells slots e ≡ []
  slot_filler w = eight ∙ rw (eq-eqb (get_or slots (e * 8) 0) 65535 w)

  pub slot_cell : (get_or slots (e * 8) 0 ≡ 65535 → ⊥) → empty (slot_cells slots e) ≡ false
  slot_cell f = ap empty eight ∙ rw (ne_eqb (get_or slots (e * 8) 0) 65535 f)

module _ (slots rests : List ℕ) where
  -- those from a place on, each as a block of its own
  abbrev pub bare_from : ℕ → ℕ → List Block
  bare_from e end = map alone (keep (λ (x : BlockEquation). empty x.cells) (equations_from slots rests e end))

  module _ (e end : ℕ) where
    pub bare_more : e < end → slot_cells slots e ≡ [] → bare_from e end ≡ (alone (bare (get_or rests e 0)) ∷ []) ++ bare_from (e + 1) end
    bare_more h w =
        ap (λ (es : List BlockEquation). map alone (keep (λ (x : BlockEquation). empty x.cells) es)) (equations_more slots rests e end h)
        ∙ ap (λ (l : List ℕ). map alone (keep (λ (x : BlockEquation). empty x.cells) (record { cells = l; rest = get_or rests e 0 } ∷ equations_from slots rests (e + 1) end))) w

    pub bare_pass : e < end → empty (slot_cells slots e) ≡ false → bare_from e end ≡ bare_from (e + 1) end
    bare_pass h w =
        ap (λ (es : List BlockEquation). map alone (keep (λ (x : BlockEquation). empty x.cells) es)) (equations_more slots rests e end h)
        ∙ ap (λ (t : Bool). map alone (cond t (equation_of slots rests e ∷ keep (λ (x : BlockEquation). empty x.cells) (equations_from slots rests (e + 1) end))
        (keep (λ (x : BlockEquation). empty x.cells) (equations_from slots rests (e + 1) end)))) w

    pub bare_none : end ≤ e → bare_from e end ≡ []
    bare_none h = ap (λ (es : List BlockEquation). map alone (keep (λ (x : BlockEquation). empty x.cells) es)) (equations_none slots rests e end h)

-- ---- parts

module _ (b : Block) where
  -- so many turns as there are cells are enough
  parts_enough : (k j : ℕ) (l : List ℕ) → length l ≤ k → length l ≤ j → parts b k l ≡ parts b j l
  parts_enough zero zero l h u = refl
  parts_enough zero (suc j) [] h u = refl
  parts_enough zero (suc j) (c ∷ l) h u = absurd (omega arith)
  parts_enough (suc k) zero [] h u = refl
  parts_enough (suc k) zero (c ∷ l) h u = absurd (omega arith)
  parts_enough (suc k) (suc j) [] h u = refl
  parts_enough (suc k) (suc j) (c ∷ l) h u =
      let few : length (others b c l) ≤ length l = omega (arith, length_keep (λ d. not (has (around b c) d)) l, count_le (λ d. not (has (around b c) d)) l) in
      ap (λ (r : List Block). own b c ++ r) (parts_enough k j (others b c l) (omega arith) (omega arith))

  -- the parts of the cells of a list
  abbrev pub parts_of : List ℕ → List Block
  parts_of l = parts b (length l) l

  pub parts_next : (c : ℕ) (l : List ℕ) → parts_of (c ∷ l) ≡ own b c ++ parts_of (others b c l)
  parts_next c l =
      let few : length (others b c l) ≤ length l = omega (arith, length_keep (λ d. not (has (around b c) d)) l, count_le (λ d. not (has (around b c) d)) l) in
      ap (λ (r : List Block). own b c ++ r) (parts_enough (length l) (length (others b c l)) (others b c l) few (omega arith))

-- the cells from a place on that are not done
abbrev pub left_cells : List ℕ → List ℕ → ℕ → ℕ → List ℕ
left_cells done cells i end = keep (λ d. not (marked done d)) (cells_from cells i end)

-- at the start none is done
pub left_all : (n : ℕ) (cells : List ℕ) (first end : ℕ) → left_cells (replicate n 0) cells first end ≡ cells_from cells first end
left_all n cells first end =
    keep_all (λ d. not (marked (replicate n 0) d)) (cells_from cells first end)
    (λ d. ap (λ (x : ℕ). not (eqb x 1)) (replicate_all (λ i x. x ≡ 0) n 0 0 (λ i u. refl) (λ i u. refl) d))

-- a cell further on stands among the cells
cells_later : (cells : List ℕ) (first i end : ℕ) → first ≤ i → (d : ℕ) → has (cells_from cells i end) d ≡ true → has (cells_from cells first end) d ≡ true
unfolding cells_from
cells_later cells first i end h d t =
    let (k, m, w) = map_in (λ (x : ℕ). get_or cells x 0) (range i (end - i)) (has_mem (map (λ (x : ℕ). get_or cells x 0) (range i (end - i))) d t) in
    let (l, u) = range_in i (end - i) k (mem_has (range i (end - i)) m) in
    rw w (mem_has (map (λ (x : ℕ). get_or cells x 0) (range first (end - first)))
    (Memᴰ.map (λ (x : ℕ). get_or cells x 0) (has_mem (range first (end - first)) k (in_range first (end - first) k (omega arith) (omega arith)))))

module _ (done cells : List ℕ) (i end c : ℕ) (h : i < end) (at : c ≡ get_or cells i 0) where
  more : cells_from cells i end ≡ c ∷ cells_from cells (i + 1) end
  more = cells_more cells i end h ∙ ap (λ (x : ℕ). x ∷ cells_from cells (i + 1) end) (sym at)

  pub left_done : marked done c ≡ true → left_cells done cells i end ≡ left_cells done cells (i + 1) end
  left_done m = ap (keep (λ d. not (marked done d))) more ∙ rw m

  pub left_next : marked done c ≡ false → left_cells done cells i end ≡ c ∷ left_cells done cells (i + 1) end
  left_next m = ap (keep (λ d. not (marked done d))) more ∙ rw m

  -- once the cells around the cell are done, the others are left
  pub left_others : (b : Block) (marks after : List ℕ) (first : ℕ) → first ≤ i → Marks marks (around b c)
      → ((d : ℕ) → marked after d ≡ (marked done d || (marked marks d && has (cells_from cells first end) d)))
      → others b c (left_cells done cells (i + 1) end) ≡ left_cells after cells (i + 1) end
  left_others b marks after first k m w =
      keep_both (λ d. not (has (around b c) d)) (λ d. not (marked done d)) (cells_from cells (i + 1) end)
      ∙ keep_agree (λ d. not (marked done d) && not (has (around b c) d)) (λ d. not (marked after d)) (cells_from cells (i + 1) end) agree
    where
      both : (x y : Bool) → (not x && not y) ≡ not (x || (y && true))
      both true y = refl
      both false true = refl
      both false false = refl

      agree : (d : ℕ) → Memᴰ d (cells_from cells (i + 1) end) → (not (marked done d) && not (has (around b c) d)) ≡ not (marked after d)
      agree d p =
          let there : has (cells_from cells first end) d ≡ true = cells_later cells first (i + 1) end (omega arith) d (mem_has (cells_from cells (i + 1) end) p) in
          both (marked done d) (has (around b c) d)
          ∙ ap not (ap (λ (t : Bool). marked done d || (t && true)) (sym (marks_has m d)) ∙ ap (λ (t : Bool). marked done d || (marked marks d && t)) (sym there) ∙ sym (w d))

-- ---- the parts of a block in the arrays

module _ (cells slots rests : List ℕ) (bounds : Bounds) where
  around_from : (c : ℕ)
      → connected (equations_from slots rests bounds.first_equation bounds.end_equation) (bounds.end_equation - bounds.first_equation) (c ∷ [])
      ≡ around (block_from cells slots rests bounds) c
  unfolding block_from equations_from
  around_from c =
      let places = range bounds.first_equation (bounds.end_equation - bounds.first_equation) in
      ap (λ (n : ℕ). connected (map (equation_of slots rests) places) n (c ∷ []))
      (sym (length-map places (equation_of slots rests) ∙ length_range bounds.first_equation (bounds.end_equation - bounds.first_equation)))

  -- the parts still to put, from place i on
  abbrev pub parts_left : List ℕ → ℕ → List Block
  parts_left done i = parts_of (block_from cells slots rests bounds) (left_cells done cells i bounds.end_cell)

  pub parts_start : (n : ℕ) → all_parts (block_from cells slots rests bounds) ≡ parts_left (replicate n 0) bounds.first_cell
  unfolding all_parts block_from
  parts_start n =
      ap (λ (l : List ℕ). parts (block_from cells slots rests bounds) (length l) l) (sym (left_all n cells bounds.first_cell bounds.end_cell))

  pub parts_done : (done : List ℕ) (i : ℕ) → bounds.end_cell ≤ i → parts_left done i ≡ []
  parts_done done i h =
      ap (λ (l : List ℕ). parts_of (block_from cells slots rests bounds) (keep (λ d. not (marked done d)) l)) (cells_none cells i bounds.end_cell h)

  module _ (done : List ℕ) (i c : ℕ) (h : i < bounds.end_cell) (at : c ≡ get_or cells i 0) where
    pub parts_pass : marked done c ≡ true → parts_left done i ≡ parts_left done (i + 1)
    parts_pass m = ap (parts_of (block_from cells slots rests bounds)) (left_done done cells i bounds.end_cell c h at m)

    module _ (undone : marked done c ≡ false) (marks : List ℕ)
        (m : Marks marks (connected (equations_from slots rests bounds.first_equation bounds.end_equation) (bounds.end_equation - bounds.first_equation) (c ∷ []))) where
      around_marks : Marks marks (around (block_from cells slots rests bounds) c)
      around_marks = rw (around_from c) at m

      -- the part that the marks show comes first
      pub parts_first : parts_left done i
          ≡ marked_part marks cells slots rests bounds
          ++ parts_of (block_from cells slots rests bounds) (others (block_from cells slots rests bounds) c (left_cells done cells (i + 1) bounds.end_cell))
      parts_first =
          let b = block_from cells slots rests bounds in
          let l = left_cells done cells (i + 1) bounds.end_cell in
          ap (parts_of b) (left_next done cells i bounds.end_cell c h at undone)
          ∙ parts_next b c l
          ∙ ap (λ (q : List Block). q ++ parts_of b (others b c l)) (sym (shown_part marks (around b c) cells slots rests bounds around_marks))

      -- and then those of the cells that are not done then
      pub parts_others : (after : List ℕ) → bounds.first_cell ≤ i
          → ((d : ℕ) → marked after d ≡ (marked done d || (marked marks d && has (cells_from cells bounds.first_cell bounds.end_cell) d)))
          → parts_left done i ≡ marked_part marks cells slots rests bounds ++ parts_left after (i + 1)
      parts_others after k w =
          let b = block_from cells slots rests bounds in
          parts_first
          ∙ ap (λ (l : List ℕ). marked_part marks cells slots rests bounds ++ parts_of b l) (left_others done cells i bounds.end_cell c h at b marks after bounds.first_cell k around_marks w)
