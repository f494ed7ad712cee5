-- The part of a block that the marks show. Where the marks are those of a list of cells it is the part of the block that has these cells, and it goes
-- behind the blocks of a set, unless it has no equation. Rests on `put_behind`. Assumes nothing.
use mathlib.Core.Path.{◌≡◌, refl, ap, ◌∙◌}
use mathlib.Core.Logic.{inl, inr}
use mathlib.Core.Bool.{true, false, cond}
use mathlib.Core.List.{List, [], ◌∷◌, ◌++◌, map, map-map, append-nil, reverse}
use Prim.Native.Nat.{ℕ, ◌+◌, ◌-◌, ◌*◌, ◌≤◌}
use native.Mathlib.Omega.{arith}
use lib.ListN.{length, get_or, set, length-map}
use lib.Seq.{sets}
use Rattle.lists.specs.Lists.{range, keep, any, empty, joined, has, meets, pad}
use Rattle.lists.proofs.Tests.{Decided, decided}
use Rattle.lists.proofs.Occurrences.{empty_nil, keep_agree}
use Rattle.lists.proofs.Backwards.{reverse_map}
use Rattle.lists.proofs.Kept.{keep_map}
use Rattle.blocks.specs.Blocks.{BlockEquation, Block}
use Rattle.blocks.specs.BlockSets.{all_cells, all_equations, slots_of, slot_cells, block_set, begin_at, blocks_of}
use Rattle.blocks.specs.declared.BlockSet.{BlockSet}
use Rattle.chunks.specs.Chunks.{part}
use Rattle.blocks.proofs.Behind.{cells_held, equations_held, put_behind, room_cells, room_equations}
use Rattle.blocks.proofs.Between.{equation_of}
use Rattle.blocks.proofs.MarkLaws.{marks_has, marks_meets}
use Rattle.blocks.specs.Places.{marked, Marks, Room, cells_from, equations_from, block_from}
use Rattle.blocks.specs.declared.Bounds.{Bounds}
use Rattle.chunks.specs.Splitting.{marked_cells, marked_places, marked_part}
use Rattle.chunks.proofs.Parts.{turned}

module _ (marks cells slots rests : List ℕ) (bounds : Bounds) where
  -- the marked cells, and the places of the equations that have one
  abbrev pub shown_cells : List ℕ
  shown_cells = marked_cells marks cells bounds.first_cell bounds.end_cell

  abbrev pub shown_places : List ℕ
  shown_places = marked_places marks slots bounds.first_equation bounds.end_equation

  abbrev pub shown_equation : ℕ → BlockEquation
  shown_equation e = record { cells = reverse (slot_cells slots e); rest = get_or rests e 0 }

  abbrev pub shown_block : Block
  shown_block = record { cells = shown_cells; equations = map shown_equation shown_places }

  shown_none : empty shown_places ≡ true → marked_part marks cells slots rests bounds ≡ []
  unfolding marked_part
  shown_none t = rw t

  shown_some : empty shown_places ≡ false → marked_part marks cells slots rests bounds ≡ shown_block ∷ []
  unfolding marked_part
  shown_some t = rw t

  -- ---- behind the blocks of a set

  -- e is where the next equation goes
  module _ (out : BlockSet) (room : Room out (marked_part marks cells slots rests bounds)) (e : ℕ) (at : e ≡ begin_at out.equation_ends out.blocks) where
    here : e ≡ length (all_equations (blocks_of out))
    here = at ∙ equations_held out room.held

    pub shown_fits : e + length shown_places ≤ 1024
    shown_fits = go (decided (empty shown_places))
      where
        go : Decided (empty shown_places) → e + length shown_places ≤ 1024
        go (inl t) = omega (arith, here, room.held.fits.few_equations, ap length (empty_nil shown_places t))
        go (inr t) = omega (arith, here, room_equations out shown_block (rw (shown_some t) at room), length-map shown_places shown_equation)

    -- the equations that have a marked cell are stored, and `next` is behind them
    module _ (next : ℕ) (behind : next ≡ e + length shown_places) (stored : List ℕ)
        (is : stored ≡ sets out.slots (e * 8) (joined (map (λ (x : ℕ). pad 8 65535 (reverse (slot_cells slots x))) shown_places))) where
      -- there is none
      pub shown_nothing : next ≡ e → (kept : List ℕ) → kept ≡ sets out.rests e (map (λ (x : ℕ). get_or rests x 0) shown_places)
          → record { cells = out.cells; cell_ends = out.cell_ends; slots = stored; rests = kept; equation_ends = out.equation_ends; blocks = out.blocks }
          ≡ block_set (blocks_of out ++ marked_part marks cells slots rests bounds)
      shown_nothing h kept b =
          let none : shown_places ≡ [] = nothing shown_places (omega arith) in
          let same : stored ≡ out.slots = is ∙ ap (λ (l : List ℕ). sets out.slots (e * 8) (joined (map (λ (x : ℕ). pad 8 65535 (reverse (slot_cells slots x))) l))) none in
          let still : kept ≡ out.rests = b ∙ ap (λ (l : List ℕ). sets out.rests e (map (λ (x : ℕ). get_or rests x 0) l)) none in
          rw (same, still, shown_none (ap empty none), append-nil (blocks_of out)) room.held.is
        where
          nothing : (l : List ℕ) → length l ≡ 0 → l ≡ []
          nothing [] w = refl
          nothing (x ∷ l) w = absurd (omega arith)

      -- there is one
      module _ (more : next ≡ e → ⊥) where
        pub shown_room : Room out (shown_block ∷ [])
        shown_room = rw (shown_some (go shown_places (λ w. more (omega arith)))) at room
          where
            go : (l : List ℕ) → (length l ≡ 0 → ⊥) → empty l ≡ false
            go [] f = absurd (f refl)
            go (x ∷ l) f = refl

        -- k is where the next cell goes
        module _ (k : ℕ) (begin : k ≡ begin_at out.cell_ends out.blocks) where
          cell : k ≡ length (all_cells (blocks_of out))
          cell = begin ∙ cells_held out room.held

          pub shown_cells_fit : k + length shown_cells ≤ 1024
          shown_cells_fit = omega (arith, cell, room_cells out shown_block shown_room)

          pub shown_put : (last : ℕ) → last ≡ k + length shown_cells → (put : List ℕ) → put ≡ sets out.cells k shown_cells
              → (kept : List ℕ) → kept ≡ sets out.rests e (map (λ (x : ℕ). get_or rests x 0) shown_places)
              → record {
                cells = put;
                cell_ends = set out.cell_ends out.blocks last;
                slots = stored;
                rests = kept;
                equation_ends = set out.equation_ends out.blocks next;
                blocks = out.blocks + 1;
              }
              ≡ block_set (blocks_of out ++ marked_part marks cells slots rests bounds)
          shown_put last w put a kept b =
              rw (a, b, w, is, behind, here, cell, whole)
              (rw (map-map slots_of shown_equation shown_places, map-map (λ (x : BlockEquation). x.rest) shown_equation shown_places, length-map shown_places shown_equation)
              at (put_behind out shown_block shown_room))
            where
              whole : marked_part marks cells slots rests bounds ≡ shown_block ∷ []
              whole = go (decided (empty shown_places))
                where
                  go : Decided (empty shown_places) → marked_part marks cells slots rests bounds ≡ shown_block ∷ []
                  go (inl t) = absurd (more (omega (arith, behind, ap length (empty_nil shown_places t))))
                  go (inr t) = shown_some t

-- ---- the part that has the cells of a list

module _ (marks list cells slots rests : List ℕ) (bounds : Bounds) (m : Marks marks list) where
  pub shown_part : marked_part marks cells slots rests bounds
      ≡ cond (empty (part (block_from cells slots rests bounds) list).equations) [] (part (block_from cells slots rests bounds) list ∷ [])
  unfolding marked_part marked_cells marked_places block_from equations_from
  shown_part =
      let places = range bounds.first_equation (bounds.end_equation - bounds.first_equation) in
      let one = cells_from cells bounds.first_cell bounds.end_cell in
      let own : keep (marked marks) one ≡ keep (has list) one = keep_agree (marked marks) (has list) one (λ c k. marks_has m c) in
      let kept : keep (λ (e : ℕ). any (marked marks) (slot_cells slots e)) places ≡ keep (λ (e : ℕ). meets (slot_cells slots e) list) places =
      keep_agree (λ (e : ℕ). any (marked marks) (slot_cells slots e)) (λ (e : ℕ). meets (slot_cells slots e) list) places (λ e k. marks_meets m (slot_cells slots e)) in
      let equations : map turned (reverse (keep (λ (e : BlockEquation). meets e.cells list) (map (equation_of slots rests) places)))
      ≡ map (λ (e : ℕ). turned (equation_of slots rests e)) (reverse (keep (λ (e : ℕ). meets (slot_cells slots e) list) places)) =
      ap (λ (l : List BlockEquation). map turned (reverse l)) (keep_map (equation_of slots rests) (λ (e : BlockEquation). meets e.cells list) places)
      ∙ ap (map turned) (reverse_map (equation_of slots rests) (keep (λ (e : ℕ). meets (slot_cells slots e) list) places))
      ∙ map-map turned (equation_of slots rests) (reverse (keep (λ (e : ℕ). meets (slot_cells slots e) list) places)) in
      rw (own, kept, equations, empty_map (reverse (keep (λ (e : ℕ). meets (slot_cells slots e) list) places)))
    where
      empty_map : (l : List ℕ) → empty (map (λ (e : ℕ). turned (equation_of slots rests e)) l) ≡ empty l
      empty_map [] = refl
      empty_map (x ∷ l) = refl
