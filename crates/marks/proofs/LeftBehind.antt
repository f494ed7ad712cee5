-- What is left of a block, put behind the blocks of a set: its cells, then its equations and their remainders go to the ends of the arrays, unless no cell is left
-- after subtraction. Rests on `put_behind`. Assumes nothing.
use mathlib.Core.Path.{◌≡◌, refl, ap, ◌∙◌}
use mathlib.Core.Logic.{◌⊎◌, inl, inr}
use mathlib.Core.Bool.{Bool, true, false, ◌&&◌}
use mathlib.Core.List.{List, [], ◌∷◌, ◌++◌, map, append-nil}
use Prim.Native.Nat.{ℕ, ◌+◌, ◌*◌, ◌≤◌}
use native.Mathlib.Omega.{arith}
use lib.ListN.{length, set}
use lib.Seq.{sets}
use Rattle.lists.specs.Lists.{empty, joined}
use Rattle.lists.proofs.Tests.{Decided, decided, and_right}
use Rattle.lists.proofs.Occurrences.{empty_nil}
use Rattle.blocks.specs.Blocks.{BlockEquation, Block}
use Rattle.blocks.specs.BlockSets.{all_cells, all_equations, slots_of, block_set, begin_at, blocks_of}
use Rattle.blocks.specs.Places.{Room, equations_from, block_from}
use Rattle.blocks.specs.declared.BlockSet.{BlockSet}
use Rattle.blocks.specs.declared.Bounds.{Bounds}
use Rattle.blocks.proofs.Behind.{cells_held, equations_held, put_behind, room_cells, room_equations}
use Rattle.marks.specs.Marked.{cells_with, left_equations, left_block}

-- a list without elements
no_length : {A : Type 0} (l : List A) → length l ≡ 0 → empty l ≡ true
no_length [] w = refl
no_length (x ∷ l) w = absurd (omega arith)

some_length : {A : Type 0} (l : List A) → (length l ≡ 0 → ⊥) → empty l ≡ false
some_length [] f = absurd (f refl)
some_length (x ∷ l) f = refl

module _ (subtracted : Bool) (mines known cells slots rests : List ℕ) (bounds : Bounds) where
  -- the cells and the equations left
  abbrev pub left_cells : List ℕ
  left_cells = cells_with known 0 cells bounds.first_cell bounds.end_cell

  abbrev pub left_rows : List BlockEquation
  left_rows = left_equations subtracted mines known (equations_from slots rests bounds.first_equation bounds.end_equation)

  abbrev pub left_whole : Block
  left_whole = record { cells = left_cells; equations = left_rows }

  -- what is left of the block, as a list
  abbrev pub left_of : List Block
  left_of = left_block subtracted mines known (block_from cells slots rests bounds)

  left_none : (subtracted && empty left_cells) ≡ true → left_of ≡ []
  unfolding left_block block_from cells_with
  left_none t = rw t

  left_some : (subtracted && empty left_cells) ≡ false → left_of ≡ left_whole ∷ []
  unfolding left_block block_from cells_with
  left_some t = rw t

  -- ---- behind the blocks of a set

  -- k is where the next cell goes
  module _ (out : BlockSet) (room : Room out left_of) (k : ℕ) (at : k ≡ begin_at out.cell_ends out.blocks) where
    here : k ≡ length (all_cells (blocks_of out))
    here = at ∙ cells_held out room.held

    pub left_cells_fit : k + length left_cells ≤ 1024
    left_cells_fit = go (decided (subtracted && empty left_cells))
      where
        go : Decided (subtracted && empty left_cells) → k + length left_cells ≤ 1024
        go (inl t) = omega (arith, here, room.held.fits.few_cells, ap length (empty_nil left_cells (and_right subtracted (empty left_cells) t)))
        go (inr t) = omega (arith, here, room_cells out left_whole (rw (left_some t) at room))

    -- the cells are stored, and `last` is behind them
    module _ (last : ℕ) (behind : last ≡ k + length left_cells) (stored : List ℕ) (is : stored ≡ sets out.cells k left_cells) where
      -- no cell is left
      pub left_nothing : subtracted ≡ true → last ≡ k
          → record { cells = stored; cell_ends = out.cell_ends; slots = out.slots; rests = out.rests; equation_ends = out.equation_ends; blocks = out.blocks }
          ≡ block_set (blocks_of out ++ left_of)
      left_nothing s h =
          let none : empty left_cells ≡ true = no_length left_cells (omega arith) in
          let same : stored ≡ out.cells = is ∙ ap (sets out.cells k) (empty_nil left_cells none) in
          let both : (subtracted && empty left_cells) ≡ true = rw s none in
          rw (same, left_none both, append-nil (blocks_of out)) room.held.is

      -- one is, or blocks without cells stay
      pub left_goes : ((subtracted ≡ true) × (last ≡ k → ⊥)) ⊎ (subtracted ≡ false) → (subtracted && empty left_cells) ≡ false
      left_goes (inl (s, f)) = rw s (some_length left_cells (λ w. f (omega arith)))
      left_goes (inr s) = rw s

      module _ (goes : (subtracted && empty left_cells) ≡ false) where
        pub left_room : Room out (left_whole ∷ [])
        left_room = rw (left_some goes) at room

        -- e is where the next equation goes
        module _ (e : ℕ) (begin : e ≡ begin_at out.equation_ends out.blocks) where
          there : e ≡ length (all_equations (blocks_of out))
          there = begin ∙ equations_held out room.held

          pub left_equations_fit : e + length left_rows ≤ 1024
          left_equations_fit = omega (arith, there, room_equations out left_whole left_room)

          pub left_put : (next : ℕ) → next ≡ e + length left_rows → (put : List ℕ) → put ≡ sets out.slots (e * 8) (joined (map slots_of left_rows))
              → (kept : List ℕ) → kept ≡ sets out.rests e (map (λ (x : BlockEquation). x.rest) left_rows)
              → record {
                cells = stored;
                cell_ends = set out.cell_ends out.blocks last;
                slots = put;
                rests = kept;
                equation_ends = set out.equation_ends out.blocks next;
                blocks = out.blocks + 1;
              }
              ≡ block_set (blocks_of out ++ left_of)
          left_put next w put a kept b = rw (a, b, w, is, behind, there, here, left_some goes) (put_behind out left_whole left_room)
