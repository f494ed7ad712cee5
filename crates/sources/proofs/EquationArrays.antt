-- Equations one after another in two arrays, eight slots and a remainder for each: where they are small and at most 1,024, they are read back as they are.
-- The plain equations of a position on a board are so. Rests on the laws of slots. Assumes nothing.
use mathlib.Core.Path.{◌≡◌, ap, ◌∙◌}
use mathlib.Core.Bool.{Bool, true, ◌&&◌}
use mathlib.Core.List.Memᴰ
use mathlib.Core.List.{List, [], map}
use Prim.Native.Nat.{ℕ, ◌+◌, ◌-◌, ◌*◌, ◌≤◌, ◌<◌}
use native.Mathlib.Omega.{arith}
use lib.Dec.{leb, ltb}
use lib.ListN.{length, get_or, replicate, length-map}
use lib.Seq.{sets}
use borrow.Author.Tests.{le-leb, lt-ltb}
use Rattle.lists.specs.Lists.{range, all, joined, pad}
use Rattle.lists.proofs.Tests.{and_left, and_right}
use Rattle.lists.proofs.All.{all_at}
use Rattle.lists.proofs.Arrays.{length_pad, pad_nil}
use Rattle.lists.proofs.Collected.{keep_few}
use Rattle.lists.proofs.Joined.{read_all, map_range, pad_sets}
use Rattle.lists.proofs.Unions.{all_of, mem_has}
use Rattle.grid.specs.Cells.{shows}
use Rattle.grid.proofs.Places.{few_cells}
use Rattle.grid.specs.Window.{neighbours, Board}
use Rattle.grid.proofs.Neighbours.{neighbours_few}
use Rattle.fitting.specs.Equations.{is_closed}
use Rattle.blocks.specs.Blocks.{BlockEquation}
use Rattle.blocks.specs.BlockSets.{slots_of, slot_cells, small_equation}
use Rattle.blocks.specs.Places.{Slots, equations_from}
use Rattle.blocks.proofs.Slots.{all_slots, length_all_slots, slot_cells_lem}
use Rattle.blocks.proofs.Reading.{no_equation, rest_read}
use Rattle.sources.specs.Sources.{closed_beside, sources}
use Rattle.sources.specs.Equations.{known_beside, plain_equation, plain_equations}
use Rattle.sources.proofs.ListedSources.{listed_source, sources_few}
use Rattle.sources.proofs.SourceLaws.{closed_on}

-- the remainders of some equations as the array has them
abbrev pub all_rests : List BlockEquation → List ℕ
all_rests es = pad 1024 0 (map (λ (e : BlockEquation). e.rest) es)

-- the cells of a small equation are places of a board
small_below : (e : BlockEquation) → small_equation e ≡ true → all (λ c. ltb c 1024) e.cells ≡ true
small_below e h =
    and_left (all (λ c. ltb c 1024) e.cells) (ltb e.rest 256)
    (and_right (leb (length e.cells) 8) (all (λ c. ltb c 1024) e.cells && ltb e.rest 256) h)

module _ (es : List BlockEquation) (small : all small_equation es ≡ true) (few : length es ≤ 1024) where
  -- stored from the first place on they fill the arrays
  pub slots_stored : sets (replicate 8192 65535) 0 (joined (map slots_of es)) ≡ all_slots es
  slots_stored =
      ap (λ (a : List ℕ). sets a 0 (joined (map slots_of es))) (pad_nil 8192 65535)
      ∙ pad_sets 8192 65535 [] (joined (map slots_of es)) (omega (arith, length_all_slots es small))

  pub rests_stored : sets (replicate 1024 0) 0 (map (λ (e : BlockEquation). e.rest) es) ≡ all_rests es
  rests_stored =
      ap (λ (a : List ℕ). sets a 0 (map (λ (e : BlockEquation). e.rest) es)) (pad_nil 1024 0)
      ∙ pad_sets 1024 0 [] (map (λ (e : BlockEquation). e.rest) es) (omega (arith, length-map es (λ (e : BlockEquation). e.rest)))

  -- the cells in the slots are places of a board
  pub arrays_slots : Slots (all_slots es) (length es)
  arrays_slots = record {
    whole = length_pad 8192 65535 (joined (map slots_of es)) (omega (arith, length_all_slots es small));
    few = few;
    below = λ e h. rw (slot_cells_lem es small e no_equation h) (small_below (get_or es e no_equation) (all_at small_equation es e no_equation small h));
  }

  -- and the equations before the place where they end are these
  pub arrays_read : equations_from (all_slots es) (all_rests es) 0 (length es) ≡ es
  unfolding equations_from
  arrays_read =
      let n : length es - 0 ≡ length es = omega arith in
      let at : ℕ → BlockEquation = λ e. record { cells = slot_cells (all_slots es) e; rest = get_or (all_rests es) e 0 } in
      ap (λ (k : ℕ). map at (range 0 k)) n
      ∙ map_range at (λ (e : ℕ). get_or es e no_equation) 0 (length es) (λ e l u. one e (omega arith))
      ∙ read_all es no_equation
    where
      one : (e : ℕ) → e < length es → record { cells = slot_cells (all_slots es) e; rest = get_or (all_rests es) e 0 } ≡ get_or es e no_equation
      one e h = rw (slot_cells_lem es small e no_equation h, rest_read es e)

-- ---- the equations of a position

module _ (edgeless : Bool) (rows columns : ℕ) (p : List ℕ) (board : Board p rows columns) where
  -- are small
  pub plain_small : all small_equation (plain_equations (neighbours edgeless rows columns) p) ≡ true
  plain_small =
      all_of small_equation (plain_equations near p)
      (λ e m. let (d, n, w) = Memᴰ.of_map (plain_equation near p) (sources near p) m in
      let s = listed_source near p d (mem_has (sources near p) n) in
      rw (← w) (small d (omega (arith, s.on_board, board.whole)) s.is_open))
    where
      near : ℕ → List ℕ
      near = neighbours edgeless rows columns

      small : (d : ℕ) → d < rows * columns → shows p d ≤ 8 → small_equation (plain_equation (neighbours edgeless rows columns) p d) ≡ true
      small d on o = rw (
        le-leb (length (closed_beside (neighbours edgeless rows columns) p d)) 8
            (keep_few (is_closed p) (neighbours edgeless rows columns d) (neighbours_few edgeless rows columns d)),
        closed_on edgeless board d,
        lt-ltb ((shows p d + 8) - known_beside (neighbours edgeless rows columns) p d) 256 (omega arith),
      )

  -- and at most as many as a board has cells
  pub plain_few : length (plain_equations (neighbours edgeless rows columns) p) ≤ 1024
  plain_few =
      let near = neighbours edgeless rows columns in
      omega (arith, length-map (sources near p) (plain_equation near p), sources_few near p, board.whole, few_cells board.sized)
