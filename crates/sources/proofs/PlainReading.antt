-- The equations of a position as the code reads them. The sources are listed, and the slots of each hold its closed neighbours; so what is stored of one
-- source after another is the plain equations. Rests on the laws of a position that is read and of equations in arrays. Assumes nothing.
use mathlib.Core.Path.{◌≡◌, sym, ap, ◌∙◌}
use mathlib.Core.Bool.{Bool}
use mathlib.Core.List.{List, map, map-map}
use Prim.Native.Nat.{ℕ, ◌*◌}
use native.Mathlib.Omega.{arith}
use lib.ListN.{length, take, replicate, length-map}
use lib.Seq.{sets, length-take-le}
use Rattle.lists.specs.Lists.{joined, pad}
use Rattle.lists.proofs.All.{all_has}
use Rattle.lists.proofs.Arrays.{length_pad}
use Rattle.lists.proofs.Joined.{map_ext}
use Rattle.grid.specs.Window.{neighbours, Board}
use Rattle.grid.proofs.Places.{few_cells}
use Rattle.blocks.specs.Blocks.{BlockEquation}
use Rattle.blocks.specs.BlockSets.{slots_of, slot_cells}
use Rattle.blocks.proofs.Between.{slots_eight}
use Rattle.sources.specs.Sources.{sources}
use Rattle.sources.specs.Equations.{plain_equation, plain_equations, EquationsHeld, rest_at}
use Rattle.sources.specs.Reading.{Read}
use Rattle.sources.proofs.SourceLaws.{source_below}
use Rattle.sources.proofs.ReadSlots.{read_held, all_read}
use Rattle.sources.proofs.ReadSources.{sources_listed}
use Rattle.sources.proofs.EquationArrays.{slots_stored, rests_stored, plain_small, plain_few}

-- the cells beside a source, in eight slots
abbrev pub slots_beside : List ℕ → ℕ → List ℕ
slots_beside beside c = pad 8 65535 (slot_cells beside c)

pub length_beside : (beside : List ℕ) (c : ℕ) → length (slots_beside beside c) ≡ 8
length_beside beside c = length_pad 8 65535 (slot_cells beside c) (slots_eight beside c)

module _ (edgeless : Bool) {rows columns : ℕ} {p beside list : List ℕ} {len : ℕ} (board : Board p rows columns)
    (read : Read (neighbours edgeless rows columns) p (rows * columns) beside list len) where
  abbrev near : ℕ → List ℕ
  near = neighbours edgeless rows columns

  -- the slots of the sources are those of the equations
  slots_are : map (slots_beside beside) (take len list) ≡ map slots_of (plain_equations near p)
  slots_are =
      ap (map (slots_beside beside)) (sources_listed edgeless board read)
      ∙ map_ext (slots_beside beside) (λ d. slots_of (plain_equation near p d)) (sources near p)
      (λ c h. ap (pad 8 65535) (read_held edgeless board read c (all_has (source_below near p (rows * columns)) (sources near p) (all_read edgeless board read) c h)))
      ∙ sym (map-map slots_of (plain_equation near p) (sources near p))

  -- and so are the remainders
  rests_are : map (rest_at near p) (take len list) ≡ map (λ (e : BlockEquation). e.rest) (plain_equations near p)
  rests_are =
      ap (map (rest_at near p)) (sources_listed edgeless board read)
      ∙ sym (map-map (λ (e : BlockEquation). e.rest) (plain_equation near p) (sources near p))

  -- there is an equation for each
  counted : len ≡ length (plain_equations near p)
  counted =
      sym (length-take-le len list (omega (arith, read.few, read.long, few_cells board.sized)))
      ∙ ap length (sources_listed edgeless board read)
      ∙ sym (length-map (sources near p) (plain_equation near p))

  -- what is stored is the equations
  pub equations_stored : (slots rests : List ℕ) → slots ≡ sets (replicate 8192 65535) (0 * 8) (joined (map (slots_beside beside) (take len list)))
      → rests ≡ sets (replicate 1024 0) 0 (map (rest_at near p) (take len list))
      → EquationsHeld (plain_equations near p) slots rests len
  equations_stored slots rests s r =
      let small = plain_small edgeless rows columns p board in
      let few = plain_few edgeless rows columns p board in
      record {
        in_slots = s ∙ ap (λ (l : List (List ℕ)). sets (replicate 8192 65535) 0 (joined l)) slots_are ∙ slots_stored (plain_equations near p) small few;
        in_rests = r ∙ ap (sets (replicate 1024 0) 0) rests_are ∙ rests_stored (plain_equations near p) small few;
        many = counted;
      }
