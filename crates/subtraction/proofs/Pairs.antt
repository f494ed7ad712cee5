-- One equation exceeds another, as the code finds it: it counts the cells of the second that stand in the first. Where no cell stands twice in either, that
-- is also the number of cells of the first that stand in the second, so the first one's own cells are its cells less as many. Rests on the laws of counts
-- and of marks. Assumes nothing.
use mathlib.Core.Path.{◌≡◌, sym, ap, ◌∙◌}
use mathlib.Core.Bool.{Bool, true, false, not, ◌&&◌, ◌||◌}
use mathlib.Core.List.{List}
use Prim.Native.Nat.{ℕ, ◌+◌, ◌≤◌, ◌<◌}
use native.Mathlib.Omega.{arith}
use lib.Dec.{ltb}
use lib.ListN.{length, get_or, take}
use borrow.Author.Tests.{eq-eqb, ne_eqb, lt-ltb, le-ltb}
use Rattle.lists.specs.Lists.{keep, count, any, has, nodup, meets}
use Rattle.lists.proofs.Counts.{count_le, count_ext, count_split, length_keep}
use Rattle.lists.proofs.Rearranged.{count_all, any_count_lem}
use Rattle.grid.specs.Window.{listed}
use Rattle.grid.specs.declared.window.UpToEight.{UpToEight}
use Rattle.blocks.specs.Blocks.{BlockEquation}
use Rattle.blocks.specs.BlockSets.{slot_cells, begin_at}
use Rattle.blocks.specs.Places.{marked, Marks, equations_from}
use Rattle.blocks.proofs.MarkLaws.{marks_has}
use Rattle.blocks.proofs.Between.{slots_eight, listed_cells}
use Rattle.lists.proofs.ListsOfElements.{count_mutual}
use Rattle.subtraction.specs.Minus.{own_cells, exceeds}
use Rattle.subtraction.specs.Pairs.{Once, equation_in}

-- ---- two equations

module _ (e f : BlockEquation) (once : nodup e.cells ≡ true) (other_once : nodup f.cells ≡ true) (shared : ℕ)
    (is : shared ≡ count (has e.cells) f.cells) where
  -- the shared cells and the own cells are all
  shared_own : shared + length (own_cells e f) ≡ length e.cells
  shared_own =
      omega (
        arith,
        is,
        count_mutual e.cells f.cells once other_once,
        count_split (λ _. true) (has f.cells) e.cells,
        count_all e.cells,
        count_all (own_cells e f),
        count_all (keep (has f.cells) e.cells),
        length_keep (has f.cells) e.cells,
      )

  -- they share a cell where one is counted
  shares : meets e.cells f.cells ≡ ltb 0 shared
  shares = any_count_lem (has f.cells) e.cells ∙ ap (ltb 0) (count_mutual e.cells f.cells once other_once ∙ sym is)

  -- it exceeds the other: its remainder is larger by the number of its own cells
  pub exceeds_found : 0 < shared → e.rest + shared ≡ f.rest + length e.cells → exceeds e f ≡ true
  exceeds_found h w =
      rw (shares, lt-ltb 0 shared h) (eq-eqb e.rest (f.rest + length (own_cells e f)) (omega (arith, shared_own)))

  -- it does not, as they share no cell
  pub exceeds_apart : shared ≤ 0 → exceeds e f ≡ false
  exceeds_apart h = rw (shares, le-ltb 0 shared h)

  -- nor where the remainders differ by another number
  pub exceeds_other : 0 < shared → (e.rest + shared ≡ f.rest + length e.cells → ⊥) → exceeds e f ≡ false
  exceeds_other h out =
      rw (shares, lt-ltb 0 shared h) (ne_eqb e.rest (f.rest + length (own_cells e f)) (λ w. out (omega (arith, shared_own))))

-- ---- the equations at two places, as the code reads them

-- what an equation marks beside each other one: its own cells as mines where it exceeds the other, and then the other's as safe
abbrev pub mines_beside : BlockEquation → ℕ → BlockEquation → Bool
mines_beside e d f = exceeds e f && has (own_cells e f) d

abbrev pub safe_beside : BlockEquation → ℕ → BlockEquation → Bool
safe_beside e d f = exceeds e f && has (own_cells f e) d

-- what an equation marks beside all of a list
abbrev pub mines_among : List BlockEquation → ℕ → BlockEquation → Bool
mines_among es d e = any (mines_beside e d) es

abbrev pub safe_among : List BlockEquation → ℕ → BlockEquation → Bool
safe_among es d e = any (safe_beside e d) es

-- what all pairs of equations of a list mark
abbrev pub mines_of : List BlockEquation → ℕ → Bool
mines_of es d = any (mines_among es d) es

abbrev pub safe_of : List BlockEquation → ℕ → Bool
safe_of es d = any (safe_among es d) es

-- what the pairs of the block at a place mark
abbrev pub mines_in : List ℕ → List ℕ → List ℕ → ℕ → ℕ → Bool
mines_in slots rests ends d b = mines_of (equations_from slots rests (begin_at ends b) (get_or ends b 0)) d

abbrev pub safe_in : List ℕ → List ℕ → List ℕ → ℕ → ℕ → Bool
safe_in slots rests ends d b = safe_of (equations_from slots rests (begin_at ends b) (get_or ends b 0)) d

module _ (slots rests : List ℕ) (e f : ℕ) (list other : UpToEight) (first : list ≡ listed (slot_cells slots e)) (second : other ≡ listed (slot_cells slots f)) where
  -- the equations at the two places
  abbrev one : BlockEquation
  one = equation_in slots rests e

  abbrev two : BlockEquation
  two = equation_in slots rests f

  -- the cells that the first list has and the second lacks are marked: the own cells of the first equation
  pub own_marked : (here after : List ℕ)
      → ((d : ℕ) → marked after d ≡ (marked here d || has (keep (λ c. not (has (take other.len other.cells) c)) (take list.len list.cells)) d))
      → (d : ℕ) → marked after d ≡ (marked here d || has (own_cells one two) d)
  own_marked here after is d = rw (listed_cells list slots e first, listed_cells other slots f second) at (is d)

  -- `own` marks the cells of the first, and `shared` of the second's cells are marked
  module _ (own : List ℕ) (marks : Marks own (take list.len list.cells)) (shared : ℕ) (counted : shared ≡ count (marked own) (take other.len other.cells)) where
    shared_counted : shared ≡ count (has (slot_cells slots e)) (slot_cells slots f)
    shared_counted =
        counted
        ∙ ap (count (marked own)) (listed_cells other slots f second)
        ∙ count_ext (marked own) (has (slot_cells slots e)) (slot_cells slots f) (λ c _. marks_has marks c ∙ ap (λ (l : List ℕ). has l c) (listed_cells list slots e first))

    -- they are at most eight
    pub shared_few : shared ≤ 8
    shared_few = omega (arith, shared_counted, count_le (has (slot_cells slots e)) (slot_cells slots f), slots_eight slots f)

    module _ (end : ℕ) (once : Once slots end) (h : e < end) (k : f < end) where
      -- the two share no cell
      pub pair_apart : shared ≤ 0 → exceeds one two ≡ false
      pair_apart = exceeds_apart one two (once.at e h) (once.at f k) shared shared_counted

      -- they do; `rest` and `other_rest` are their remainders plus 8
      module _ (some : 0 < shared) (rest : ℕ) (rest_is : rest ≡ get_or rests e 0) (other_rest : ℕ) (other_rest_is : other_rest ≡ get_or rests f 0) where
        long : list.len ≡ length (slot_cells slots e)
        long = ap (λ (n : UpToEight). n.len) first

        -- the first exceeds the second
        pub pair_found : rest + shared ≡ other_rest + list.len → exceeds one two ≡ true
        pair_found w = exceeds_found one two (once.at e h) (once.at f k) shared shared_counted some (omega (arith, long))

        -- or does not
        pub pair_other : (rest + shared ≡ other_rest + list.len → ⊥) → exceeds one two ≡ false
        pair_other out = exceeds_other one two (once.at e h) (once.at f k) shared shared_counted some (λ w. out (omega (arith, long)))
