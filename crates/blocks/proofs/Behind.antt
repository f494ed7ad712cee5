-- Blocks put behind those of a set. The set holds its blocks and nothing else, so its ends tell where the next block begins, and a block is put there by
-- storing its cells, slots, remainders and ends. A loop that puts blocks has put some, and those with the ones still to come are all of them. Rests on the
-- laws of the block set. Assumes nothing.
use mathlib.Core.Path.{◌≡◌, refl, sym, ap, ◌∙◌}
use mathlib.Core.Bool.{true, ◌&&◌}
use mathlib.Core.List.{List, [], ◌∷◌, ◌++◌, map, map-append, append-nil, append_assoc}
use Prim.Native.Nat.{ℕ, ◌+◌, ◌*◌, ◌≤◌, ◌<◌}
use native.Mathlib.Nat.{zero-add}
use native.Mathlib.Omega.{arith}
use lib.Dec.{ltb}
use lib.ListN.{length, get_or, set, length-append, length-map}
use lib.Seq.{sets}
use Rattle.lists.specs.Lists.{all, joined, pad}
use Rattle.lists.proofs.Tests.{and_left, and_right}
use Rattle.lists.proofs.All.{all_append}
use Rattle.lists.proofs.Arrays.{length_pad}
use Rattle.lists.proofs.Joined.{joined_append, pad_sets}
use Rattle.blocks.specs.Blocks.{BlockEquation, Block}
use Rattle.blocks.specs.BlockSets.{all_cells, all_equations, ends_from, slots_of, block_set, begin_at, blocks_of, small_equation, Small, Whole}
use Rattle.blocks.specs.Places.{Room}
use Rattle.blocks.specs.declared.BlockSet.{BlockSet}
use Rattle.blocks.proofs.Slots.{all_slots, length_all_slots}
use Rattle.blocks.proofs.Ends.{ends_of, begin_padded}
use Rattle.blocks.proofs.Filling.{cells_push, equations_push, block_push}
use Rattle.blocks.proofs.Reading.{blocks_of_set}

-- ---- cells and equations of two lists of blocks

pub cells_append : (bs cs : List Block) → all_cells (bs ++ cs) ≡ all_cells bs ++ all_cells cs
cells_append bs cs = ap joined (map-append (λ (b : Block). b.cells) bs cs) ∙ joined_append (map (λ (b : Block). b.cells) bs) (map (λ (b : Block). b.cells) cs)

pub equations_append : (bs cs : List Block) → all_equations (bs ++ cs) ≡ all_equations bs ++ all_equations cs
equations_append bs cs =
    ap joined (map-append (λ (b : Block). b.equations) bs cs)
    ∙ joined_append (map (λ (b : Block). b.equations) bs) (map (λ (b : Block). b.equations) cs)

-- ---- what fits

-- no blocks fit
pub none_fits : Small []
none_fits = record { few_cells = omega arith; few_equations = omega arith; few_blocks = omega arith; on_board = refl; small = refl }

-- the first of blocks that fit together fit
pub small_first : (bs cs : List Block) → Small (bs ++ cs) → Small bs
small_first bs cs s =
    record {
      few_cells = omega (arith, s.few_cells, ap length (cells_append bs cs), length-append (all_cells bs) (all_cells cs));
      few_equations = omega (arith, s.few_equations, ap length (equations_append bs cs), length-append (all_equations bs) (all_equations cs));
      few_blocks = omega (arith, s.few_blocks, length-append bs cs);
      on_board = and_left (all (λ c. ltb c 1024) (all_cells bs)) (all (λ c. ltb c 1024) (all_cells cs))
          (sym (all_append (λ c. ltb c 1024) (all_cells bs) (all_cells cs)) ∙ ap (all (λ c. ltb c 1024)) (sym (cells_append bs cs)) ∙ s.on_board);
      small = and_left (all small_equation (all_equations bs)) (all small_equation (all_equations cs))
          (sym (all_append small_equation (all_equations bs) (all_equations cs)) ∙ ap (all small_equation) (sym (equations_append bs cs)) ∙ s.small);
    }

-- a struct of blocks that fit holds them and nothing else
pub set_whole : (bs : List Block) (r : BlockSet) → r ≡ block_set bs → Small bs → Whole r
set_whole bs r e s =
    let same : blocks_of r ≡ bs = ap blocks_of e ∙ blocks_of_set bs s in
    record { is = e ∙ ap block_set (sym same); fits = rw same s }

-- ---- where the next block begins

module _ {A B : Type 0} (f : B → List A) where
  last_end : (n : ℕ) (b : B) (bs : List B) → get_or (ends_from n (map (λ (x : B). length (f x)) (b ∷ bs))) (length bs) 0 ≡ n + length (joined (map f (b ∷ bs)))
  last_end n b [] = ap (λ (l : List A). n + length l) (sym (append-nil (f b)))
  last_end n b (c ∷ bs) = omega (arith, last_end (n + length (f b)) c bs, length-append (f b) (joined (map f (c ∷ bs))))

  begin_next : (bs : List B) → begin_at (ends_of f bs) (length bs) ≡ length (joined (map f bs))
  begin_next [] = refl
  begin_next (b ∷ bs) = last_end 0 b bs ∙ zero-add (length (joined (map f (b ∷ bs))))

module _ (out : BlockSet) (bs : List Block) (is : out ≡ block_set bs) where
  next_block_lem : out.blocks ≡ length bs
  unfolding block_set
  next_block_lem = ap (λ (s : BlockSet). s.blocks) is

  next_cell : begin_at out.cell_ends out.blocks ≡ length (all_cells bs)
  unfolding block_set
  next_cell = rw is (begin_padded 1024 (ends_of (λ (b : Block). b.cells) bs) (length bs) ∙ begin_next (λ (b : Block). b.cells) bs)

  next_equation : begin_at out.equation_ends out.blocks ≡ length (all_equations bs)
  unfolding block_set
  next_equation = rw is (begin_padded 1024 (ends_of (λ (b : Block). b.equations) bs) (length bs) ∙ begin_next (λ (b : Block). b.equations) bs)

  full_cells : Small bs → length out.cells ≡ 1024
  unfolding block_set
  full_cells s = rw is (length_pad 1024 0 (all_cells bs) s.few_cells)

  pub full_slots : Small bs → length out.slots ≡ 8192
  unfolding block_set
  full_slots s = rw is (length_pad 8192 65535 (joined (map slots_of (all_equations bs))) (omega (arith, s.few_equations, length_all_slots (all_equations bs) s.small)))

  pub full_rests : Small bs → length out.rests ≡ 1024
  unfolding block_set
  full_rests s =
      let rest : BlockEquation → ℕ = λ e. e.rest in
      rw is (length_pad 1024 0 (map rest (all_equations bs)) (omega (arith, s.few_equations, length-map (all_equations bs) rest)))

module _ (out : BlockSet) (h : Whole out) where
  pub cells_long : length out.cells ≡ 1024
  cells_long = full_cells out (blocks_of out) h.is h.fits

  pub slots_long : length out.slots ≡ 8192
  slots_long = full_slots out (blocks_of out) h.is h.fits

  pub rests_long : length out.rests ≡ 1024
  rests_long = full_rests out (blocks_of out) h.is h.fits

  pub blocks_held : out.blocks ≡ length (blocks_of out)
  blocks_held = next_block_lem out (blocks_of out) h.is

  pub blocks_few : out.blocks ≤ 1024
  blocks_few = omega (arith, blocks_held, h.fits.few_blocks)

  pub cells_held : begin_at out.cell_ends out.blocks ≡ length (all_cells (blocks_of out))
  cells_held = next_cell out (blocks_of out) h.is

  pub equations_held : begin_at out.equation_ends out.blocks ≡ length (all_equations (blocks_of out))
  equations_held = next_equation out (blocks_of out) h.is

-- ---- one block more

-- the slots of several equations stored behind those of others
slots_behind : (es fs : List BlockEquation) → all small_equation es ≡ true → all small_equation fs ≡ true → length es + length fs ≤ 1024
    → sets (all_slots es) (length es * 8) (joined (map slots_of fs)) ≡ all_slots (es ++ fs)
slots_behind es fs a b h =
    ap (λ (i : ℕ). sets (all_slots es) i (joined (map slots_of fs))) (sym (length_all_slots es a))
    ∙ pad_sets 8192 65535 (joined (map slots_of es)) (joined (map slots_of fs)) (omega (arith, length_all_slots es a, length_all_slots fs b))
    ∙ ap (pad 8192 65535) (sym (ap joined (map-append slots_of es fs) ∙ joined_append (map slots_of es) (map slots_of fs)))

-- what blocks that fit with one more leave for it
module _ (bs : List Block) (q : Block) (fits : Small (bs ++ (q ∷ []))) where
  pub block_fits : length bs < 1024
  block_fits = omega (arith, fits.few_blocks, length-append bs (q ∷ []))

  pub cells_fit : length (all_cells bs) + length q.cells ≤ 1024
  cells_fit = omega (arith, fits.few_cells, ap length (cells_push bs q), length-append (all_cells bs) q.cells)

  pub equations_fit : length (all_equations bs) + length q.equations ≤ 1024
  equations_fit = omega (arith, fits.few_equations, ap length (equations_push bs q), length-append (all_equations bs) q.equations)

pub put_block : (out : BlockSet) (bs : List Block) (q : Block) → out ≡ block_set bs → Small (bs ++ (q ∷ []))
    → record {
      cells = sets out.cells (length (all_cells bs)) q.cells;
      cell_ends = set out.cell_ends out.blocks (length (all_cells bs) + length q.cells);
      slots = sets out.slots (length (all_equations bs) * 8) (joined (map slots_of q.equations));
      rests = sets out.rests (length (all_equations bs)) (map (λ (e : BlockEquation). e.rest) q.equations);
      equation_ends = set out.equation_ends out.blocks (length (all_equations bs) + length q.equations);
      blocks = out.blocks + 1;
    }
    ≡ block_set (bs ++ (q ∷ []))
unfolding block_set
put_block out bs q is s =
    let es = all_equations bs in
    let fs = q.equations in
    let both : all small_equation es && all small_equation fs ≡ true = sym (all_append small_equation es fs) ∙ ap (all small_equation) (sym (equations_push bs q)) ∙ s.small in
    let equations : length es + length fs ≤ 1024 = equations_fit bs q s in
    let rest : BlockEquation → ℕ = λ e. e.rest in
    let rests : sets (pad 1024 0 (map rest es)) (length es) (map rest fs) ≡ pad 1024 0 (map rest (es ++ fs)) =
    ap (λ (i : ℕ). sets (pad 1024 0 (map rest es)) i (map rest fs)) (sym (length-map es rest))
    ∙ pad_sets 1024 0 (map rest es) (map rest fs) (omega (arith, length-map es rest, length-map fs rest))
    ∙ ap (pad 1024 0) (sym (map-append rest es fs)) in
    rw (
      is,
      pad_sets 1024 0 (all_cells bs) q.cells (cells_fit bs q s),
      slots_behind es fs (and_left (all small_equation es) (all small_equation fs) both) (and_right (all small_equation es) (all small_equation fs) both) equations,
      rests,
    )
    (block_push bs q (block_fits bs q s))

-- a block put behind those of a set
pub put_behind : (out : BlockSet) (q : Block) → Room out (q ∷ [])
    → record {
      cells = sets out.cells (length (all_cells (blocks_of out))) q.cells;
      cell_ends = set out.cell_ends out.blocks (length (all_cells (blocks_of out)) + length q.cells);
      slots = sets out.slots (length (all_equations (blocks_of out)) * 8) (joined (map slots_of q.equations));
      rests = sets out.rests (length (all_equations (blocks_of out))) (map (λ (e : BlockEquation). e.rest) q.equations);
      equation_ends = set out.equation_ends out.blocks (length (all_equations (blocks_of out)) + length q.equations);
      blocks = out.blocks + 1;
    }
    ≡ block_set (blocks_of out ++ (q ∷ []))
put_behind out q r = put_block out (blocks_of out) q r.held.is r.fits

module _ (out : BlockSet) (q : Block) (r : Room out (q ∷ [])) where
  pub room_blocks : out.blocks < 1024
  room_blocks = omega (arith, blocks_held out r.held, block_fits (blocks_of out) q r.fits)

  pub room_cells : length (all_cells (blocks_of out)) + length q.cells ≤ 1024
  room_cells = cells_fit (blocks_of out) q r.fits

  pub room_equations : length (all_equations (blocks_of out)) + length q.equations ≤ 1024
  room_equations = equations_fit (blocks_of out) q r.fits

-- ---- blocks put one after another

-- the set holds what was put so far, and with what is still to come that is all
pub record Growing (all : List Block) (t : BlockSet) (rest : List Block) : Type 0 where
  pub held : Whole t
  pub left : blocks_of t ++ rest ≡ all

pub growing_start : {out : BlockSet} {more : List Block} → Room out more → Growing (blocks_of out ++ more) out more
growing_start r = record { held = r.held; left = refl }

module _ {all : List Block} {t : BlockSet} {rest : List Block} (g : Growing all t rest) (fits : Small all) where
  pub growing_room : (qs cs : List Block) → rest ≡ qs ++ cs → Room t qs
  growing_room qs cs e =
      record {
        held = g.held;
        fits = small_first (blocks_of t ++ qs) cs (rw (append_assoc (blocks_of t) qs cs ∙ ap (λ (l : List Block). blocks_of t ++ l) (sym e) ∙ g.left) fits);
      }

  pub growing_next : (qs cs : List Block) → rest ≡ qs ++ cs → (after : BlockSet) → after ≡ block_set (blocks_of t ++ qs) → Growing all after cs
  growing_next qs cs e after is =
      let small = (growing_room qs cs e).fits in
      let same : blocks_of after ≡ blocks_of t ++ qs = ap blocks_of is ∙ blocks_of_set (blocks_of t ++ qs) small in
      record {
        held = set_whole (blocks_of t ++ qs) after is small;
        left = ap (λ (l : List Block). l ++ cs) same ∙ append_assoc (blocks_of t) qs cs ∙ ap (λ (l : List Block). blocks_of t ++ l) (sym e) ∙ g.left;
      }

pub growing_pass : {all : List Block} {t : BlockSet} {rest : List Block} → Growing all t rest → (cs : List Block) → rest ≡ cs → Growing all t cs
growing_pass g cs e = rw e at g

pub growing_end : {all : List Block} {t : BlockSet} {rest : List Block} → Growing all t rest → rest ≡ [] → t ≡ block_set all
growing_end {t = t} g e = g.held.is ∙ ap block_set (sym (append-nil (blocks_of t)) ∙ ap (λ (l : List Block). blocks_of t ++ l) (sym e) ∙ g.left)
