-- What is left of blocks, as lists. The cells are those that are not known, block after block; equations and blocks become no more; and what a test says of each
-- equation, and goes on to say of it without its known cells, it says of each that is left. So what is left fits where the blocks did. Assumes nothing.
use mathlib.Core.Path.{◌≡◌, refl, sym, ap, ◌∙◌}
use mathlib.Core.Logic.{inl, inr}
use mathlib.Core.Bool.{Bool, true, false, ◌&&◌}
use mathlib.Core.List.{List, [], ◌∷◌, ◌++◌, map, append-nil}
use Prim.Native.Nat.{ℕ, ◌-◌, ◌≤◌}
use native.Mathlib.Omega.{arith}
use lib.Dec.{eqb, leb, ltb}
use lib.ListN.{length, get_or, length-append, length-map}
use borrow.Author.Tests.{leb-true, le-leb, ltb-true, lt-ltb}
use Rattle.lists.specs.Lists.{keep, count, all, empty}
use Rattle.lists.proofs.Tests.{Decided, decided, and_left, and_right}
use Rattle.lists.proofs.Occurrences.{empty_nil}
use Rattle.lists.proofs.Kept.{keep_append}
use Rattle.lists.proofs.All.{all_append, all_joined, all_keep}
use Rattle.blocks.specs.Blocks.{BlockEquation, Block}
use Rattle.blocks.specs.BlockSets.{all_cells, all_equations, small_equation, Small}
use Rattle.blocks.specs.Places.{marked}
use Rattle.blocks.proofs.Behind.{cells_append, equations_append}
use Rattle.marks.specs.Marked.{left_equation, stays, left_equations, left_block, left_blocks}
use Rattle.lists.proofs.StoredAndKept.{keep_fewer, all_mapped}

module _ (subtracted : Bool) (mines known : List ℕ) where
  -- a cell is not known
  abbrev pub unknown : ℕ → Bool
  unknown c = eqb (get_or known c 0) 0

  -- ---- block by block

  pub left_nil : left_blocks subtracted mines known [] ≡ []
  unfolding left_blocks
  left_nil = refl

  pub left_cons : (b : Block) (bs : List Block) → left_blocks subtracted mines known (b ∷ bs) ≡ left_block subtracted mines known b ++ left_blocks subtracted mines known bs
  unfolding left_blocks
  left_cons b bs = refl

  -- a block without known cells
  abbrev one : Block → Block
  one b = record { cells = keep unknown b.cells; equations = left_equations subtracted mines known b.equations }

  dropped : (b : Block) → (subtracted && empty (keep unknown b.cells)) ≡ true → left_block subtracted mines known b ≡ []
  unfolding left_block
  dropped b t = rw t

  stayed : (b : Block) → (subtracted && empty (keep unknown b.cells)) ≡ false → left_block subtracted mines known b ≡ one b ∷ []
  unfolding left_block
  stayed b t = rw t

  -- ---- cells

  block_cells : (b : Block) → all_cells (left_block subtracted mines known b) ≡ keep unknown b.cells
  block_cells b = go (decided (subtracted && empty (keep unknown b.cells)))
    where
      go : Decided (subtracted && empty (keep unknown b.cells)) → all_cells (left_block subtracted mines known b) ≡ keep unknown b.cells
      go (inl t) = ap all_cells (dropped b t) ∙ sym (empty_nil (keep unknown b.cells) (and_right subtracted (empty (keep unknown b.cells)) t))
      go (inr t) = ap all_cells (stayed b t) ∙ append-nil (keep unknown b.cells)

  pub left_cells_lem : (bs : List Block) → all_cells (left_blocks subtracted mines known bs) ≡ keep unknown (all_cells bs)
  left_cells_lem [] = ap all_cells left_nil
  left_cells_lem (b ∷ bs) =
      ap all_cells (left_cons b bs)
      ∙ cells_append (left_block subtracted mines known b) (left_blocks subtracted mines known bs)
      ∙ rw (block_cells b, left_cells_lem bs) (sym (keep_append unknown b.cells (all_cells bs)))

  -- ---- blocks and equations become no more

  pub left_fewer_blocks : (bs : List Block) → length (left_blocks subtracted mines known bs) ≤ length bs
  left_fewer_blocks [] = omega (arith, ap length left_nil)
  left_fewer_blocks (b ∷ bs) =
      omega (
        arith,
        ap length (left_cons b bs),
        length-append (left_block subtracted mines known b) (left_blocks subtracted mines known bs),
        left_fewer_blocks bs,
        go (decided (subtracted && empty (keep unknown b.cells))),
      )
    where
      go : Decided (subtracted && empty (keep unknown b.cells)) → length (left_block subtracted mines known b) ≤ 1
      go (inl t) = omega (arith, ap length (dropped b t))
      go (inr t) = omega (arith, ap length (stayed b t))

  pub equations_fewer : (es : List BlockEquation) → length (left_equations subtracted mines known es) ≤ length es
  unfolding left_equations
  equations_fewer es = omega (arith, keep_fewer (stays subtracted) (map (left_equation mines known) es), length-map es (left_equation mines known))

  pub left_fewer_equations : (bs : List Block) → length (all_equations (left_blocks subtracted mines known bs)) ≤ length (all_equations bs)
  left_fewer_equations [] = omega (arith, ap (λ (l : List Block). length (all_equations l)) left_nil)
  left_fewer_equations (b ∷ bs) =
      omega (
        arith,
        ap (λ (l : List Block). length (all_equations l)) (left_cons b bs),
        ap length (equations_append (left_block subtracted mines known b) (left_blocks subtracted mines known bs)),
        length-append (all_equations (left_block subtracted mines known b)) (all_equations (left_blocks subtracted mines known bs)),
        length-append b.equations (all_equations bs),
        left_fewer_equations bs,
        go (decided (subtracted && empty (keep unknown b.cells))),
      )
    where
      go : Decided (subtracted && empty (keep unknown b.cells)) → length (all_equations (left_block subtracted mines known b)) ≤ length b.equations
      go (inl t) = omega (arith, ap (λ (l : List Block). length (all_equations l)) (dropped b t))
      go (inr t) =
          omega (
            arith,
            ap (λ (l : List Block). length (all_equations l)) (stayed b t),
            ap length (append-nil (left_equations subtracted mines known b.equations)),
            equations_fewer b.equations,
          )

  -- ---- a test of each equation

  module _ (p : BlockEquation → Bool) (goes_on : (e : BlockEquation) → p e ≡ true → p (left_equation mines known e) ≡ true) where
    pub equations_pass : (es : List BlockEquation) → all p es ≡ true → all p (left_equations subtracted mines known es) ≡ true
    unfolding left_equations
    equations_pass es h = all_keep p (stays subtracted) (map (left_equation mines known) es) (all_mapped p p (left_equation mines known) es goes_on h)

    block_passes : (b : Block) → all p b.equations ≡ true → all p (all_equations (left_block subtracted mines known b)) ≡ true
    block_passes b h = go (decided (subtracted && empty (keep unknown b.cells)))
      where
        go : Decided (subtracted && empty (keep unknown b.cells)) → all p (all_equations (left_block subtracted mines known b)) ≡ true
        go (inl t) = ap (λ (l : List Block). all p (all_equations l)) (dropped b t)
        go (inr t) =
            ap (λ (l : List Block). all p (all_equations l)) (stayed b t)
            ∙ ap (all p) (append-nil (left_equations subtracted mines known b.equations))
            ∙ equations_pass b.equations h

    pub left_all_equations : (bs : List Block) → all p (all_equations bs) ≡ true → all p (all_equations (left_blocks subtracted mines known bs)) ≡ true
    left_all_equations [] h = ap (λ (l : List Block). all p (all_equations l)) left_nil
    left_all_equations (b ∷ bs) h =
        let both : (all p b.equations && all p (all_equations bs)) ≡ true = sym (all_append p b.equations (all_equations bs)) ∙ h in
        ap (λ (l : List Block). all p (all_equations l)) (left_cons b bs)
        ∙ ap (all p) (equations_append (left_block subtracted mines known b) (left_blocks subtracted mines known bs))
        ∙ all_joined p (all_equations (left_block subtracted mines known b)) (all_equations (left_blocks subtracted mines known bs))
        (block_passes b (and_left (all p b.equations) (all p (all_equations bs)) both))
        (left_all_equations bs (and_right (all p b.equations) (all p (all_equations bs)) both))

  -- ---- what fits

  pub small_left : (e : BlockEquation) → small_equation e ≡ true → small_equation (left_equation mines known e) ≡ true
  small_left e h =
      let few = leb (length e.cells) 8 in
      let below = all (λ c. ltb c 1024) e.cells in
      let byte = ltb e.rest 256 in
      let eight : length e.cells ≤ 8 = leb-true (length e.cells) 8 (and_left few (below && byte) h) in
      let rest : e.rest - count (marked mines) e.cells ≤ e.rest = omega arith in
      let fits = ltb-true e.rest 256 (and_right below byte (and_right few (below && byte) h)) in
      rw (
        le-leb (length (keep unknown e.cells)) 8 (omega (arith, keep_fewer unknown e.cells)),
        all_keep (λ c. ltb c 1024) unknown e.cells (and_left below byte (and_right few (below && byte) h)),
        lt-ltb (e.rest - count (marked mines) e.cells) 256 (omega arith),
      )

  pub left_small : (bs : List Block) → Small bs → Small (left_blocks subtracted mines known bs)
  left_small bs s =
      record {
        few_cells = omega (arith, s.few_cells, ap length (left_cells_lem bs), keep_fewer unknown (all_cells bs));
        few_equations = omega (arith, s.few_equations, left_fewer_equations bs);
        few_blocks = omega (arith, s.few_blocks, left_fewer_blocks bs);
        on_board = ap (all (λ c. ltb c 1024)) (left_cells_lem bs) ∙ all_keep (λ c. ltb c 1024) unknown (all_cells bs) s.on_board;
        small = left_all_equations small_equation small_left bs s.small;
      }
