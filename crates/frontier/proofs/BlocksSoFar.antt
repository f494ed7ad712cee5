-- The blocks of a position, read one after another: the struct holds the blocks done, which with the blocks of the sources left are the whole frontier.
-- One block more: it grows from the first source left, its cells and equations go behind those of the blocks done, and the other sources go on. What is
-- written is a beginning of the frontier, which fits into the struct, so there is always room. Rests on the laws of written blocks, of slots that are read,
-- and of blocks put behind others. Assumes nothing.
use mathlib.Core.Path.{◌≡◌, refl, sym, ap, ◌∙◌}
use mathlib.Core.Bool.{Bool, true, ◌&&◌}
use mathlib.Core.List.{List, [], ◌∷◌, ◌++◌, map, append-nil, append_assoc}
use Prim.Native.Nat.{ℕ, zero, suc, ◌+◌, ◌-◌, ◌*◌, ◌≤◌, ◌<◌}
use native.Mathlib.Omega.{arith}
use lib.Dec.{leb, ltb}
use lib.ListN.{length, get_or, take, drop, set, replicate, length-append, length-map, length-replicate}
use lib.Seq.{sets, length-take-le}
use borrow.Author.Tests.{le-ltb}
use Rattle.lists.specs.Lists.{all, has, add_new, joined, rotated}
use Rattle.lists.proofs.All.{all_has, all_rotated}
use Rattle.lists.proofs.Arrays.{pad_nil, pad_take}
use Rattle.lists.proofs.Elements.{replicate_all}
use Rattle.lists.proofs.Joined.{pad_sets}
use Rattle.lists.proofs.Counted.{counted_more, counted_none}
use Rattle.grid.specs.Cells.{shows}
use Rattle.grid.proofs.Places.{few_cells}
use Rattle.grid.specs.Window.{neighbours, Board}
use Rattle.grid.proofs.Neighbours.{neighbours_nodup, neighbours_few}
use Rattle.blocks.specs.Blocks.{BlockEquation, Block}
use Rattle.blocks.specs.declared.BlockSet.{BlockSet}
use Rattle.blocks.specs.BlockSets.{all_cells, all_equations, slots_of, slot_cells, Small, block_set}
use Rattle.blocks.proofs.Filling.{cells_push, equations_push}
use Rattle.blocks.proofs.Behind.{small_first, full_slots, full_rests, block_fits, cells_fit, equations_fit, put_block}
use Rattle.sources.specs.Sources.{closed_beside, sources, shares}
use Rattle.sources.specs.Reading.{Read, slots_meet, Cells}
use Rattle.sources.specs.Equations.{rest_at}
use Rattle.sources.proofs.SourceLaws.{source_below}
use Rattle.sources.proofs.ReadSlots.{read_held, read_meets, all_read}
use Rattle.sources.proofs.ReadSources.{all_open_lem, sources_listed, all_listed, listed_cells}
use Rattle.growth.specs.Growth.{grown, block_sources}
use Rattle.growth.proofs.Growing.{grown_found, grown_left, grown_some, block_sources_ext}
use Rattle.filling.specs.Places.{Placed}
use Rattle.filling.proofs.SortedSlots.{slots_in_order}
use Rattle.frontier.specs.Frontier.{equation_of, cells_met, block_of, frontier}
use Rattle.frontier.proofs.Coverage.{frontier_small}
use Rattle.frontier.proofs.BlockLaws.{block_equations}
use Rattle.frontier.proofs.WrittenBlock.{cells_joined, cells_end, cells_written, slots_written, rests_written}

-- the first n of `left` are the sources left, and the struct s holds the blocks done, k cells and e equations
pub record BlocksSoFar (edgeless : Bool) (rows columns : ℕ) (p beside left : List ℕ) (n : ℕ) (places : List ℕ) (s : BlockSet) (k e : ℕ) : Type 0 where
  pub done : List Block
  pub held : s ≡ block_set done
  pub cells_counted : k ≡ length (all_cells done)
  pub equations_counted : e ≡ length (all_equations done)
  pub placed : Placed k k places s.cells
  pub left_cells_lem : Cells left n
  pub left_sources : all (source_below (neighbours edgeless rows columns) p (rows * columns)) (take n left) ≡ true
  pub bound : ℕ
  pub enough : n ≤ bound
  pub whole : done ++ map (block_of (neighbours edgeless rows columns) p) (block_sources (slots_meet beside) bound (take n left))
      ≡ frontier (neighbours edgeless rows columns) p

-- there is room for the block of the m sources found, and they are open cells of the board
pub record NextFits (rows columns : ℕ) (p beside found : List ℕ) (m : ℕ) (slots rests : List ℕ) (k e blocks : ℕ) : Type 0 where
  pub some : 1 ≤ m
  pub slots_long : length slots ≡ 8192
  pub rests_long : length rests ≡ 1024
  pub cells_room : k + length (add_new [] (joined (map (slot_cells beside) (take m found)))) ≤ 1024
  pub equations_room : e + m ≤ 1024
  pub block_room : blocks < 1024
  pub are_open : all (λ c. ltb c (rows * columns) && leb (shows p c) 8) (take m found) ≡ true

-- ---- the places of cells

-- places for the cells of a block that has none yet: none of the cells before is one of the block's
placed_none : {start k : ℕ} {places cells : List ℕ} → Placed start k places cells → Placed k k places cells
placed_none {k = k} {places = places} {cells = cells} q = record {
  long = q.long;
  filled = q.filled;
  begins = omega arith;
  few = q.few;
  member = λ d. rw (counted_none cells k k (omega arith), le-ltb k (get_or places d 0) (q.most d));
  place = λ i h. absurd (omega arith);
  most = q.most;
}

placed_nothing : Placed 0 0 (replicate 1024 0) (replicate 1024 0)
placed_nothing = record {
  long = length-replicate {A = ℕ} 1024 0;
  filled = pad_nil 1024 0;
  begins = omega arith;
  few = omega arith;
  member = λ d. sym (le-ltb 0 (get_or (replicate 1024 0) d 0) (none 1024 d));
  place = λ i h. absurd (omega arith);
  most = none 1024;
}
  where
    none : (n d : ℕ) → get_or (replicate n 0) d 0 ≤ 0
    none n = replicate_all (λ (i v : ℕ). v ≤ 0) n 0 0 (λ i h. omega arith) (λ i h. omega arith)

-- ---- the sources of each block

blocks_none : (share : ℕ → ℕ → Bool) (bound : ℕ) → block_sources share bound [] ≡ []
blocks_none share zero = refl
blocks_none share (suc bound) = refl

-- those of the first block, and those of the others
blocks_next : (share : ℕ → ℕ → Bool) (bound c : ℕ) (l : List ℕ) → 0 < bound
    → block_sources share bound (c ∷ l) ≡ (grown share c l).found ∷ block_sources share (bound - 1) (rotated (grown share c l).left)
blocks_next share zero c l h = absurd (omega arith)
blocks_next share (suc bound) c l h =
    let less : bound ≡ suc bound - 1 = omega arith in
    ap (λ (k : ℕ). (grown share c l).found ∷ block_sources share k (rotated (grown share c l).left)) less

module _ (edgeless : Bool) {rows columns : ℕ} {p beside list : List ℕ} {len : ℕ} (board : Board p rows columns)
    (read : Read (neighbours edgeless rows columns) p (rows * columns) beside list len) where
  abbrev near : ℕ → List ℕ
  near = neighbours edgeless rows columns

  -- a source of the board
  abbrev is_read : ℕ → Bool
  is_read = source_below near p (rows * columns)

  -- the frontier fits into the struct
  fits : Small (frontier near p)
  fits =
      frontier_small near p (neighbours_nodup edgeless rows columns)
      (λ c _. neighbours_few edgeless rows columns c)
      (omega (arith, board.whole, few_cells board.sized))

  -- ---- no block is done

  -- the slots give the sources of the blocks
  read_block_sources : (k : ℕ) → block_sources (slots_meet beside) k (sources near p) ≡ block_sources (shares near p) k (sources near p)
  read_block_sources k = block_sources_ext is_read (slots_meet beside) (shares near p) (read_meets edgeless board read) k (sources near p) (all_read edgeless board read)

  pub none_so_far : BlocksSoFar edgeless rows columns p beside list len (replicate 1024 0) (block_set []) 0 0
  unfolding block_set frontier
  none_so_far = record {
    done = [];
    held = refl;
    cells_counted = refl;
    equations_counted = refl;
    placed = placed_nothing;
    left_cells_lem = listed_cells edgeless board read;
    left_sources = all_listed edgeless board read;
    bound = length p;
    enough = omega (arith, read.few, board.whole);
    whole = rw (sources_listed edgeless board read) (ap (map (block_of near p)) (read_block_sources (length p)));
  }

  -- ---- some blocks are done

  module _ {left : List ℕ} {n : ℕ} {places : List ℕ} {s : BlockSet} {k e : ℕ} (b : BlocksSoFar edgeless rows columns p beside left n places s k e) where
    -- no source is left: all are
    pub all_so_far : n ≤ 0 → s ≡ block_set (frontier near p)
    all_so_far h =
        let none : n ≡ 0 = omega arith in
        let whole : b.done ++ [] ≡ frontier near p = rw blocks_none at (rw none at b.whole) in
        b.held ∙ ap block_set (sym (append-nil b.done) ∙ whole)

    -- ---- a block grows

    module _ (some : 0 < n) where
      -- the first source left, and the others
      abbrev own : ℕ
      own = get_or left 0 0

      abbrev others : List ℕ
      others = drop 1 (take n left)

      own_first : take n left ≡ own ∷ others
      own_first = counted_more left n 0 0 some (omega (arith, b.left_cells_lem.long, b.left_cells_lem.few))

      all_sources : all is_read (own ∷ others) ≡ true
      all_sources = rw own_first at b.left_sources

      -- the code has found the m sources of the first one's block, and r are left with that one before them
      module _ {found left' : List ℕ} {m r : ℕ} (found_cells : Cells found m) (left_cells_lem : Cells left' r)
          (found_is : take m found ≡ (grown (slots_meet beside) own others).found)
          (left_is : take r left' ≡ own ∷ (grown (slots_meet beside) own others).left) where
        abbrev part : List ℕ
        part = take m found

        part_sources : all is_read part ≡ true
        part_sources = rw found_is (grown_found (slots_meet beside) own others is_read all_sources)

        part_held : (c : ℕ) → has part c ≡ true → slot_cells beside c ≡ closed_beside near p c
        part_held c h = read_held edgeless board read c (all_has is_read part part_sources c h)

        length_part : length part ≡ m
        length_part = length-take-le m found (omega (arith, found_cells.long, found_cells.few))

        some_found : 1 ≤ m
        some_found = omega (arith, length_part, ap length found_is, grown_some (slots_meet beside) own others)

        -- the sources that go on, the last of them first
        abbrev rest : List ℕ
        rest = rotated (drop 1 (take r left'))

        others_left : drop 1 (take r left') ≡ (grown (slots_meet beside) own others).left
        others_left = ap (drop 1) left_is

        rest_sources : all is_read rest ≡ true
        rest_sources = all_rotated is_read (drop 1 (take r left')) (rw others_left (grown_left (slots_meet beside) own others is_read all_sources))

        parts_next : block_sources (slots_meet beside) b.bound (take n left) ≡ part ∷ block_sources (slots_meet beside) (b.bound - 1) rest
        parts_next = rw (own_first, found_is, others_left) (blocks_next (slots_meet beside) b.bound own others (omega (arith, b.enough)))

        -- the block found, and with it and the blocks of the sources that go on the whole frontier
        abbrev next : Block
        next = block_of near p part

        whole_next : b.done ++ (next ∷ map (block_of near p) (block_sources (slots_meet beside) (b.bound - 1) rest)) ≡ frontier near p
        whole_next = ap (λ (ls : List (List ℕ)). b.done ++ map (block_of near p) ls) (sym parts_next) ∙ b.whole

        -- which fits, so there is room for the block
        next_small : Small (b.done ++ (next ∷ []))
        next_small =
            small_first (b.done ++ (next ∷ [])) (map (block_of near p) (block_sources (slots_meet beside) (b.bound - 1) rest))
            (rw (append_assoc b.done (next ∷ []) (map (block_of near p) (block_sources (slots_meet beside) (b.bound - 1) rest)), whole_next) fits)

        cells_same : add_new [] (joined (map (slot_cells beside) part)) ≡ next.cells
        cells_same = cells_written near p beside part part_held

        length_equations : length next.equations ≡ m
        length_equations = ap length (block_equations near p part) ∙ length-map part (equation_of near p (cells_met near p part)) ∙ length_part

        pub next_fits : NextFits rows columns p beside found m s.slots s.rests k e s.blocks
        unfolding block_set
        next_fits = record {
          some = some_found;
          slots_long = full_slots s b.done b.held (small_first b.done (next ∷ []) next_small);
          rests_long = full_rests s b.done b.held (small_first b.done (next ∷ []) next_small);
          cells_room = rw cells_same (omega (arith, cells_fit b.done next next_small, b.cells_counted));
          equations_room = omega (arith, equations_fit b.done next next_small, b.equations_counted, length_equations);
          block_room = rw b.held (block_fits b.done next next_small);
          are_open = all_open_lem edgeless board read part part_sources;
        }

        -- ---- it is written

        module _ {places' cells' slots' rests' left'' : List ℕ} {k' e' n' : ℕ}
            (placed : Placed k k' places' cells') (kept : take k cells' ≡ take k s.cells)
            (added : drop k (take k' cells') ≡ add_new [] (joined (map (slot_cells beside) part)))
            (e'_is : e' ≡ e + m)
            (slots_is : slots' ≡ sets s.slots (e * 8) (joined (map (slots_in_order places' beside) part)))
            (rests_is : rests' ≡ sets s.rests e (map (rest_at near p) part))
            (next_cells : Cells left'' n') (left_next : take n' left'' ≡ rest) (sizes : r + m ≡ n + 1) (n'_is : n' ≡ r - 1) where
          cells_before : take k cells' ≡ all_cells b.done
          unfolding block_set
          cells_before = kept ∙ rw (b.held, b.cells_counted) (pad_take 1024 0 (all_cells b.done))

          cells_set : cells' ≡ sets s.cells (length (all_cells b.done)) next.cells
          unfolding block_set
          cells_set =
              cells_joined placed (all_cells b.done) next.cells cells_before (added ∙ cells_same)
              ∙ rw b.held (sym (pad_sets 1024 0 (all_cells b.done) next.cells (cells_fit b.done next next_small)))

          cells_now : k' ≡ length (all_cells b.done) + length next.cells
          cells_now = cells_end placed next.cells (added ∙ cells_same) ∙ ap (λ (i : ℕ). i + length next.cells) b.cells_counted

          equations_now : e' ≡ length (all_equations b.done) + length next.equations
          equations_now = omega (arith, b.equations_counted, length_equations)

          slots_now : slots' ≡ sets s.slots (length (all_equations b.done) * 8) (joined (map slots_of next.equations))
          slots_now =
              slots_is
              ∙ rw (← b.equations_counted, slots_written near p beside part part_held (neighbours_nodup edgeless rows columns) placed (added ∙ cells_same))

          rests_now : rests' ≡ sets s.rests (length (all_equations b.done)) (map (λ (x : BlockEquation). x.rest) next.equations)
          rests_now = rests_is ∙ rw (← b.equations_counted, rests_written near p beside part part_held)

          pub one_more : BlocksSoFar edgeless rows columns p beside left'' n' places'
              record {
                cells = cells';
                cell_ends = set s.cell_ends s.blocks k';
                slots = slots';
                rests = rests';
                equation_ends = set s.equation_ends s.blocks e';
                blocks = s.blocks + 1;
              }
              k' e'
          unfolding block_set
          one_more = record {
            done = b.done ++ (next ∷ []);
            held = rw (cells_set, cells_now, equations_now, slots_now, rests_now) (put_block s b.done next b.held next_small);
            cells_counted = cells_now ∙ sym (ap length (cells_push b.done next) ∙ length-append (all_cells b.done) next.cells);
            equations_counted = equations_now ∙ sym (ap length (equations_push b.done next) ∙ length-append (all_equations b.done) next.equations);
            placed = placed_none placed;
            left_cells_lem = next_cells;
            left_sources = rw left_next rest_sources;
            bound = b.bound - 1;
            enough = omega (arith, some_found, b.enough);
            whole = append_assoc b.done (next ∷ []) _ ∙ rw left_next whole_next;
          }
