-- The closed cells are those of the frontier and those beside no open cell, the inside cells, and none is both; so the mines of a layout that fits
-- are the known ones, those on the frontier and those on the inside cells. `near` is mutual on the board: an open cell that lists a closed one stands
-- beside it. Rests on Coverage of the crate frontier. Assumes nothing.
use mathlib.Core.Path.{◌≡◌, ap, ◌∙◌}
use mathlib.Core.Logic.{◌⊎◌, inl, inr}
use mathlib.Core.Bool.{Bool, true, false, not, ◌&&◌, ◌||◌}
use mathlib.Core.List.{List, ◌++◌}
use Prim.Native.Nat.{ℕ, ◌+◌, ◌≤◌, ◌<◌}
use native.Mathlib.Omega.{arith}
use lib.Dec.{leb, eqb}
use lib.ListN.{length}
use borrow.Author.Tests.{eqb-true, eq-eqb, leb-true, le-leb, not-true}
use Rattle.lists.specs.Lists.{range, keep, count, any, has, nodup}
use Rattle.lists.proofs.Tests.{Decided, decided, clash, same_test, and_left, and_right}
use Rattle.lists.proofs.Members.{has_append, has_keep, kept_passes, has_kept, nodup_keep, nodup_append, in_range, range_nodup}
use Rattle.lists.proofs.Counts.{count_ext, count_append, count_split, count_kept, count_same, length_keep, any_at, any_of}
use Rattle.lists.proofs.Rearranged.{Rearranged}
use Rattle.lists.proofs.Unions.{append_cases}
use Rattle.lists.proofs.PlacesAndRanges.{count_places}
use Rattle.grid.specs.Cells.{shows}
use Rattle.fitting.specs.Layouts.{mine_at, Fits}
use Rattle.fitting.specs.Equations.{is_closed, is_known_mine}
use Rattle.fitting.proofs.Layouts.{on_board}
use Rattle.blocks.specs.BlockSets.{all_cells}
use Rattle.frontier.specs.Frontier.{frontier, inside_cells, known_mines}
use Rattle.frontier.proofs.Coverage.{frontier_closed, frontier_beside_open, beside_open_frontier, frontier_once}
use Rattle.totals.specs.Totals.{is_inside}

module _ (near : ℕ → List ℕ) (p : List ℕ) where
  -- ---- the inside cells

  -- in the order of the board
  abbrev pub inside_list : List ℕ
  inside_list = keep (is_inside near p) (range 0 (length p))

  pub inside_closed : (c : ℕ) → is_inside near p c ≡ true → shows p c ≡ 10
  inside_closed c h = eqb-true (shows p c) 10 (and_left (is_closed p c) _ h)

  -- a closed cell is listed on the board
  closed_listed : (c : ℕ) → shows p c ≡ 10 → has (range 0 (length p)) c ≡ true
  closed_listed c e = in_range 0 (length p) c (omega arith) (omega (arith, on_board p c (omega arith)))

  pub inside_listed : (c : ℕ) → is_inside near p c ≡ true → has inside_list c ≡ true
  inside_listed c h = has_kept (is_inside near p) (range 0 (length p)) c h (closed_listed c (inside_closed c h))

  pub listed_inside : (c : ℕ) → has inside_list c ≡ true → is_inside near p c ≡ true
  listed_inside c h = kept_passes (is_inside near p) (range 0 (length p)) c h

  pub inside_once : nodup inside_list ≡ true
  inside_once = nodup_keep (is_inside near p) (range 0 (length p)) (range_nodup 0 (length p))

  -- as many as `inside_cells` counts
  pub inside_length : length inside_list ≡ inside_cells near p
  unfolding inside_cells
  inside_length = length_keep (is_inside near p) (range 0 (length p))

  -- ---- the known mines

  module _ (m : List Bool) (fit : Fits near p m) where
    -- a cell that is not closed has a mine exactly where one is known
    not_closed_known : (c : ℕ) → (not (is_closed p c) && mine_at m c) ≡ is_known_mine p c
    not_closed_known c = same_test (not (is_closed p c) && mine_at m c) (is_known_mine p c) there back
      where
        shut : not (is_closed p c) ≡ true → (shows p c ≡ 10) ⊎ (shows p c ≡ 11) → is_known_mine p c ≡ true
        shut n (inl e) = clash (is_closed p c) (eq-eqb (shows p c) 10 e) (not-true (is_closed p c) n)
        shut n (inr e) = eq-eqb (shows p c) 11 e

        there : (not (is_closed p c) && mine_at m c) ≡ true → is_known_mine p c ≡ true
        there h = shut (and_left (not (is_closed p c)) (mine_at m c) h) (fit.only c (and_right (not (is_closed p c)) (mine_at m c) h))

        back : is_known_mine p c ≡ true → (not (is_closed p c) && mine_at m c) ≡ true
        back h =
            let e : shows p c ≡ 11 = eqb-true (shows p c) 11 h in
            rw (e, fit.known c e)

    -- a layout's mines are the known ones and those on the closed cells
    mines_known_closed : count (λ x. x) m ≡ known_mines p + count (mine_at m) (keep (is_closed p) (range 0 (length p)))
    unfolding known_mines
    mines_known_closed =
        omega (
          arith,
          count_places (λ x. x) m false,
          ap (λ (n : ℕ). count (mine_at m) (range 0 n)) fit.sized,
          count_split (mine_at m) (is_closed p) (range 0 (length p)),
          count_kept (mine_at m) (λ c. not (is_closed p c)) (range 0 (length p)),
          count_ext (λ c. not (is_closed p c) && mine_at m c) (is_known_mine p) (range 0 (length p)) (λ c _. not_closed_known c),
          count_places (λ (v : ℕ). eqb v 11) p 255,
        )

    -- so the known ones are no more than all
    pub known_at_most : known_mines p ≤ count (λ x. x) m
    known_at_most = omega (arith, mines_known_closed)

  -- ---- the closed cells

  module _ (mutually : (c d : ℕ) → d < length p → has (near d) c ≡ true → has (near c) d ≡ true) where
    -- a cell of the frontier isn't inside
    pub frontier_not_inside : (c : ℕ) → has (all_cells (frontier near p)) c ≡ true → is_inside near p c ≡ false
    frontier_not_inside c h =
        let (d, o, k) = frontier_beside_open near p c h in
        let open_beside : any (λ x. leb (shows p x) 8) (near c) ≡ true =
        any_of (λ x. leb (shows p x) 8) (near c) d (mutually c d (on_board p d (omega arith)) k) (le-leb (shows p d) 8 o) in
        rw (eq-eqb (shows p c) 10 (frontier_closed near p c h), open_beside)

    -- an inside cell isn't of the frontier
    pub inside_not_frontier : (c : ℕ) → is_inside near p c ≡ true → has (all_cells (frontier near p)) c ≡ false
    inside_not_frontier c h = go (decided (has (all_cells (frontier near p)) c))
      where
        go : Decided (has (all_cells (frontier near p)) c) → has (all_cells (frontier near p)) c ≡ false
        go (inl e) = clash (is_inside near p c) h (frontier_not_inside c e)
        go (inr e) = e

    -- a closed cell is inside or of the frontier
    pub closed_cell : (c : ℕ) → shows p c ≡ 10 → (is_inside near p c ≡ true) ⊎ (has (all_cells (frontier near p)) c ≡ true)
    closed_cell c e = go (decided (any (λ x. leb (shows p x) 8) (near c)))
      where
        go : Decided (any (λ x. leb (shows p x) 8) (near c)) → (is_inside near p c ≡ true) ⊎ (has (all_cells (frontier near p)) c ≡ true)
        go (inr a) = inl (rw (eq-eqb (shows p c) 10 e, a))
        go (inl a) =
            let (d, k, o) = any_at (λ x. leb (shows p x) 8) (near c) a in
            inr (beside_open_frontier near p c d e (leb-true (shows p d) 8 o) (mutually d c (on_board p c (omega arith)) k))

    -- so the closed cells are those of the frontier and the inside cells, in another order
    pub closed_rearranged : Rearranged (keep (is_closed p) (range 0 (length p))) (all_cells (frontier near p) ++ inside_list)
    closed_rearranged f =
        count_same f (keep (is_closed p) (range 0 (length p))) (all_cells (frontier near p) ++ inside_list)
        (nodup_keep (is_closed p) (range 0 (length p)) (range_nodup 0 (length p)))
        (nodup_append (all_cells (frontier near p)) inside_list (frontier_once near p) inside_once
        (λ c h. has_keep (is_inside near p) (range 0 (length p)) c ∙ rw (frontier_not_inside c h)))
        (λ c. same_test (has (keep (is_closed p) (range 0 (length p))) c) (has (all_cells (frontier near p) ++ inside_list) c) (there c) (back c))
      where
        side : (c : ℕ) → (is_inside near p c ≡ true) ⊎ (has (all_cells (frontier near p)) c ≡ true)
            → (has (all_cells (frontier near p)) c || has inside_list c) ≡ true
        side c (inl e) = rw (inside_not_frontier c e) (inside_listed c e)
        side c (inr e) = rw e

        there : (c : ℕ) → has (keep (is_closed p) (range 0 (length p))) c ≡ true → has (all_cells (frontier near p) ++ inside_list) c ≡ true
        there c h =
            has_append (all_cells (frontier near p)) inside_list c
            ∙ side c (closed_cell c (eqb-true (shows p c) 10 (kept_passes (is_closed p) (range 0 (length p)) c h)))

        shown : (c : ℕ) → (has (all_cells (frontier near p)) c ≡ true) ⊎ (has inside_list c ≡ true) → shows p c ≡ 10
        shown c (inl e) = frontier_closed near p c e
        shown c (inr e) = inside_closed c (listed_inside c e)

        back : (c : ℕ) → has (all_cells (frontier near p) ++ inside_list) c ≡ true → has (keep (is_closed p) (range 0 (length p))) c ≡ true
        back c h =
            let e : shows p c ≡ 10 = shown c (append_cases (all_cells (frontier near p)) inside_list c h) in
            has_kept (is_closed p) (range 0 (length p)) c (eq-eqb (shows p c) 10 e) (closed_listed c e)

    -- a layout's mines are the known ones, those on the frontier's cells and those on the inside cells
    pub mines_parted : (m : List Bool) → Fits near p m
        → count (λ x. x) m ≡ known_mines p + (count (mine_at m) (all_cells (frontier near p)) + count (mine_at m) inside_list)
    mines_parted m fit =
        omega (
          arith,
          mines_known_closed m fit,
          closed_rearranged (mine_at m),
          count_append (mine_at m) (all_cells (frontier near p)) inside_list,
        )
