-- What the code's floods tell. Once the zeros before a zero are flooded, it is closed exactly where it is the first of its opening (`first_closed`); and once all
-- zeros are, the safe cells that are closed are the lone ones (`closed_lone`). `near` is mutual and lists cells of the board. Rests on Opened and on the laws of the
-- flood. Assumes nothing.
use mathlib.Core.Path.{◌≡◌, refl, sym, ap, ◌∙◌}
use mathlib.Core.Logic.{inl, inr, ◌≢◌}
use mathlib.Core.Bool.{Bool, true, false, not, ◌&&◌}
use mathlib.Core.List.{List, [], ◌∷◌}
use Prim.Native.Nat.{ℕ, ◌+◌, ◌≤◌, ◌<◌}
use native.Mathlib.Omega.{arith}
use lib.Dec.{eqb, ltb}
use lib.ListN.{length, get_or}
use borrow.Author.Tests.{eqb-true, eqb-false, eq-eqb, ne_eqb, ltb-true, lt-ltb, not-true}
use Rattle.lists.specs.Lists.{range, bit, any, count, keep, has}
use Rattle.lists.proofs.Tests.{Decided, decided, clash, same_test, and_left, and_right}
use Rattle.lists.proofs.Members.{has_one, range_in, in_range, kept_passes, kept_has, has_kept}
use Rattle.lists.proofs.Counts.{any_at, any_of, count_ext}
use Rattle.lists.proofs.Elements.{get_d_any}
use Rattle.lists.proofs.Kept.{keep_range_push, keep_range_pass, count_range_push}
use Rattle.grid.specs.Cells.{cell_of, shows}
use Rattle.fitting.specs.Boards.{Accepted}
use Rattle.fitting.specs.Passes.{open_cells}
use Rattle.flood.specs.Reached.{Reached, in_list, beside_zero}
use Rattle.flood.proofs.SoFar.{not_ten, reached_more, reached_from_one}
use Rattle.flood.proofs.Reached.{flood_length, flood_nothing, flood_passes, flood_twice}
use Rattle.bbbv.specs.Openings.{is_zero, all_closed, opens, is_first, is_lone, lone_cells}
use Rattle.bbbv.specs.Flooded.{flooded, is_closed_safe, closed_safe}
use Rattle.bbbv.proofs.Opened.{closed_at, all_closed_length, reached_on, reached_shown, open_reached, opens_reached}

-- the zeros among the first c cells
abbrev pub zeros_before : List ℕ → ℕ → List ℕ
zeros_before b c = keep (is_zero b) (range 0 c)

zero_before : (b : List ℕ) (c d : ℕ) → d < c → cell_of b d ≡ 0 → has (zeros_before b c) d ≡ true
zero_before b c d l z = has_kept (is_zero b) (range 0 c) d (eq-eqb (cell_of b d) 0 z) (in_range 0 c d (omega arith) (omega arith))

before_zero : (b : List ℕ) (c d : ℕ) → has (zeros_before b c) d ≡ true → cell_of b d ≡ 0
before_zero b c d h = eqb-true (cell_of b d) 0 (kept_passes (is_zero b) (range 0 c) d h)

-- what the loop over the zeros has come to before the cell c: the zeros before it are flooded, and so many of them were first ones
abbrev pub FloodedTo : (ℕ → List ℕ) → List ℕ → ℕ → List ℕ → ℕ → Type 0
FloodedTo near b c position found = (position ≡ flooded near b c) × (found ≡ count (is_first near b) (range 0 c))

module _ (near : ℕ → List ℕ) (b : List ℕ) (ok : Accepted near b) (few : (c : ℕ) → c < length b → length (near c) ≤ 8) where
  -- ---- one cell after another

  pub flooded_none : flooded near b 0 ≡ all_closed b
  unfolding flooded
  flooded_none = flood_nothing near b ok few (all_closed b) (all_closed_length b)

  pub flooded_length : (c : ℕ) → length (flooded near b c) ≡ length b
  unfolding flooded
  flooded_length c = flood_length near b ok few (all_closed b) (all_closed_length b) (zeros_before b c)

  -- a zero is flooded from
  pub flooded_zero : (c : ℕ) → cell_of b c ≡ 0 → open_cells near b (flooded near b c) (c ∷ []) ≡ flooded near b (c + 1)
  unfolding flooded
  flooded_zero c z =
      flood_twice near b ok few (all_closed b) (all_closed_length b) (zeros_before b c) (c ∷ [])
      ∙ ap (open_cells near b (all_closed b)) (sym (keep_range_push (is_zero b) c (eq-eqb (cell_of b c) 0 z)))

  -- which does nothing where it is open
  pub flooded_open : (c : ℕ) → cell_of b c ≡ 0 → shows (flooded near b c) c ≢ 10 → flooded near b c ≡ flooded near b (c + 1)
  flooded_open c z shown = sym (flood_passes near b ok few (flooded near b c) (flooded_length c) c shown) ∙ flooded_zero c z

  -- any other cell is passed over
  pub flooded_other : (c : ℕ) → cell_of b c ≢ 0 → flooded near b c ≡ flooded near b (c + 1)
  unfolding flooded
  flooded_other c n = ap (open_cells near b (all_closed b)) (sym (keep_range_pass (is_zero b) c (ne_eqb (cell_of b c) 0 n)))

  -- ---- a first zero is one that is closed

  module _ (c : ℕ) (on : c < length b) (z : cell_of b c ≡ 0) where
    opened_before : any (λ d. is_zero b d && opens near b d c) (range 0 c) ≡ not (eqb (shows (flooded near b c) c) 10)
    unfolding flooded
    opened_before = same_test (any by (range 0 c)) (not (eqb (shows q c) 10)) there back
      where
        by : ℕ → Bool
        by d = is_zero b d && opens near b d c

        q : List ℕ
        q = open_cells near b (all_closed b) (zeros_before b c)

        reached_by : (d : ℕ) → (opens near b d c ≡ true → Reached near b (all_closed b) (d ∷ []) c) × (Reached near b (all_closed b) (d ∷ []) c → opens near b d c ≡ true)
        reached_by d = opens_reached near b ok few d c on (omega (arith, z))

        there : any by (range 0 c) ≡ true → not (eqb (shows q c) 10) ≡ true
        there h =
            let (d, m, t) = any_at by (range 0 c) h in
            let zero_d = eqb-true (cell_of b d) 0 (and_left (is_zero b d) (opens near b d c) t) in
            let from = (reached_by d).0 (and_right (is_zero b d) (opens near b d c) t) in
            let reached : Reached near b (all_closed b) (zeros_before b c) c = reached_more near b (all_closed b) {cs = d ∷ []} (λ e k. rw (has_one d e k) (zero_before b c d (omega (arith, range_in 0 c d m)) zero_d)) from in
            rw (ne_eqb (shows q c) 10 (λ e. omega (arith, e, z, reached_shown near b ok few (zeros_before b c) c reached)))

        back : not (eqb (shows q c) 10) ≡ true → any by (range 0 c) ≡ true
        back h =
            let shown = eqb-false (shows q c) 10 (not-true (eqb (shows q c) 10) h) in
            let (d, m, from) = reached_from_one near b (all_closed b) (zeros_before b c) (open_reached near b ok few (zeros_before b c) c on shown) in
            any_of by (range 0 c) d (kept_has (is_zero b) (range 0 c) d m) (rw (kept_passes (is_zero b) (range 0 c) d m) ((reached_by d).1 from))

    pub first_closed : is_first near b c ≡ eqb (shows (flooded near b c) c) 10
    unfolding is_first
    first_closed = rw (eq-eqb (cell_of b c) 0 z, opened_before) (twice (eqb (shows (flooded near b c) c) 10))
      where
        twice : (t : Bool) → not (not t) ≡ t
        twice true = refl
        twice false = refl

  pub first_none : (c : ℕ) → cell_of b c ≢ 0 → is_first near b c ≡ false
  unfolding is_first
  first_none c n = rw (ne_eqb (cell_of b c) 0 n)

  -- ---- the loop over the zeros

  pub flooded_start : (position : List ℕ) → position ≡ all_closed b → FloodedTo near b 0 position 0
  flooded_start position e = (e ∙ sym flooded_none, refl)

  pub flooded_whole : (c : ℕ) (position : List ℕ) (found : ℕ) → FloodedTo near b c position found → length position ≡ length b
  flooded_whole c position found done = ap length done.0 ∙ flooded_length c

  module _ (c : ℕ) (position : List ℕ) (found : ℕ) (done : FloodedTo near b c position found) where
    counted : (t : Bool) → is_first near b c ≡ t → found + bit t ≡ count (is_first near b) (range 0 (c + 1))
    counted t e = count_range_push (is_first near b) c found t done.1 e

    -- a zero that is closed is a first one, and is flooded from
    pub flooded_first : c < length b → cell_of b c ≡ 0 → shows position c ≡ 10 → FloodedTo near b (c + 1) (open_cells near b position (c ∷ [])) (found + 1)
    flooded_first on z shut =
        (rw done.0 (flooded_zero c z), counted true (first_closed c on z ∙ eq-eqb (shows (flooded near b c) c) 10 (rw done.0 at shut)))

    -- one that is open is not
    pub flooded_later : c < length b → cell_of b c ≡ 0 → shows position c ≢ 10 → FloodedTo near b (c + 1) position found
    flooded_later on z shown =
        let open_already : shows (flooded near b c) c ≢ 10 = λ e. shown (rw done.0 e) in (
          done.0 ∙ flooded_open c z open_already,
          omega (arith, counted false (first_closed c on z ∙ ne_eqb (shows (flooded near b c) c) 10 open_already)),
        )

    -- nor is any other cell
    pub flooded_past : cell_of b c ≢ 0 → FloodedTo near b (c + 1) position found
    flooded_past n = (done.0 ∙ flooded_other c n, omega (arith, counted false (first_none c n)))

  -- ---- a lone cell is a safe one that is closed in the end

  module _ (both_ways : (c d : ℕ) → c < length b → has (near c) d ≡ true → has (near d) c ≡ true)
      (within : (c d : ℕ) → c < length b → has (near c) d ≡ true → d < length b) where
    lone_closed : (c : ℕ) → c < length b → is_closed_safe b (flooded near b (length b)) c ≡ is_lone near b c
    unfolding flooded
    lone_closed c on = same_test (is_closed_safe b q c) (is_lone near b c) there back
      where
        n : ℕ
        n = length b

        q : List ℕ
        q = open_cells near b (all_closed b) (zeros_before b n)

        -- what is reached from the zeros is not closed
        not_closed : Reached near b (all_closed b) (zeros_before b n) c → shows q c ≢ 10
        not_closed r e = not_ten near b ok c on (sym (reached_shown near b ok few (zeros_before b n) c r) ∙ e)

        reached_zero : (d : ℕ) → d < n → cell_of b d ≡ 0 → Reached near b (all_closed b) (zeros_before b n) d
        reached_zero d l e = in_list (zero_before b n d l e) (closed_at b d l)

        safe : Bool
        safe = not (eqb (cell_of b c) 255)

        beside : Bool
        beside = any (is_zero b) (near c)

        there : (safe && eqb (shows q c) 10) ≡ true → ((ltb 0 (cell_of b c) && safe) && not beside) ≡ true
        there h = rw (lt-ltb 0 (cell_of b c) (positive (decided (is_zero b c))), and_left safe (eqb (shows q c) 10) h, apart (decided beside))
          where
            shut : shows q c ≡ 10
            shut = eqb-true (shows q c) 10 (and_right safe (eqb (shows q c) 10) h)

            positive : Decided (is_zero b c) → 0 < cell_of b c
            positive (inl z) = absurd (not_closed (reached_zero c on (eqb-true (cell_of b c) 0 z)) shut)
            positive (inr z) = omega (arith, eqb-false (cell_of b c) 0 z)

            apart : Decided beside → beside ≡ false
            apart (inr e) = e
            apart (inl e) =
                let (d, touches, t) = any_at (is_zero b) (near c) e in
                let z = eqb-true (cell_of b d) 0 t in
                absurd (not_closed (beside_zero (reached_zero d (within c d on touches) z) z (both_ways c d on touches) (closed_at b c on)) shut)

        back : ((ltb 0 (cell_of b c) && safe) && not beside) ≡ true → (safe && eqb (shows q c) 10) ≡ true
        back h = rw (and_right (ltb 0 (cell_of b c)) safe number) (shut (decided (eqb (shows q c) 10)))
          where
            number : (ltb 0 (cell_of b c) && safe) ≡ true
            number = and_left (ltb 0 (cell_of b c) && safe) (not beside) h

            -- a number that touches no 0 is not reached
            unreached : Reached near b (all_closed b) (zeros_before b n) c → ⊥
            unreached (in_list m _) = omega (arith, before_zero b n c m, ltb-true 0 (cell_of b c) (and_left (ltb 0 (cell_of b c)) safe number))
            unreached (beside_zero {c = d} r z touches _) =
                let back_again = both_ways d c (reached_on near b (zeros_before b n) r) touches in
                clash beside (any_of (is_zero b) (near c) d back_again (eq-eqb (cell_of b d) 0 z)) (not-true beside (and_right (ltb 0 (cell_of b c) && safe) (not beside) h))

            shut : Decided (eqb (shows q c) 10) → eqb (shows q c) 10 ≡ true
            shut (inl e) = e
            shut (inr e) = absurd (unreached (open_reached near b ok few (zeros_before b n) c on (eqb-false (shows q c) 10 e)))

    pub closed_lone : closed_safe b (flooded near b (length b)) ≡ lone_cells near b
    unfolding closed_safe lone_cells
    closed_lone = count_ext (is_closed_safe b (flooded near b (length b))) (is_lone near b) (range 0 (length b)) (λ c h. lone_closed c (omega (arith, range_in 0 (length b) c h)))

-- ---- the loop over the safe cells, as the code reads them

module _ (b p : List ℕ) (c : ℕ) where
  pub closed_safe_counts : c < length p → cell_of b c ≢ 255 → get_or p c 0 ≡ 10 → is_closed_safe b p c ≡ true
  closed_safe_counts on safe shut = rw (ne_eqb (cell_of b c) 255 safe, eq-eqb (shows p c) 10 (get_d_any p c 255 0 on ∙ shut))

  pub open_passes : c < length p → cell_of b c ≢ 255 → get_or p c 0 ≢ 10 → is_closed_safe b p c ≡ false
  open_passes on safe shown = rw (ne_eqb (cell_of b c) 255 safe, ne_eqb (shows p c) 10 (λ e. shown (get_d_any p c 0 255 on ∙ e)))

  pub mine_passes : cell_of b c ≡ 255 → is_closed_safe b p c ≡ false
  mine_passes mine = rw (eq-eqb (cell_of b c) 255 mine)
