-- That the openings are counted right: `openings` is the number of connected groups of zeros. Zeros are joined either way round, and a flood from a zero opens
-- exactly the zeros joined with it (`opens_joined`); so each zero is joined with a first zero (`zero_first`), one alone (`one_first`), since no two first zeros are
-- joined (`firsts_apart`): they are one of each group. Any other list with one of each is as long, and `bbbv` is the 3BV (`bbbv_counts`). `near` is mutual.
-- Rests on Opened. Assumes nothing.
use mathlib.Core.Path.{◌≡◌, sym, ap, ◌∙◌}
use mathlib.Core.Logic.{◌⊎◌, inl, inr, ◌↔◌}
use mathlib.Core.Bool.{Bool, true, false, not, ◌&&◌}
use mathlib.Core.List.{List, [], ◌∷◌}
use Prim.Native.Nat.{ℕ, zero, suc, ◌+◌, ◌≤◌, ◌<◌}
use native.Mathlib.Omega.{arith}
use native.Mathlib.Decide.{dec_lt}
use lib.ListN.{length}
use borrow.Author.Tests.{eqb-true, eq-eqb, not-true, not-false}
use Rattle.lists.specs.Lists.{range, any, keep, has}
use Rattle.lists.proofs.Tests.{Decided, decided, clash, and_left, and_right, and_cases}
use Rattle.lists.proofs.Members.{range_in, in_range, range_nodup, has_head, has_one, kept_passes, kept_has, has_kept, nodup_keep}
use Rattle.lists.proofs.Counts.{any_at, any_of, length_keep}
use Rattle.lists.proofs.Paired.{paired_length}
use Rattle.grid.specs.Cells.{cell_of}
use Rattle.fitting.specs.Boards.{Accepted}
use Rattle.flood.specs.Reached.{Reached, in_list, beside_zero}
use Rattle.bbbv.specs.Openings.{is_zero, all_closed, opens, is_first, openings, lone_cells, bbbv}
use Rattle.bbbv.specs.Groups.{Zero, JoinedByZeros, itself, onward, OneOfEach, IsBbbv}
use Rattle.bbbv.proofs.Opened.{closed_at, reached_on, opens_reached}

module _ (near : ℕ → List ℕ) (b : List ℕ) where
  last_zero : {c d : ℕ} → JoinedByZeros near b c d → Zero b d
  last_zero (itself z) = z
  last_zero (onward j h z) = z

  first_zero_lem : {c d : ℕ} → JoinedByZeros near b c d → Zero b c
  first_zero_lem (itself z) = z
  first_zero_lem (onward j h z) = first_zero_lem j

  pub joined_on : {c d e : ℕ} → JoinedByZeros near b c d → JoinedByZeros near b d e → JoinedByZeros near b c e
  joined_on j (itself z) = j
  joined_on j (onward k h z) = onward (joined_on j k) h z

  -- the first zeros, in order
  abbrev pub first_zeros : List ℕ
  first_zeros = keep (is_first near b) (range 0 (length b))

  module _ (ok : Accepted near b) (few : (c : ℕ) → c < length b → length (near c) ≤ 8)
      (both_ways : (c d : ℕ) → c < length b → has (near c) d ≡ true → has (near d) c ≡ true) where
    pub joined_back : {c d : ℕ} → JoinedByZeros near b c d → JoinedByZeros near b d c
    joined_back (itself z) = itself z
    joined_back (onward {d = d} {e = e} j h z) = joined_on (onward (itself z) (both_ways d e (last_zero j).on_board h) (last_zero j)) (joined_back j)

    -- ---- what a flood from a zero opens

    reached_joined : {d c : ℕ} → Zero b d → Reached near b (all_closed b) (d ∷ []) c → Zero b c → JoinedByZeros near b d c
    reached_joined {d} z (in_list {c = c} h e) w = rw (has_one d c h) (itself z)
    reached_joined {d} z (beside_zero {c = c} r q h e) w = onward (reached_joined z r (record { on_board = reached_on near b (d ∷ []) r; zero = q })) h w

    joined_reached : {d c : ℕ} → JoinedByZeros near b d c → Reached near b (all_closed b) (d ∷ []) c
    joined_reached (itself {c = c} z) = in_list (has_head c []) (closed_at b c z.on_board)
    joined_reached (onward {e = e} j h z) = beside_zero (joined_reached j) (last_zero j).zero h (closed_at b e z.on_board)

    pub opens_joined : (d c : ℕ) → Zero b d → Zero b c → (opens near b d c ≡ true) ↔ JoinedByZeros near b d c
    opens_joined d c z w =
        let reached = opens_reached near b ok few d c w.on_board (omega (arith, w.zero)) in
        (λ h. reached_joined z (reached.0 h) w, λ j. reached.1 (joined_reached j))

    -- ---- one first zero for each zero

    -- an earlier zero opens the cell c
    abbrev opened_before : ℕ → Bool
    opened_before c = any (λ d. is_zero b d && opens near b d c) (range 0 c)

    first_is_zero : (f : ℕ) → f < length b → is_first near b f ≡ true → Zero b f
    unfolding is_first
    first_is_zero f l h = record { on_board = l; zero = eqb-true (cell_of b f) 0 (and_left (is_zero b f) (not (opened_before f)) h) }

    not_joined_before : (c f : ℕ) → c < f → JoinedByZeros near b c f → is_first near b f ≡ true → ⊥
    unfolding is_first
    not_joined_before c f l j first =
        let z = first_zero_lem j in
        let opened : (is_zero b c && opens near b c f) ≡ true = rw (eq-eqb (cell_of b c) 0 z.zero) ((opens_joined c f z (last_zero j)).1 j) in
        clash (opened_before f) (any_of (λ d. is_zero b d && opens near b d f) (range 0 f) c (in_range 0 f c (omega arith) (omega arith)) opened)
        (not-true (opened_before f) (and_right (is_zero b f) (not (opened_before f)) first))

    pub firsts_apart : (f g : ℕ) → is_first near b f ≡ true → is_first near b g ≡ true → JoinedByZeros near b f g → f ≡ g
    firsts_apart f g first_f first_g j = go (dec_lt f g) (dec_lt g f)
      where
        go : Dec (f < g) → Dec (g < f) → f ≡ g
        go (yes l) _ = absurd (not_joined_before f g l j first_g)
        go (no _) (yes l) = absurd (not_joined_before g f l (joined_back j) first_f)
        go (no m) (no n) = omega (arith, m, n)

    -- the first zero of a zero's opening: itself, or that of an earlier zero which opens it
    abbrev First : ℕ → Type 0
    First c = (f : ℕ) × (f < length b) × (is_first near b f ≡ true) × JoinedByZeros near b f c

    first_of : (k c : ℕ) → c < k → Zero b c → First c
    unfolding is_first
    first_of zero c l z = absurd (omega arith)
    first_of (suc k) c l z = go (first_of k) (decided (is_first near b c))
      where
        go : ((d : ℕ) → d < k → Zero b d → First d) → Decided (is_first near b c) → First c
        go below (inl e) = (c, z.on_board, e, itself z)
        go below (inr e) = earlier (and_cases (is_zero b c) (not (opened_before c)) e)
          where
            earlier : (is_zero b c ≡ false) ⊎ (not (opened_before c) ≡ false) → First c
            earlier (inl x) = clash (is_zero b c) (eq-eqb (cell_of b c) 0 z.zero) x
            earlier (inr x) =
                let (d, h, t) = any_at (λ d. is_zero b d && opens near b d c) (range 0 c) (not-false (opened_before c) x) in
                let before = range_in 0 c d h in
                let is = eqb-true (cell_of b d) 0 (and_left (is_zero b d) (opens near b d c) t) in
                let w : Zero b d = record { on_board = omega (arith, before, z.on_board); zero = is } in
                let (f, on, first, j) = below d (omega (arith, before)) w in
                (f, on, first, joined_on j ((opens_joined d c w z).0 (and_right (is_zero b d) (opens near b d c) t)))

    pub zero_first : (c : ℕ) → Zero b c → (f : ℕ) × (has first_zeros f ≡ true) × JoinedByZeros near b f c
    zero_first c z =
        let (f, on, first, j) = first_of (suc c) c (omega arith) z in
        (f, has_kept (is_first near b) (range 0 (length b)) f first (in_range 0 (length b) f (omega arith) (omega arith)), j)

    -- and with no other
    pub one_first : (c f g : ℕ) → is_first near b f ≡ true → is_first near b g ≡ true → JoinedByZeros near b f c → JoinedByZeros near b g c → f ≡ g
    one_first c f g first_f first_g j k = firsts_apart f g first_f first_g (joined_on j (joined_back k))

    -- ---- as many first zeros as groups

    pub firsts_one_of_each : OneOfEach near b first_zeros
    firsts_one_of_each = record {
      once = nodup_keep (is_first near b) (range 0 (length b)) (range_nodup 0 (length b));
      zeros = λ f h. first_is_zero f (omega (arith, range_in 0 (length b) f (kept_has (is_first near b) (range 0 (length b)) f h))) (is_first_lem f h);
      some = zero_first;
      apart = λ f g h k. firsts_apart f g (is_first_lem f h) (is_first_lem g k);
    }
      where
        is_first_lem : (f : ℕ) → has first_zeros f ≡ true → is_first near b f ≡ true
        is_first_lem f h = kept_passes (is_first near b) (range 0 (length b)) f h

    -- of two lists with one zero of each group none is longer
    not_longer : (k l : List ℕ) → OneOfEach near b k → OneOfEach near b l → length k ≤ length l
    not_longer k l each other =
        paired_length (λ c f. JoinedByZeros near b f c) k l each.once (λ c h. other.some c (each.zeros c h))
        (λ c d f h m j i. each.apart c d h m (joined_on (joined_back j) i))

    pub bbbv_counts : IsBbbv near b (bbbv near b)
    unfolding openings bbbv
    bbbv_counts = record {
      listed = (first_zeros, firsts_one_of_each);
      counted = λ l each.
          let as_many : length first_zeros ≡ length l = omega (arith, not_longer first_zeros l firsts_one_of_each each, not_longer l first_zeros each firsts_one_of_each) in
          ap (λ (n : ℕ). n + lone_cells near b) (sym (length_keep (is_first near b) (range 0 (length b))) ∙ as_many);
    }
