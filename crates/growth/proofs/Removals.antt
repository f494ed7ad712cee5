-- The scan of the sources left, from the last to the first: those that pass are removed, the last one moving into each gap, and join the sources found. The
-- idea: when the scan has come down to place t, the first t are as they were, and what stands behind them is what `removed` leaves of the others. The only step
-- is a removal by the last element. Rests on the laws of rotated lists. Assumes nothing.
use mathlib.Core.Path.{◌≡◌, refl, sym, ap, ◌∙◌}
use mathlib.Core.Bool.{Bool, true, false, cond}
use mathlib.Core.List.{List, [], ◌∷◌, ◌++◌, append_assoc, append-nil, reverse, reverse-cons}
use Prim.Native.Nat.{ℕ, suc, ◌+◌, ◌-◌, ◌≤◌, ◌<◌}
use native.Mathlib.Numerals.{add-one}
use native.Mathlib.Omega.{arith}
use lib.Dec.{ltb}
use lib.ListN.{length, get_or, take, drop, set, length-set, get_or-append}
use lib.Seq.{take-suc, drop-cons, take-length, take-take, take-suc-set, get_or-take, length-take-le}
use borrow.Author.Tests.{ltb-true}
use Rattle.lists.specs.Lists.{keep, all, rotated}
use Rattle.lists.proofs.Arrays.{drop_none}
use Rattle.lists.proofs.Counted.{rest_more}
use Rattle.lists.proofs.All.{all_at, all_head, all_tail, all_joined, all_keep, all_reverse, all_take, all_drop, all_rotated}
use Rattle.lists.proofs.Rotated.{swap_remove}
use Rattle.sources.specs.Reading.{Cells}
use Rattle.growth.specs.Growth.{removed}

pub all_removed : (p f : ℕ → Bool) (l : List ℕ) → all p l ≡ true → all p (removed f l) ≡ true
all_removed p f [] h = refl
all_removed p f (x ∷ l) h = go (f x) (all_removed p f l (all_tail p x l h))
  where
    go : (t : Bool) → all p (removed f l) ≡ true → all p (cond t (rotated (removed f l)) (x ∷ removed f l)) ≡ true
    go true ih = all_rotated p (removed f l) ih
    go false ih = rw (all_head p x l h) ih

-- ---- the scan

-- `left` and `found` with their counts, when the scan of the list l has come down to place t; k were found before
pub record Scanned (f : ℕ → Bool) (l k : List ℕ) (t : ℕ) (left : List ℕ) (n : ℕ) (found : List ℕ) (len : ℕ) : Type 0 where
  pub within : t ≤ length l
  pub left_long : length left ≡ 1024
  pub left_few : n ≤ 1024
  pub left_list : take n left ≡ take t l ++ removed f (drop t l)
  pub found_long : length found ≡ 1024
  pub found_few : len ≤ 1024
  pub found_list : take len found ≡ k ++ reverse (keep f (drop t l))

module _ {f : ℕ → Bool} {l k : List ℕ} {t : ℕ} {left : List ℕ} {n : ℕ} {found : List ℕ} {len : ℕ} (s : Scanned f l k t left n found len) where
  -- what the arrays hold is on the board, as what they held before
  pub scan_cells : all (λ d. ltb d 1024) l ≡ true → all (λ d. ltb d 1024) k ≡ true → Cells left n × Cells found len
  scan_cells a b =
      (record { long = s.left_long; few = s.left_few; on_board = left_on }, record { long = s.found_long; few = s.found_few; on_board = found_on })
    where
      p : ℕ → Bool
      p d = ltb d 1024

      rest_on : all p (drop t l) ≡ true
      rest_on = all_drop p t l a

      left_on : all p (take n left) ≡ true
      left_on = rw s.left_list (all_joined p (take t l) (removed f (drop t l)) (all_take p t l a) (all_removed p f (drop t l) rest_on))

      found_on : all p (take len found) ≡ true
      found_on =
          rw s.found_list (all_joined p k (reverse (keep f (drop t l))) b (all_reverse p (keep f (drop t l)) ∙ all_keep p f (drop t l) rest_on))

  -- a turn: x is the next source, at place u
  module _ {u x : ℕ} (next : t ≡ suc u) (fits : t ≤ n) (at : x ≡ get_or left u 0) where
    same : x ≡ get_or l u 0
    same =
        at
        ∙ sym (get_or-take n left u 0 (omega arith))
        ∙ ap (λ (a : List ℕ). get_or a u 0) s.left_list
        ∙ get_or-append (take t l) (removed f (drop t l)) 0 u (omega (arith, length-take-le t l s.within))
        ∙ get_or-take t l u 0 (omega arith)

    pub scan_on : all (λ d. ltb d 1024) l ≡ true → x < 1024
    scan_on h = rw same (ltb-true (get_or l u 0) 1024 (all_at (λ d. ltb d 1024) l u 0 h (omega (arith, s.within))))

    rest : drop u l ≡ x ∷ drop t l
    rest = rw (same, next) (drop-cons l u 0 (omega (arith, s.within)))

    first : take t l ≡ take u l ++ (x ∷ [])
    first = rw (same, next) (take-suc l u 0 (omega (arith, s.within)))

    held : take n left ≡ take u l ++ (x ∷ removed f (drop t l))
    held = s.left_list ∙ rw first (append_assoc (take u l) (x ∷ []) (removed f (drop t l)))

    -- it stays
    pub scan_pass : f x ≡ false → Scanned f l k u left n found len
    scan_pass h =
        record {
          within = omega (arith, s.within);
          left_long = s.left_long;
          left_few = s.left_few;
          left_list = held ∙ rw (rest, h);
          found_long = s.found_long;
          found_few = s.found_few;
          found_list = s.found_list ∙ rw (rest, h);
        }

    -- it goes
    pub scan_take : f x ≡ true → len < 1024 → Scanned f l k u (set left u (get_or left (n - 1) 0)) (n - 1) (set found len x) (len + 1)
    scan_take h room =
        record {
          within = omega (arith, s.within);
          left_long = length-set left u (get_or left (n - 1) 0) ∙ s.left_long;
          left_few = omega (arith, s.left_few);
          left_list = swap_remove left n u 0 (take u l) x (removed f (drop t l)) (omega (arith, s.left_few, s.left_long)) held passed ∙ rw (rest, h);
          found_long = length-set found len x ∙ s.found_long;
          found_few = omega arith;
          found_list = rw (add-one len) (take-suc-set found len x (omega (arith, s.found_long)))
              ∙ ap (λ (a : List ℕ). a ++ (x ∷ [])) s.found_list
              ∙ append_assoc k (reverse (keep f (drop t l))) (x ∷ [])
              ∙ rw (rest, h) (ap (λ (a : List ℕ). k ++ a) (sym (reverse-cons x (keep f (drop t l)))));
        }
      where
        passed : length (take u l) ≡ u
        passed = length-take-le u l (omega (arith, s.within))

-- the scan ends at the second
pub scan_ends : {f : ℕ → Bool} (left₀ : List ℕ) (n₀ : ℕ) {k left : List ℕ} {n : ℕ} {found : List ℕ} {len : ℕ} → 1 ≤ n₀
    → Scanned f (take n₀ left₀) k 1 left n found len → take n left ≡ take 1 left₀ ++ removed f (drop 1 (take n₀ left₀))
scan_ends {f} left₀ n₀ some s =
    s.left_list ∙ ap (λ (l : List ℕ). l ++ removed f (drop 1 (take n₀ left₀))) (take-take 1 n₀ left₀ some)

-- ---- the first goes

module _ {left : List ℕ} {n : ℕ} (cells : Cells left n) (some : 1 ≤ n) where
  pub first_dropped : take (n - 1) (set left 0 (get_or left (n - 1) 0)) ≡ rotated (drop 1 (take n left))
  first_dropped =
      let fits : n ≤ length left = omega (arith, cells.long, cells.few) in
      swap_remove left n 0 0 [] (get_or left 0 0) (drop 1 (take n left)) fits (rest_more left n 0 (get_or left 0 0) fits some refl) refl
