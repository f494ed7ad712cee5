-- How a block grows: a turn of the loop over the sources found is a step of `grow`, which needs no more steps once its queue is empty. What a block
-- has and what it leaves was there before, and it has a source. And the sources of the blocks depend on who shares with whom only at the sources
-- themselves. Rests on the laws of removals. Assumes nothing.
use mathlib.Core.Path.{◌≡◌, refl, sym, ap, ◌∙◌}
use mathlib.Core.Bool.{Bool, true}
use mathlib.Core.List.{List, [], ◌∷◌, ◌++◌, append-nil, reverse}
use Prim.Native.Nat.{ℕ, zero, suc, ◌+◌, ◌≤◌, ◌<◌}
use native.Mathlib.Numerals.{add-one}
use native.Mathlib.Omega.{arith}
use lib.ListN.{length, get_or, take, drop, set, length-append, length-set, length-take, length-drop}
use lib.Seq.{take-suc, take-take, take-suc-set, take-append-le, drop-append-le, length-take-le}
use borrow.Author.Tests.{lt-ltb}
use Rattle.lists.specs.Lists.{keep, all, has, rotated}
use Rattle.lists.proofs.Members.{has_head, has_tail}
use Rattle.lists.proofs.Counted.{rest_more, rest_below, counted_none}
use Rattle.lists.proofs.All.{all_head, all_tail, all_push, all_joined, all_keep, all_reverse, all_rotated, all_has}
use Rattle.lists.proofs.Kept.{keep_ext}
use Rattle.sources.specs.Reading.{Cells}
use Rattle.growth.specs.Growth.{removed, Grown, grow, grown, block_sources}
use Rattle.growth.proofs.Removals.{all_removed}

-- ---- the turns

-- with an empty queue, any number of steps is enough
grow_empty : (share : ℕ → ℕ → Bool) (k : ℕ) (done left : List ℕ) → grow share k done [] left ≡ record { found = done; left = left }
grow_empty share zero done left = ap (λ (l : List ℕ). record { found = l; left = left }) (append-nil done)
grow_empty share (suc k) done left = refl

-- the first h found are done; with k steps more the block is whole. The block's own source stands first in `left`
pub record Growing (share : ℕ → ℕ → Bool) (block : Grown) (own k h : ℕ) (left : List ℕ) (n : ℕ) (found : List ℕ) (len : ℕ) : Type 0 where
  pub within : h ≤ len
  pub first : take n left ≡ own ∷ drop 1 (take n left)
  pub grows : grow share k (take h found) (drop h (take len found)) (drop 1 (take n left)) ≡ block

-- a source found is on the board
pub found_on : {found : List ℕ} {len h x : ℕ} → Cells found len → h < len → x ≡ get_or found h 0 → x < 1024
found_on {found} {len} {h} {x} cells more at = rest_below found len h x (omega (arith, cells.long, cells.few)) more at 1024 cells.on_board

pub grow_begins : (share : ℕ → ℕ → Bool) {left : List ℕ} {n : ℕ} (found : List ℕ) → Cells left n → 1 ≤ n → length found ≡ 1024
    → Growing share (grown share (get_or left 0 0) (drop 1 (take n left))) (get_or left 0 0) n 0 left n (set found 0 (get_or left 0 0)) 1
grow_begins share {left} {n} found cells some long =
    let own = get_or left 0 0 in
    let others = drop 1 (take n left) in
    let steps : n ≡ suc (length others) = omega (arith, length-drop 1 (take n left), length-take-le n left (omega (arith, cells.long, cells.few))) in
    record {
      within = omega arith;
      first = rest_more left n 0 own (omega (arith, cells.long, cells.few)) some refl;
      grows = ap (λ (l : List ℕ). grow share n [] l others) (take-suc-set found 0 own (omega arith)) ∙ ap (λ (k : ℕ). grow share k [] (own ∷ []) others) steps;
    }

module _ {share : ℕ → ℕ → Bool} {block : Grown} {own k h : ℕ} {left : List ℕ} {n : ℕ} {found : List ℕ} {len : ℕ} (few : len ≤ length found) where
  -- the next source found is x; those that share with it are taken
  pub grow_turn : Growing share block own (suc k) h left n found len → 1 ≤ n → h < len → (x : ℕ) → x ≡ get_or found h 0
      → (left' : List ℕ) (n' : ℕ) → take n' left' ≡ take 1 left ++ removed (share x) (drop 1 (take n left))
      → (found' : List ℕ) (len' : ℕ) → take len' found' ≡ take len found ++ reverse (keep (share x) (drop 1 (take n left)))
      → Growing share block own k (h + 1) left' n' found' len'
  grow_turn s some more x at left' n' left_is found' len' found_is =
      record {
        within = omega (arith, longer);
        first = kept ∙ ap (λ (l : List ℕ). own ∷ drop 1 l) (sym kept);
        grows = rw (done, queue, kept) (rw (rest_more found len h x few more at) at s.grows);
      }
    where
      taken : List ℕ
      taken = reverse (keep (share x) (drop 1 (take n left)))

      long : length (take len found) ≡ len
      long = length-take-le len found few

      longer : len ≤ len'
      longer = omega (arith, length-take len' found', ap length found_is, length-append (take len found) taken, long)

      kept : take n' left' ≡ own ∷ removed (share x) (drop 1 (take n left))
      kept = left_is ∙ rw (sym (take-take 1 n left some) ∙ ap (take 1) s.first)

      done : take (h + 1) found' ≡ take h found ++ (x ∷ [])
      done =
          sym (take-take (h + 1) len' found' (omega (arith, longer)))
          ∙ ap (take (h + 1)) found_is
          ∙ take-append-le (h + 1) (take len found) taken (omega (arith, long))
          ∙ take-take (h + 1) len found (omega arith)
          ∙ rw (add-one h, at) (take-suc found h 0 (omega arith))

      queue : drop (h + 1) (take len' found') ≡ drop (h + 1) (take len found) ++ taken
      queue = ap (drop (h + 1)) found_is ∙ drop-append-le (h + 1) (take len found) taken (omega (arith, long))

  -- no source found is left to be done
  pub grow_ends : Growing share block own k h left n found len → len ≤ h → (take len found ≡ block.found) × (take n left ≡ own ∷ block.left)
  grow_ends s end = (ap (λ (b : Grown). b.found) whole, s.first ∙ ap (λ (b : Grown). own ∷ b.left) whole)
    where
      all : h ≡ len
      all = omega (arith, s.within)

      whole : record { found = take len found; left = drop 1 (take n left) } ≡ block
      whole =
          sym (grow_empty share k (take len found) (drop 1 (take n left)))
          ∙ rw (all, counted_none found len len (omega arith)) at s.grows

-- ---- who shares with whom, outside the sources

removed_ext : (f g : ℕ → Bool) (l : List ℕ) → ((c : ℕ) → has l c ≡ true → f c ≡ g c) → removed f l ≡ removed g l
removed_ext f g [] h = refl
removed_ext f g (x ∷ l) h = rw (h x (has_head x l), removed_ext f g l (λ c e. h c (has_tail x l c e)))

-- what is left to other blocks was there
grow_left : (p : ℕ → Bool) (share : ℕ → ℕ → Bool) (k : ℕ) (done queue left : List ℕ) → all p left ≡ true → all p (grow share k done queue left).left ≡ true
grow_left p share zero done queue left h = h
grow_left p share (suc k) done [] left h = h
grow_left p share (suc k) done (c ∷ queue) left h =
    grow_left p share k (done ++ (c ∷ [])) (queue ++ reverse (keep (share c) left)) (removed (share c) left) (all_removed p (share c) left h)

-- what the block has was there too
grow_found : (p : ℕ → Bool) (share : ℕ → ℕ → Bool) (k : ℕ) (done queue left : List ℕ) → all p done ≡ true → all p queue ≡ true → all p left ≡ true
    → all p (grow share k done queue left).found ≡ true
grow_found p share zero done queue left a b h = all_joined p done queue a b
grow_found p share (suc k) done [] left a b h = a
grow_found p share (suc k) done (c ∷ queue) left a b h =
    grow_found p share k (done ++ (c ∷ [])) (queue ++ reverse (keep (share c) left)) (removed (share c) left)
    (all_push p done c a (all_head p c queue b))
    (all_joined p queue (reverse (keep (share c) left)) (all_tail p c queue b) (all_reverse p (keep (share c) left) ∙ all_keep p (share c) left h))
    (all_removed p (share c) left h)

-- it has no fewer sources than were done or in the queue
grow_longer : (share : ℕ → ℕ → Bool) (k : ℕ) (done queue left : List ℕ) → length done + length queue ≤ length (grow share k done queue left).found
grow_longer share zero done queue left = omega (arith, length-append done queue)
grow_longer share (suc k) done [] left = omega arith
grow_longer share (suc k) done (c ∷ queue) left =
    omega (
      arith,
      grow_longer share k (done ++ (c ∷ [])) (queue ++ reverse (keep (share c) left)) (removed (share c) left),
      length-append done (c ∷ []),
      length-append queue (reverse (keep (share c) left)),
    )

module _ (share : ℕ → ℕ → Bool) (c : ℕ) (l : List ℕ) where
  -- so what passes a test at c and at the others passes it in the block of c and in what is left
  module _ (p : ℕ → Bool) (h : all p (c ∷ l) ≡ true) where
    pub grown_found : all p (grown share c l).found ≡ true
    grown_found = grow_found p share (suc (length l)) [] (c ∷ []) l refl (rw (all_head p c l h)) (all_tail p c l h)

    pub grown_left : all p (grown share c l).left ≡ true
    grown_left = grow_left p share (suc (length l)) [] (c ∷ []) l (all_tail p c l h)

  -- and the block has a source
  pub grown_some : 1 ≤ length (grown share c l).found
  grown_some = omega (arith, grow_longer share (suc (length l)) [] (c ∷ []) l)

-- f and g agree on any two that pass the test p
module _ (p : ℕ → Bool) (f g : ℕ → ℕ → Bool) (agree : (x y : ℕ) → p x ≡ true → p y ≡ true → f x y ≡ g x y) where
  same_with : (c : ℕ) (l : List ℕ) → p c ≡ true → all p l ≡ true → (d : ℕ) → has l d ≡ true → f c d ≡ g c d
  same_with c l a b d e = agree c d a (all_has p l b d e)

  pub grow_ext : (k : ℕ) (done queue left : List ℕ) → all p queue ≡ true → all p left ≡ true → grow f k done queue left ≡ grow g k done queue left
  grow_ext zero done queue left a b = refl
  grow_ext (suc k) done [] left a b = refl
  grow_ext (suc k) done (c ∷ queue) left a b =
      let same = same_with c left (all_head p c queue a) b in
      grow_ext k (done ++ (c ∷ [])) (queue ++ reverse (keep (f c) left)) (removed (f c) left)
      (all_joined p queue (reverse (keep (f c) left)) (all_tail p c queue a) (all_reverse p (keep (f c) left) ∙ all_keep p (f c) left b))
      (all_removed p (f c) left b)
      ∙ rw (keep_ext (f c) (g c) left same, removed_ext (f c) (g c) left same)

  pub block_sources_ext : (k : ℕ) (l : List ℕ) → all p l ≡ true → block_sources f k l ≡ block_sources g k l
  block_sources_ext zero l h = refl
  block_sources_ext (suc k) [] h = refl
  block_sources_ext (suc k) (c ∷ l) h =
      let one : all p (c ∷ []) ≡ true = rw (all_head p c l h) in
      let same : grown f c l ≡ grown g c l = grow_ext (suc (length l)) [] (c ∷ []) l one (all_tail p c l h) in
      let left : all p (grown f c l).left ≡ true = grown_left f c l p h in
      ap (λ (r : List (List ℕ)). (grown f c l).found ∷ r) (block_sources_ext k (rotated (grown f c l).left) (all_rotated p (grown f c l).left left))
      ∙ ap (λ (b : Grown). b.found ∷ block_sources g k (rotated b.left)) same
