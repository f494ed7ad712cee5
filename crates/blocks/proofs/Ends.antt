-- Where the parts of a joined list end, and the parts read back by their ends. A part is the list `f b` of a block b, and f any function to lists, so the
-- laws serve for cells and for equations. The laws of joined lists say what is read between two ends. Assumes nothing.
use mathlib.Core.Path.{◌≡◌, refl, ap, ◌∙◌}
use mathlib.Core.List.{List, [], ◌∷◌, ◌++◌, map, append-nil}
use Prim.Native.Nat.{ℕ, zero, suc, ◌+◌, ◌-◌, ◌<◌}
use native.Mathlib.Nat.{not-suc-le-zero, le_of_suc-le-suc, add-zero, zero-add, add_assoc}
use native.Mathlib.Omega.{arith}
use lib.ListN.{length, get_or, take, length-append}
use lib.Seq.{take-suc}
use Rattle.lists.specs.Lists.{range, joined, pad}
use Rattle.lists.proofs.Arrays.{pad_read}
use Rattle.lists.proofs.Joined.{read_range, joined_push, part_within, part_slice}
use Rattle.blocks.specs.BlockSets.{ends_from, begin_at, part_at}

-- ---- the ends in an array with a count

pub begin_padded : (n : ℕ) (ends : List ℕ) (k : ℕ) → begin_at (pad n 0 ends) k ≡ begin_at ends k
begin_padded n ends zero = refl
begin_padded n ends (suc k) = pad_read n 0 ends k

pub part_padded : (n : ℕ) (ends : List ℕ) (k : ℕ) → part_at (pad n 0 ends) k ≡ part_at ends k
part_padded n ends k = rw (begin_padded n ends k, pad_read n 0 ends k)

module _ {A B : Type 0} (f : B → List A) where
  -- where the parts of some blocks end
  abbrev pub ends_of : List B → List ℕ
  ends_of bs = ends_from 0 (map (λ (b : B). length (f b)) bs)

  -- ---- one part more

  push_from : (n : ℕ) (bs : List B) (b : B)
      → ends_from n (map (λ (x : B). length (f x)) (bs ++ (b ∷ []))) ≡ ends_from n (map (λ (x : B). length (f x)) bs) ++ ((n + length (joined (map f bs)) + length (f b)) ∷ [])
  push_from n [] b = rw add-zero
  push_from n (x ∷ bs) b =
      rw (push_from (n + length (f x)) bs b, length-append (f x) (joined (map f bs)), ← add_assoc n (length (f x)) (length (joined (map f bs))))

  pub ends_push : (bs : List B) (b : B) → ends_of (bs ++ (b ∷ [])) ≡ ends_of bs ++ ((length (joined (map f bs)) + length (f b)) ∷ [])
  ends_push bs b = push_from 0 bs b ∙ rw zero-add

  -- ---- the parts by their ends

  end_from : (n : ℕ) (bs : List B) (k : ℕ) → k < length bs → get_or (ends_from n (map (λ (x : B). length (f x)) bs)) k 0 ≡ n + length (joined (map f (take (suc k) bs)))
  end_from n [] k h = absurd (not-suc-le-zero h)
  end_from n (b ∷ bs) zero h = rw append-nil
  end_from n (b ∷ bs) (suc k) h =
      omega (arith, end_from (n + length (f b)) bs k (le_of_suc-le-suc h), length-append (f b) (joined (map f (take (suc k) bs))))

  -- a part begins behind the parts before it
  pub begin_of : (bs : List B) (k : ℕ) → k < length bs → begin_at (ends_of bs) k ≡ length (joined (map f (take k bs)))
  begin_of bs zero h = refl
  begin_of bs (suc k) h = end_from 0 bs k (omega arith) ∙ zero-add (length (joined (map f (take (suc k) bs))))

  module _ (bs : List B) (k : ℕ) (d : B) (h : k < length bs) where
    pub end_of : get_or (ends_of bs) k 0 ≡ length (joined (map f (take k bs))) + length (f (get_or bs k d))
    end_of =
        end_from 0 bs k h
        ∙ zero-add (length (joined (map f (take (suc k) bs))))
        ∙ ap (λ (l : List B). length (joined (map f l))) (take-suc bs k d h)
        ∙ ap length (joined_push f (take k bs) (get_or bs k d))
        ∙ length-append (joined (map f (take k bs))) (f (get_or bs k d))

    -- a part's places, by its ends
    pub part_places : part_at (ends_of bs) k ≡ range (length (joined (map f (take k bs)))) (length (f (get_or bs k d)))
    part_places =
        let n : get_or (ends_of bs) k 0 - begin_at (ends_of bs) k ≡ length (f (get_or bs k d)) = omega (arith, end_of, begin_of bs k h) in
        rw (n, begin_of bs k h)

    -- what is read at a part's places is the part
    pub part_read : (z : A) → map (λ (i : ℕ). get_or (joined (map f bs)) i z) (part_at (ends_of bs) k) ≡ f (get_or bs k d)
    part_read z =
        ap (map (λ (i : ℕ). get_or (joined (map f bs)) i z)) part_places
        ∙ read_range (joined (map f bs)) z (length (joined (map f (take k bs)))) (length (f (get_or bs k d))) (part_within f bs k d h)
        ∙ part_slice f bs k d h
