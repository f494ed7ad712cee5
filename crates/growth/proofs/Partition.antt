-- `block_sources` parts the sources of a position: each source stands in one part, once; two sources that share a closed cell stand in the same part;
-- and within a part each source is joined to the first, so no part is empty and none could be parted further. Rests on GrownBlocks. Assumes nothing.
use mathlib.Core.Path.{◌≡◌, refl, sym, ap, ◌∙◌}
use mathlib.Core.Logic.{◌⊎◌, inl, inr}
use mathlib.Core.Bool.{true, false, not}
use mathlib.Core.List.Memᴰ
use mathlib.Core.List.{List, [], ◌∷◌, Memᴰ}
use Prim.Native.Nat.{ℕ, zero, suc, ◌≤◌}
use native.Mathlib.Omega.{arith}
use lib.ListN.{length}
use Rattle.lists.specs.Lists.{count, all, empty, has, nodup, joined, rotated}
use Rattle.lists.proofs.Tests.{clash}
use Rattle.lists.proofs.Counts.{count_append}
use Rattle.lists.proofs.Rearranged.{Rearranged, count_all, rearranged_length, rearranged_has, rearranged_nodup, rotated_rearranged}
use Rattle.lists.proofs.Unions.{append_cases, last_cases, all_of, mem_joined, joined_mem, mem_has, has_mem, many_joined, meets_turned}
use Rattle.sources.specs.Sources.{closed_beside, sources, shares}
use Rattle.sources.proofs.ListedSources.{sources_once, sources_few}
use Rattle.growth.specs.Growth.{Grown, grow, block_sources}
use Rattle.growth.proofs.GrownBlocks.{Apart, Joined, self, grow_counts, grow_begins, grow_apart, grow_joined}

-- a list of sources isn't empty, and each is joined to the first within the list
abbrev pub Connected : (ℕ → List ℕ) → List ℕ → List ℕ → Type 0
Connected near p [] = ⊥
Connected near p (c ∷ l) = (b : ℕ) → has (c ∷ l) b ≡ true → Joined near p (c ∷ l) c b

-- no source of one list shares a closed cell with a source of a later one
abbrev pub Separate : (ℕ → List ℕ) → List ℕ → List (List ℕ) → Type 0
Separate near p [] = Unit {0}
Separate near p (l ∷ ls) = Apart near p l (joined ls) × Separate near p ls

module _ (near : ℕ → List ℕ) (p : List ℕ) where
  -- ---- one part

  -- the part of the first source, and the sources left over
  abbrev first : ℕ → List ℕ → Grown
  first c l = grow (shares near p) (suc (length l)) [] (c ∷ []) l

  -- those in the order in which they go on
  abbrev others : ℕ → List ℕ → List ℕ
  others c l = rotated (first c l).left

  others_rearranged : (c : ℕ) (l : List ℕ) → Rearranged (others c l) (first c l).left
  others_rearranged c l = rotated_rearranged (first c l).left

  first_connected : (c : ℕ) (l : List ℕ) → Connected near p (first c l).found
  first_connected c l = let (more, e) = grow_begins near p (suc (length l)) [] (c ∷ []) l in
      rw e (λ b h.
      grow_joined near p (c ∷ more) c (suc (length l)) [] (c ∷ []) l (λ d x. rw e at x) (λ d x. clash false x refl)
      (λ d x. only more d (last_cases [] c d x)) b (rw e h))
    where
      only : (more : List ℕ) (d : ℕ) → (has [] d ≡ true) ⊎ (d ≡ c) → Joined near p (c ∷ more) c d
      only more d (inl x) = clash false x refl
      only more d (inr x) = rw x self

  -- fewer are left than there were
  others_fewer : (c : ℕ) (l : List ℕ) → length (others c l) ≤ length l
  others_fewer c l = let (more, e) = grow_begins near p (suc (length l)) [] (c ∷ []) l in
      omega (
        arith,
        rearranged_length (others c l) (first c l).left (others_rearranged c l),
        grow_counts near p (λ _. true) (suc (length l)) [] (c ∷ []) l,
        count_all (first c l).left,
        count_all l,
        ap (count (λ _. true)) e,
      )

  -- ---- all parts of a list of sources, with a step for each

  -- a greater bound changes nothing: it is never met
  pub blocks_enough : (k : ℕ) (l : List ℕ) → length l ≤ k → block_sources (shares near p) (suc k) l ≡ block_sources (shares near p) k l
  blocks_enough zero [] h = refl
  blocks_enough zero (c ∷ l) h = absurd (omega arith)
  blocks_enough (suc k) [] h = refl
  blocks_enough (suc k) (c ∷ l) h =
      ap (λ (ls : List (List ℕ)). (first c l).found ∷ ls) (blocks_enough k (others c l) (omega (arith, others_fewer c l)))

  -- the parts together are the list, in another order
  pub blocks_rearranged : (k : ℕ) (l : List ℕ) → length l ≤ k → Rearranged (joined (block_sources (shares near p) k l)) l
  blocks_rearranged zero [] h = λ f. refl
  blocks_rearranged zero (c ∷ l) h = absurd (omega arith)
  blocks_rearranged (suc k) [] h = λ f. refl
  blocks_rearranged (suc k) (c ∷ l) h = λ f.
      omega (
        arith,
        count_append f (first c l).found (joined (block_sources (shares near p) k (others c l))),
        blocks_rearranged k (others c l) (omega (arith, others_fewer c l)) f,
        others_rearranged c l f,
        grow_counts near p f (suc (length l)) [] (c ∷ []) l,
      )

  -- no two parts share a closed cell
  pub blocks_separate : (k : ℕ) (l : List ℕ) → length l ≤ k → Separate near p (block_sources (shares near p) k l)
  blocks_separate zero l h = tt
  blocks_separate (suc k) [] h = tt
  blocks_separate (suc k) (c ∷ l) h = (
    λ a b x y. grow_apart near p (suc (length l)) [] (c ∷ []) l (omega arith) (λ d e v w. clash false v refl) a b x (left b y),
    blocks_separate k (others c l) (omega (arith, others_fewer c l)),
  )
    where
      left : (b : ℕ) → has (joined (block_sources (shares near p) k (others c l))) b ≡ true → has (first c l).left b ≡ true
      left b y = sym (rearranged_has (joined (block_sources (shares near p) k (others c l))) (first c l).left same b) ∙ y
        where
          same : Rearranged (joined (block_sources (shares near p) k (others c l))) (first c l).left
          same f = blocks_rearranged k (others c l) (omega (arith, others_fewer c l)) f ∙ others_rearranged c l f

  -- each part is connected
  pub blocks_connected : (k : ℕ) (l cs : List ℕ) → Memᴰ cs (block_sources (shares near p) k l) → Connected near p cs
  blocks_connected zero l cs m = absurd (Memᴰ.not-nil m)
  blocks_connected (suc k) [] cs m = absurd (Memᴰ.not-nil m)
  blocks_connected (suc k) (c ∷ l) cs m = go (λ n. blocks_connected k (others c l) cs n) (Memᴰ.cases_cons m)
    where
      go : (Memᴰ cs (block_sources (shares near p) k (others c l)) → Connected near p cs)
          → (cs ≡ (first c l).found) ⊎ Memᴰ cs (block_sources (shares near p) k (others c l)) → Connected near p cs
      go ih (inl e) = rw e (first_connected c l)
      go ih (inr n) = ih n

  -- where lists are separate, sources that share a closed cell stand in the same one
  pub separate_together : (ls : List (List ℕ)) → Separate near p ls → (cs : List ℕ) → Memᴰ cs ls
      → (a b : ℕ) → has cs a ≡ true → has (joined ls) b ≡ true → shares near p a b ≡ true → has cs b ≡ true
  separate_together [] s cs m a b x y t = absurd (Memᴰ.not-nil m)
  separate_together (l ∷ ls) s cs m a b x y t =
      go (λ n z. separate_together ls s.1 cs n a b x z t) (Memᴰ.cases_cons m) (append_cases l (joined ls) b y)
    where
      go : (Memᴰ cs ls → has (joined ls) b ≡ true → has cs b ≡ true)
          → (cs ≡ l) ⊎ Memᴰ cs ls → (has l b ≡ true) ⊎ (has (joined ls) b ≡ true) → has cs b ≡ true
      go ih (inl e) (inl z) = rw e z
      go ih (inl e) (inr z) = clash (shares near p a b) t (s.0 a b (rw e at x) z)
      go ih (inr n) (inl z) =
          clash (shares near p b a) (meets_turned (closed_beside near p a) (closed_beside near p b) t)
          (s.0 b a z (mem_has (joined ls) (mem_joined (has_mem cs a x) n)))
      go ih (inr n) (inr z) = ih n z

  -- ---- the parts of a position's sources

  -- the sources of each block
  abbrev pub parts : List (List ℕ)
  parts = block_sources (shares near p) (length p) (sources near p)

  -- together they are the sources, in another order
  pub parts_rearranged : Rearranged (joined parts) (sources near p)
  parts_rearranged = blocks_rearranged (length p) (sources near p) (sources_few near p)

  -- so they have the same members
  pub parts_have : (c : ℕ) → has (joined parts) c ≡ has (sources near p) c
  parts_have = rearranged_has (joined parts) (sources near p) parts_rearranged

  -- each source stands in a part
  pub source_in_part : (c : ℕ) → has (sources near p) c ≡ true → (cs : List ℕ) × Memᴰ cs parts × (has cs c ≡ true)
  source_in_part c h =
      let (cs, m, n) = joined_mem parts (has_mem (joined parts) c (parts_have c ∙ h)) in
      (cs, m, mem_has cs n)

  -- what stands in a part is a source
  pub part_has_sources : (cs : List ℕ) → Memᴰ cs parts → (c : ℕ) → has cs c ≡ true → has (sources near p) c ≡ true
  part_has_sources cs m c h = sym (parts_have c) ∙ mem_has (joined parts) (mem_joined (has_mem cs c h) m)

  -- none stands twice, in one part or in two
  pub parts_once : nodup (joined parts) ≡ true
  parts_once = rearranged_nodup (sources near p) (joined parts) (λ f. sym (parts_rearranged f)) (sources_once near p)

  -- no part shares a closed cell with a later one
  pub parts_separate : Separate near p parts
  parts_separate = blocks_separate (length p) (sources near p) (sources_few near p)

  -- two sources that share a closed cell stand in the same part
  pub sharing_together : (cs : List ℕ) → Memᴰ cs parts
      → (a b : ℕ) → has cs a ≡ true → has (sources near p) b ≡ true → shares near p a b ≡ true → has cs b ≡ true
  sharing_together cs m a b x y t = separate_together parts parts_separate cs m a b x (parts_have b ∙ y) t

  -- each part is connected: its sources are joined to the first
  pub part_connected : (cs : List ℕ) → Memᴰ cs parts → Connected near p cs
  part_connected cs m = blocks_connected (length p) (sources near p) cs m

  -- so none is empty
  pub parts_not_empty : all (λ (cs : List ℕ). not (empty cs)) parts ≡ true
  parts_not_empty = all_of (λ (cs : List ℕ). not (empty cs)) parts (λ cs m. go cs (part_connected cs m))
    where
      go : (cs : List ℕ) → Connected near p cs → not (empty cs) ≡ true
      go [] h = absurd h
      go (c ∷ cs) h = refl

  -- and there are at most as many as cells
  pub parts_few : length parts ≤ length p
  parts_few =
      omega (
        arith,
        many_joined parts parts_not_empty,
        rearranged_length (joined parts) (sources near p) parts_rearranged,
        sources_few near p,
      )
