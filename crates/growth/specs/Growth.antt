-- How blocks grow from sources, in the order of refresh_matrixs. `share` says of two sources whether they share a closed cell. Assumes nothing.
use Rattle.std.specs.Prelude.{Bool, cond, List, [], ◌∷◌, ◌++◌, reverse, ℕ, zero, suc, length}
use Rattle.lists.specs.Lists.{keep, rotated}

-- what is left of a list when the elements that pass are removed from the last to the first, the last element moving into each gap
abbrev pub removed : (ℕ → Bool) → List ℕ → List ℕ
removed f [] = []
removed f (x ∷ l) = cond (f x) (rotated (removed f l)) (x ∷ removed f l)

-- a block's sources in the order in which they are found, and the sources left for the other blocks
pub record Grown : Type 0 where
  pub found : List ℕ
  pub left : List ℕ

-- the first of the queue is done; the sources left that share with it join the queue, from the last to the first. k is at least the steps
abbrev pub grow : (ℕ → ℕ → Bool) → ℕ → List ℕ → List ℕ → List ℕ → Grown
grow share zero done queue left = record { found = done ++ queue; left = left }
grow share (suc k) done [] left = record { found = done; left = left }
grow share (suc k) done (c ∷ queue) left =
    grow share k (done ++ (c ∷ [])) (queue ++ reverse (keep (share c) left)) (removed (share c) left)

-- the block of the first source c, of which `left` are the others
abbrev pub grown : (ℕ → ℕ → Bool) → ℕ → List ℕ → Grown
grown share c left = grow share (suc (length left)) [] (c ∷ []) left

-- the sources of each block: a block grows from the first source left, and the last one left moves into its place
abbrev pub block_sources : (ℕ → ℕ → Bool) → ℕ → List ℕ → List (List ℕ)
block_sources share zero l = []
block_sources share (suc k) [] = []
block_sources share (suc k) (c ∷ l) = (grown share c l).found ∷ block_sources share k (rotated (grown share c l).left)
