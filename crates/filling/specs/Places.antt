-- Cited by no public contract. What the functions that write a block are told and tell each other. The place of a cell, one more than where it stands among
-- the cells, tells whether the block has it and in which order an equation's cells come. Assumes nothing.
use Rattle.std.specs.Prelude.{◌≡◌, cond, List, [], ◌∷◌, ℕ, ◌+◌, ◌≤◌, ◌<◌, leb, ltb, length, get_or, take, drop}
use Rattle.lists.specs.Lists.{has, pad}

-- ---- writing a block's cells

-- the cells of the block that begins at `start` stand there up to k, and nothing after them; `places` has for each cell of the block one more than where it
-- stands, and for any other at most `start`
pub record Placed (start k : ℕ) (places cells : List ℕ) : Type 0 where
  pub long : length places ≡ 1024
  pub filled : cells ≡ pad 1024 0 (take k cells)
  pub begins : start ≤ k
  pub few : k ≤ 1024
  pub member : (d : ℕ) → has (drop start (take k cells)) d ≡ ltb start (get_or places d 0)
  pub place : (i : ℕ) → start + i < k → get_or places (get_or cells (start + i) 0) 0 ≡ start + i + 1
  pub most : (d : ℕ) → get_or places d 0 ≤ k

-- ---- writing a block's equations

-- a cell goes before the first cell of the list whose place isn't below its own
abbrev pub insert_by_place : List ℕ → ℕ → List ℕ → List ℕ
insert_by_place places c [] = c ∷ []
insert_by_place places c (x ∷ l) = cond (leb (get_or places c 0) (get_or places x 0)) (c ∷ (x ∷ l)) (x ∷ insert_by_place places c l)

-- the cells of the second list put into the first, one after another
abbrev pub insert_all : List ℕ → List ℕ → List ℕ → List ℕ
insert_all places l [] = l
insert_all places l (c ∷ k) = insert_all places (insert_by_place places c l) k
