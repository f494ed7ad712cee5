-- A list collected into an array with a count: the array holds what was collected so far, which with what is still to come is the whole list. Where the
-- whole list fits the array, there is room for each next element. Rests on the laws of `pad`. Assumes nothing.
use Prim.Native.Nat.{ℕ, ◌+◌, ◌≤◌, ◌<◌}
use mathlib.Core.Path.{◌≡◌, refl, sym, ap, ◌∙◌}
use mathlib.Core.Bool.{Bool}
use mathlib.Core.List.{List, [], ◌∷◌, ◌++◌, append_assoc, append-nil}
use native.Mathlib.Omega.{arith}
use lib.ListN.{length, set, replicate, length-append}
use Rattle.lists.specs.Lists.{keep, pad}
use Rattle.lists.proofs.Counts.{length_keep, count_le}
use Rattle.lists.proofs.Arrays.{pad_nil, pad_push}

-- an array of n slots and a count, with what is still to come, of a whole list
pub record Collected (n : ℕ) (array : List ℕ) (len : ℕ) (rest whole : List ℕ) : Type 0 where
  pub list : List ℕ
  pub held : array ≡ pad n 0 list
  pub counted : len ≡ length list
  pub joined : list ++ rest ≡ whole

-- what is kept of a list that fits, fits
pub keep_few : {n : ℕ} (f : ℕ → Bool) (l : List ℕ) → length l ≤ n → length (keep f l) ≤ n
keep_few f l h = omega (arith, length_keep f l, count_le f l)

pub collected_none : (n : ℕ) (whole : List ℕ) → Collected n (replicate n 0) 0 whole whole
collected_none n whole = record { list = []; held = pad_nil n 0; counted = refl; joined = refl }

module _ {n : ℕ} {array : List ℕ} {len x : ℕ} {rest whole : List ℕ} where
  pub collected_room : Collected n array len (x ∷ rest) whole → length whole ≤ n → len < n
  collected_room c h = omega (arith, c.counted, ap length c.joined, length-append c.list (x ∷ rest))

  -- the next element is stored at the count
  pub collected_push : Collected n array len (x ∷ rest) whole → length whole ≤ n → Collected n (set array len x) (len + 1) rest whole
  collected_push c h =
      record {
        list = c.list ++ (x ∷ []);
        held = rw (c.held, c.counted) (pad_push n 0 c.list x (omega (arith, collected_room c h, c.counted)));
        counted = rw c.counted (sym (length-append c.list (x ∷ [])));
        joined = append_assoc c.list (x ∷ []) rest ∙ c.joined;
      }

pub collected_all : {n : ℕ} {array : List ℕ} {len : ℕ} {whole : List ℕ} → Collected n array len [] whole → (array ≡ pad n 0 whole) × (len ≡ length whole)
collected_all c = let e = sym (append-nil c.list) ∙ c.joined in (rw e at c.held, rw e at c.counted)
