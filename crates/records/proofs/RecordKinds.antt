-- What a part of the input is, by its length and its first two bytes: each way through the definition is one law. What a whole record tells: it stands inside the input,
-- and its head of six bytes inside it. And what follows a whole record, or an unknown mark, plays no part in what it is. Assumes nothing.
use Prim.Native.Nat.{ℕ, ◌+◌, ◌-◌, ◌*◌, ◌≤◌, ◌<◌}
use mathlib.Core.Path.{◌≡◌, refl, sym, ◌∙◌}
use mathlib.Core.Logic.{◌⊎◌, inl, inr}
use mathlib.Core.Bool.{Bool, true, false, cond}
use mathlib.Core.List.{List, [], ◌∷◌, ◌++◌}
use native.Mathlib.Decide.{dec_lt}
use native.Mathlib.Nat.{mul-le-mul}
use native.Mathlib.Omega.{arith}
use lib.Dec.{ltb}
use lib.ListN.{length, get_or, drop, length-append, length-drop, get_or-append}
use lib.Seq.{take-append-le, drop-append-le}
use borrow.Author.Tests.{lt-ltb, le-ltb}
use Rattle.std.specs.Prelude.{Option, None, Some, Result, Ok, Err}
use Rattle.lists.proofs.Tests.{Decided, decided}
use Rattle.refusals.specs.declared.Refusal.{Refusal}
use Rattle.refusals.specs.declared.Refusal.TheVariants.{Mark, Short}
use Rattle.records.specs.declared.BoardMark.{BoardMark}
use Rattle.records.specs.declared.Head.{Head}
use Rattle.records.specs.Records.{record_length, board_mark, known_mark, head_of, record_of, cells_in}

-- ---- a record's length

-- the product of two bytes
pub bytes_product : (x y : ℕ) → x < 256 → y < 256 → x * y ≤ 65025
bytes_product x y h k =
    let f : x ≤ 255 = omega arith in
    let g : y ≤ 255 = omega arith in
    omega (arith, mul-le-mul f g)

module _ (input : List ℕ) where
  pub length_unknown : length input < 6 → 6 ≡ record_length input
  unfolding record_length
  length_unknown h = rw (lt-ltb (length input) 6 h)

  pub length_known : 6 ≤ length input → 6 + get_or input 2 0 * get_or input 3 0 ≡ record_length input
  unfolding record_length
  length_known h = rw (le-ltb (length input) 6 h)

  pub six_or_more : 6 ≤ record_length input
  unfolding record_length
  six_or_more = go (ltb (length input) 6)
    where
      go : (t : Bool) → 6 ≤ cond t 6 (6 + get_or input 2 0 * get_or input 3 0)
      go true = omega arith
      go false = omega arith

-- a call's answer that is the length
pub length_six : (input : List ℕ) {n : ℕ} → n ≡ record_length input → 6 ≤ n
length_six input e = omega (arith, six_or_more input)

-- of bytes no record is longer than 65,031
pub length_most : (input : List ℕ) → ((k : ℕ) → get_or input k 0 < 256) → record_length input ≤ 65031
unfolding record_length
length_most input bytes = go (ltb (length input) 6)
  where
    go : (t : Bool) → cond t 6 (6 + get_or input 2 0 * get_or input 3 0) ≤ 65031
    go true = omega arith
    go false = omega (arith, bytes_product (get_or input 2 0) (get_or input 3 0) (bytes 2) (bytes 3))

-- ---- what a part of the input is

abbrev pub mark_of : List ℕ → BoardMark
mark_of input = board_mark (get_or input 0 0) (get_or input 1 0)

pub record_none : (input : List ℕ) → length input ≡ 0 → Ok None ≡ record_of input
unfolding record_of
record_none [] h = refl
record_none (x ∷ l) h = absurd (omega arith)

pub record_lone : (input : List ℕ) → (length input ≡ 0 → ⊥) → length input < 2 → Err Short ≡ record_of input
unfolding record_of
record_lone [] n h = absurd (n refl)
record_lone (x ∷ []) n h = refl
record_lone (x ∷ y ∷ l) n h = absurd (omega arith)

pub record_unknown : (input : List ℕ) → 2 ≤ length input → known_mark (mark_of input) ≡ false → Err Mark ≡ record_of input
unfolding record_of
record_unknown [] h m = absurd (omega arith)
record_unknown (x ∷ []) h m = absurd (omega arith)
record_unknown (x ∷ y ∷ l) h m = rw m

pub record_short : (input : List ℕ) → 2 ≤ length input → known_mark (mark_of input) ≡ true → length input < record_length input → Err Short ≡ record_of input
unfolding record_of
record_short [] h m s = absurd (omega arith)
record_short (x ∷ []) h m s = absurd (omega arith)
record_short (x ∷ y ∷ l) h m s = rw (m, lt-ltb (length (x ∷ y ∷ l)) (record_length (x ∷ y ∷ l)) s)

pub record_whole : (input : List ℕ) → 2 ≤ length input → known_mark (mark_of input) ≡ true → record_length input ≤ length input
    → Ok (Some (head_of (mark_of input) input)) ≡ record_of input
unfolding record_of
record_whole [] h m s = absurd (omega arith)
record_whole (x ∷ []) h m s = absurd (omega arith)
record_whole (x ∷ y ∷ l) h m s = rw (m, le-ltb (length (x ∷ y ∷ l)) (record_length (x ∷ y ∷ l)) s)

-- ---- read back from what it is

-- a damaged record is cut short, or has no known mark
abbrev pub DamagedBy : List ℕ → Refusal → Type 0
DamagedBy input refusal = ((refusal ≡ Short) × (length input < record_length input)) ⊎ ((refusal ≡ Mark) × (2 ≤ length input) × (known_mark (mark_of input) ≡ false))

-- what each answer tells of the input; a whole record has a known mark, and stands inside
abbrev Told : List ℕ → Result (Option Head) Refusal → Type 0
Told input (Ok None) = input ≡ []
Told input (Err refusal) = DamagedBy input refusal
Told input (Ok (Some head)) = (known_mark (mark_of input) ≡ true) × (record_length input ≤ length input)

told : (input : List ℕ) → Told input (record_of input)
told [] = rw (sym (record_none [] refl)) refl
told (x ∷ []) = rw (sym (record_lone (x ∷ []) (λ h. omega arith) (omega arith))) (inl (refl, omega (arith, six_or_more (x ∷ []))))
told (x ∷ y ∷ l) = go (decided (known_mark (board_mark x y))) (dec_lt (length (x ∷ y ∷ l)) (record_length (x ∷ y ∷ l)))
  where
    two : 2 ≤ length (x ∷ y ∷ l)
    two = omega arith

    go : Decided (known_mark (board_mark x y)) → Dec (length (x ∷ y ∷ l) < record_length (x ∷ y ∷ l)) → Told (x ∷ y ∷ l) (record_of (x ∷ y ∷ l))
    go (inr m) s = rw (sym (record_unknown (x ∷ y ∷ l) two m)) (inr (refl, two, m))
    go (inl m) (yes s) = rw (sym (record_short (x ∷ y ∷ l) two m s)) (inl (refl, s))
    go (inl m) (no s) = rw (sym (record_whole (x ∷ y ∷ l) two m (omega arith))) (m, omega arith)

module _ (input : List ℕ) where
  pub end_nothing : record_of input ≡ Ok None → input ≡ []
  end_nothing is = rw is at (told input)

  pub damaged_kinds : (refusal : Refusal) → record_of input ≡ Err refusal → DamagedBy input refusal
  damaged_kinds refusal is = rw is at (told input)

  pub whole_known : (head : Head) → record_of input ≡ Ok (Some head) → (known_mark (mark_of input) ≡ true) × (record_length input ≤ length input)
  whole_known head is = rw is at (told input)

  pub whole_inside : (head : Head) → record_of input ≡ Ok (Some head) → record_length input ≤ length input
  whole_inside head is = (whole_known head is).1

-- ---- a part of the input, and the same part with more behind it

-- the same record, of the same bytes
pub record Beside (input longer : List ℕ) : Type 0 where
  pub same_length : record_length longer ≡ record_length input
  pub same_record : record_of longer ≡ record_of input
  pub same_cells : cells_in longer ≡ cells_in input

module _ (input rest : List ℕ) where
  longer : length input ≤ length (input ++ rest)
  longer = omega (arith, length-append input rest)

  -- what stands in the part stands there still
  at : (k : ℕ) → k < length input → get_or (input ++ rest) k 0 ≡ get_or input k 0
  at k h = get_or-append input rest 0 k h

  same_mark : 2 ≤ length input → mark_of (input ++ rest) ≡ mark_of input
  same_mark h = rw (at 0 (omega (arith, h)), at 1 (omega (arith, h)))

  -- a record whose head is there has the same length
  pub length_beside : 6 ≤ length input → record_length (input ++ rest) ≡ record_length input
  length_beside six =
      sym (length_known (input ++ rest) (omega (arith, longer)))
      ∙ rw (at 2 (omega arith), at 3 (omega arith)) (length_known input six)

  -- and one that stands inside the same cells
  pub cells_beside : record_length input ≤ length input → cells_in (input ++ rest) ≡ cells_in input
  cells_beside inside =
      let six : 6 ≤ length input = omega (arith, six_or_more input) in
      rw (length_beside six, drop-append-le 6 input rest six)
      (take-append-le (record_length input - 6) (drop 6 input) rest (omega (arith, length-drop 6 input)))

  -- a whole record
  pub whole_beside : (head : Head) → record_of input ≡ Ok (Some head) → Beside input (input ++ rest)
  whole_beside head is = record {
    same_length = same_length;
    same_record =
        sym (record_whole (input ++ rest) (omega (arith, six, longer)) (rw same known.0) (omega (arith, same_length, known.1, longer)))
        ∙ rw (same, at 2 (omega (arith, six)), at 3 (omega (arith, six)), at 4 (omega (arith, six)), at 5 (omega (arith, six))) (record_whole input (omega (arith, six)) known.0 known.1);
    same_cells = cells_beside known.1;
  }
    where
      known : (known_mark (mark_of input) ≡ true) × (record_length input ≤ length input)
      known = whole_known input head is

      six : 6 ≤ length input
      six = omega (arith, six_or_more input, known.1)

      same : mark_of (input ++ rest) ≡ mark_of input
      same = same_mark (omega (arith, six))

      same_length : record_length (input ++ rest) ≡ record_length input
      same_length = length_beside six

  -- an unknown mark
  pub mark_beside : record_of input ≡ Err Mark → record_of (input ++ rest) ≡ Err Mark
  mark_beside is = go (damaged_kinds input Mark is)
    where
      go : DamagedBy input Mark → record_of (input ++ rest) ≡ Err Mark
      go (inl (e, _)) = absurd (cc)
      go (inr (_, h, m)) = sym (record_unknown (input ++ rest) (omega (arith, h, longer)) (rw (same_mark h) m))
