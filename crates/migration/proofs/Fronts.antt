-- Whether a whole record with the mark 4D 42 stands at the front: what it tells, and that what follows the record plays no part in it. Where more bytes may not make a whole record of
-- what stands there, none ever stands there. Assumes nothing.
use mathlib.Core.Path.{◌≡◌, refl, sym, ap, ◌∙◌}
use mathlib.Core.Logic.{inl, inr, ◌≢◌}
use mathlib.Core.Bool.{Bool, true, false, ◌&&◌, ◌||◌}
use mathlib.Core.List.{List, [], ◌∷◌, ◌++◌}
use Prim.Native.Nat.{ℕ, ◌≤◌, ◌<◌}
use native.Mathlib.Omega.{arith}
use lib.Dec.{leb, eqb}
use lib.ListN.{length, get_or, take, drop, length-append, take-append-drop, get_or-append}
use lib.Seq.{length-take-le}
use borrow.Author.Tests.{leb-true, le-leb, ne_eqb}
use Rattle.lists.proofs.Tests.{Decided, decided, clash, and_left, and_right}
use Rattle.records.specs.Records.{record_length}
use Rattle.records.proofs.RecordKinds.{six_or_more, length_unknown, length_beside}
use Rattle.migration.specs.Migrated.{is_stored}
use Rattle.migration.specs.Steps.{is_mark, may_begin}

abbrev pub marked : List ℕ → Bool
marked input = is_mark (get_or input 0 0) (get_or input 1 0)

module _ (input : List ℕ) where
  -- ---- a whole record

  pub stored_marked : is_stored input ≡ true → marked input ≡ true
  unfolding is_stored
  stored_marked h = and_left (marked input) (leb (record_length input) (length input)) h

  pub stored_whole : is_stored input ≡ true → record_length input ≤ length input
  unfolding is_stored
  stored_whole h = leb-true (record_length input) (length input) (and_right (marked input) (leb (record_length input) (length input)) h)

  pub stored_six : is_stored input ≡ true → 6 ≤ length input
  stored_six h = omega (arith, six_or_more input, stored_whole h)

  -- and read back
  pub stored_of : marked input ≡ true → record_length input ≤ length input → is_stored input ≡ true
  unfolding is_stored
  stored_of m h = rw (m, le-leb (record_length input) (length input) h)

  pub marked_stored : marked input ≡ true → is_stored input ≡ leb (record_length input) (length input)
  unfolding is_stored
  marked_stored m = rw m

  pub unmarked : marked input ≡ false → is_stored input ≡ false
  unfolding is_stored
  unmarked m = rw m

  pub not_whole : length input < record_length input → is_stored input ≡ false
  not_whole h = go (decided (is_stored input))
    where
      go : Decided (is_stored input) → is_stored input ≡ false
      go (inl e) = absurd (omega (arith, stored_whole e))
      go (inr e) = e

  -- fewer bytes than a head
  pub no_head : length input < 6 → is_stored input ≡ false
  no_head h = not_whole (omega (arith, length_unknown input h))

  -- ---- may a record begin?

  pub begin_none : length input ≡ 0 → true ≡ may_begin input
  unfolding may_begin
  begin_none e = rw e

  pub begin_lone : length input ≡ 1 → eqb (get_or input 0 0) 77 ≡ may_begin input
  unfolding may_begin
  begin_lone e = go (eqb (get_or input 0 0) 77)
    where
      go : (t : Bool) → t ≡ (eqb (length input) 0 || (t && (eqb (length input) 1 || eqb (get_or input 1 0) 66)))
      go true = rw e
      go false = rw e

  pub begin_more : length input ≢ 0 → length input ≢ 1 → marked input ≡ may_begin input
  unfolding may_begin
  begin_more none lone = rw (ne_eqb (length input) 0 none, ne_eqb (length input) 1 lone)

  -- where it may, and there is room for the record, it stands there
  pub begins_stored : may_begin input ≡ true → 2 ≤ length input → record_length input ≤ length input → is_stored input ≡ true
  begins_stored b two h = stored_of (begin_more (λ e. omega arith) (λ e. omega arith) ∙ b) h

-- ---- with anything behind it

module _ (input rest : List ℕ) where
  same_mark : 2 ≤ length input → marked (input ++ rest) ≡ marked input
  same_mark h = rw (get_or-append input rest 0 0 (omega arith), get_or-append input rest 0 1 (omega arith))

  pub stored_beside : is_stored input ≡ true → is_stored (input ++ rest) ≡ true
  stored_beside h =
      let six = stored_six input h in
      stored_of (input ++ rest) (same_mark (omega arith) ∙ stored_marked input h)
      (omega (arith, length_beside input rest six, stored_whole input h, length-append input rest))

  -- where no record may begin, none does
  pub never_begins : may_begin input ≡ false → is_stored (input ++ rest) ≡ false
  unfolding may_begin
  never_begins h = unmarked (input ++ rest) (go input h)
    where
      go : (l : List ℕ) → (eqb (length l) 0 || (eqb (get_or l 0 0) 77 && (eqb (length l) 1 || eqb (get_or l 1 0) 66))) ≡ false → marked (l ++ rest) ≡ false
      go [] e = clash true refl e
      go (x ∷ []) e = first (decided (eqb x 77))
        where
          first : Decided (eqb x 77) → marked ((x ∷ []) ++ rest) ≡ false
          first (inl y) = clash true refl (rw y at e)
          first (inr n) = rw n
      go (x ∷ y ∷ l) e = rw (ne_eqb (length (x ∷ y ∷ l)) 0 (λ z. omega arith), ne_eqb (length (x ∷ y ∷ l)) 1 (λ z. omega arith)) at e

-- ---- the record alone

module _ (input : List ℕ) (h : is_stored input ≡ true) where
  abbrev front : List ℕ
  front = take (record_length input) input

  pub front_long : length front ≡ record_length input
  front_long = length-take-le (record_length input) input (stored_whole input h)

  both : front ++ drop (record_length input) input ≡ input
  both = take-append-drop (record_length input) input

  pub front_length : record_length front ≡ record_length input
  front_length = sym (length_beside front (drop (record_length input) input) (omega (arith, front_long, six_or_more input))) ∙ ap record_length both

  pub front_stored : is_stored front ≡ true
  front_stored =
      stored_of front
      (sym (same_mark front (drop (record_length input) input) (omega (arith, front_long, six_or_more input))) ∙ ap marked both ∙ stored_marked input h)
      (omega (arith, front_length, front_long))
