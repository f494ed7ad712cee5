-- What a part of the input becomes: all is copied, or the records at its front are carried over and the rest waits for more bytes, or is copied because no whole record can begin there. Each way is
-- a law. Rests on the records carried over. Assumes nothing.
use mathlib.Core.Path.{◌≡◌, refl, sym, ap, ◌∙◌}
use mathlib.Core.Logic.{inl, inr}
use mathlib.Core.Bool.{Bool, true, false, not, ◌&&◌}
use mathlib.Core.List.{List, [], ◌++◌, append_assoc, append-nil}
use Prim.Native.Nat.{ℕ, zero, suc, ◌<◌}
use native.Mathlib.Omega.{arith}
use lib.Dec.{ltb}
use lib.ListN.{length, get_or, take, drop, take-append-drop, drop_of_length-le}
use lib.Seq.{take-length, drop-length}
use borrow.Author.Tests.{ltb-true, ltb-false}
use Rattle.lists.proofs.Tests.{Decided, decided, clash, and_left, and_right}
use Rattle.records.proofs.RecordKinds.{length_most}
use Rattle.run.specs.Parts.{Follows}
use Rattle.migration.specs.declared.Counts.{Counts}
use Rattle.migration.specs.declared.Part.{Part}
use Rattle.migration.specs.Migrated.{is_stored}
use Rattle.migration.specs.Parts.{no_counts, counts_sum, counts, migrated_from, counts_from, Migrates, Progress}
use Rattle.migration.specs.Steps.{may_begin, Carried}
use Rattle.migration.proofs.Fronts.{no_head, begins_stored, never_begins}
use Rattle.migration.proofs.Walks.{migrated_copied, counts_none}

-- nothing becomes nothing
pub nothing_migrated : (copying : Bool) → migrated_from copying [] ≡ []
nothing_migrated true = refl
nothing_migrated false = migrated_copied [] (no_head [] (omega arith))

pub nothing_counted : (copying : Bool) → counts_from copying [] ≡ no_counts
nothing_counted true = refl
nothing_counted false = counts_none [] (no_head [] (omega arith))

-- a part with room for any record goes out whole
whole_progress : (input : List ℕ) (r : Part) → r.len ≡ length input → Progress input r
whole_progress input r e h = omega arith

-- ---- all is copied

module _ (ended : Bool) (input : List ℕ) (k : Counts) (none : k ≡ no_counts) where
  pub all_copied : Migrates true ended input (record { len = length input; copying = true; counts = k }) input
  all_copied = record {
    within = omega arith;
    output = λ rest f. rw (take-length input, drop-length input);
    kept = refl;
    counted = λ rest f. rw none;
    all = λ e. refl;
    begins = λ e f. clash true refl e;
  }

  pub all_progress : Progress input (record { len = length input; copying = true; counts = k })
  all_progress = whole_progress input (record { len = length input; copying = true; counts = k }) refl

-- ---- the records at the front are carried over

module _ (ended : Bool) (input after : List ℕ) (k : Counts) (u : Carried input k after) (over : is_stored (drop k.bytes input) ≡ false) where
  abbrev left : List ℕ
  left = drop k.bytes input

  -- and the rest waits
  module _ (waits : (not ended && may_begin (drop k.bytes after)) ≡ true) where
    abbrev waiting : Part
    waiting = record { len = k.bytes; copying = false; counts = k }

    pub part_waits : Migrates false ended input waiting after
    part_waits = record {
      within = u.within;
      output = λ rest f. u.output rest;
      kept = u.kept;
      counted = λ rest f. u.counted rest;
      all = λ e. clash (not ended) (and_left (not ended) (may_begin (drop k.bytes after)) waits) (rw e);
      begins = λ e f. clash false f refl;
    }

    -- of bytes no record is longer than that
    pub waits_progress : ((i : ℕ) → get_or input i 0 < 256) → Progress input waiting
    waits_progress bytes long = go k.bytes refl
      where
        begins : may_begin left ≡ true
        begins = rw u.kept at (and_right (not ended) (may_begin (drop k.bytes after)) waits)

        go : (n : ℕ) → k.bytes ≡ n → 0 < k.bytes
        go zero e =
            let at : drop k.bytes input ≡ input = rw e in
            let stored : is_stored input ≡ true = begins_stored input (rw at at begins) (omega arith) (omega (arith, length_most input bytes)) in
            clash (is_stored input) stored (rw at at over)
        go (suc n) e = omega arith

  -- and the rest is copied
  module _ (copied : (not ended && may_begin (drop k.bytes after)) ≡ false) where
    abbrev out : Part
    out = record { len = length after; copying = ltb k.bytes (length after); counts = k }

    never : (rest : List ℕ) → Follows ended rest → is_stored (left ++ rest) ≡ false
    never rest f = go ended refl
      where
        go : (t : Bool) → ended ≡ t → is_stored (left ++ rest) ≡ false
        go true e = rw (f e, append-nil) over
        go false e = never_begins left rest (rw (e, u.kept) at copied)

    nothing_left : drop (length after) input ≡ []
    nothing_left = drop_of_length-le input {i = length after} (omega (arith, u.same_long))

    -- where nothing is left, nothing follows
    rest_copied : (rest : List ℕ) → Follows ended rest → (migrated_from out.copying rest ≡ rest) × (counts_from out.copying rest ≡ no_counts)
    rest_copied rest f = go (decided (ltb k.bytes (length after)))
      where
        none : ltb k.bytes (length after) ≡ false → left ≡ []
        none e = drop_of_length-le input {i = k.bytes} (omega (arith, ltb-false k.bytes (length after) e, u.same_long))

        go : Decided (ltb k.bytes (length after)) → (migrated_from out.copying rest ≡ rest) × (counts_from out.copying rest ≡ no_counts)
        go (inl e) = rw e (refl, refl)
        go (inr e) =
            let stops : is_stored rest ≡ false = rw (none e) at (never rest f) in
            rw e (migrated_copied rest stops, counts_none rest stops)

    pub part_copied : Migrates false ended input out after
    part_copied = record {
      within = omega (arith, u.same_long);
      output = λ rest f.
          u.output rest
          ∙ rw (migrated_copied (left ++ rest) (never rest f), nothing_left, (rest_copied rest f).0, take-length after, ← u.kept)
          (sym (append_assoc (take k.bytes after) (drop k.bytes after) rest) ∙ ap (◌++ rest) (take-append-drop k.bytes after));
      kept = drop-length after ∙ sym nothing_left;
      counted = λ rest f. u.counted rest ∙ ap (counts_sum k) (counts_none (left ++ rest) (never rest f) ∙ sym (rw nothing_left (rest_copied rest f).1));
      all = λ e. u.same_long;
      begins = λ e f. omega (arith, ltb-true k.bytes (length after) f, u.same_long);
    }

    pub copied_progress : Progress input out
    copied_progress = whole_progress input out u.same_long
