-- However the input is cut: a program reads some bytes, has them carried over together with those that it kept, writes what goes out, and keeps the rest. Where it has come to the input's end,
-- all that it wrote is what becomes of the whole input, and all that it counted its counts. From the contract of `migrate_part` alone. Assumes nothing.
use mathlib.Core.Path.{◌≡◌, refl, sym, ap, ◌∙◌}
use mathlib.Core.Bool.{Bool, true, false}
use mathlib.Core.List.{List, [], ◌++◌, append_assoc, append-nil}
use Prim.Native.Nat.{ℕ}
use native.Mathlib.Omega.{arith}
use lib.ListN.{take, drop, drop_of_length-le}
use Rattle.run.specs.Parts.{Follows}
use Rattle.migration.specs.declared.Counts.{Counts}
use Rattle.migration.specs.declared.Part.{Part}
use Rattle.migration.specs.Migrated.{migrated}
use Rattle.migration.specs.Parts.{counts_sum, counts, migrated_from, counts_from, Migrates}
use Rattle.migration.proofs.CarriedRecords.{counts_right}
use Rattle.migration.proofs.MigratedParts.{nothing_migrated, nothing_counted}

-- the turns of a program that holds the bytes `held`, while the bytes `coming` are still to be read, and that writes `written` and counts `counted` until the input's end
pub data Turns : List ℕ → Bool → List ℕ → List ℕ → Counts → Type 0 where
  -- nothing is read any more
  last : (held : List ℕ) (copying : Bool) (r : Part) (after : List ℕ) → Migrates copying true held r after → Turns held copying [] (take r.len after) r.counts
  -- the bytes x are read, and what does not go out is held on
  next : (held : List ℕ) (copying : Bool) (x rest : List ℕ) (ended : Bool) (r : Part) (after later : List ℕ) (more : Counts) → Follows ended rest
      → Migrates copying ended (held ++ x) r after → Turns (drop r.len after) r.copying rest later more
      → Turns held copying (x ++ rest) (take r.len after ++ later) (counts_sum r.counts more)

pub turns_migrated : {held : List ℕ} {copying : Bool} {coming written : List ℕ} {counted : Counts} → Turns held copying coming written counted
    → (written ≡ migrated_from copying (held ++ coming)) × (counted ≡ counts_from copying (held ++ coming))
turns_migrated (last held copying r after m) =
    let none : drop r.len held ++ [] ≡ [] = append-nil (drop r.len held) ∙ drop_of_length-le held {i = r.len} (omega (arith, m.all refl)) in (
      sym (m.output [] (λ e. refl) ∙ rw (none, nothing_migrated r.copying) (append-nil (take r.len after))),
      sym (m.counted [] (λ e. refl) ∙ ap (counts_sum r.counts) (ap (counts_from r.copying) none ∙ nothing_counted r.copying) ∙ counts_right r.counts),
    )
turns_migrated (next held copying x rest ended r after later more f m t) =
    let ih = turns_migrated t in
    let whole = sym (append_assoc held x rest) in (
      ap (take r.len after ++◌) (ih.0 ∙ ap (λ (l : List ℕ). migrated_from r.copying (l ++ rest)) m.kept) ∙ sym (ap (migrated_from copying) whole ∙ m.output rest f),
      ap (counts_sum r.counts) (ih.1 ∙ ap (λ (l : List ℕ). counts_from r.copying (l ++ rest)) m.kept) ∙ sym (ap (counts_from copying) whole ∙ m.counted rest f),
    )

-- a program that begins with nothing held writes what the definition gives of its input, wherever its reads cut it
pub cut_anywhere : (input written : List ℕ) (counted : Counts) → Turns [] false input written counted → (written ≡ migrated input) × (counted ≡ counts input)
cut_anywhere input written counted t = turns_migrated t
