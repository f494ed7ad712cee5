-- What the rules' calls and the table mean to C and Rust: what deductions/specs/Calls.antt and tables/specs/Listed.antt say of the answer holds of the number that is
-- returned and of the first two counts, where there is room for both. The idea: the counts matter only where the number is 0, and there they are the answer's.
-- Assumes nothing.
use Rattle.std.specs.Prelude.{Result, Err, Ok}
use mathlib.Core.Path.{◌≡◌, refl, sym, ap, ◌∙◌}
use mathlib.Core.List.{List, [], ◌∷◌}
use Prim.Native.Nat.{ℕ, ◌<◌}
use native.Mathlib.Omega.{arith}
use lib.ListN.{length, get_or}
use Rattle.grid.specs.Window.{flat}
use Rattle.refusals.specs.declared.Refusal.{Refusal}
use Rattle.refusals.specs.Refusals.{refusal_number, tested_number}
use Rattle.refusals.proofs.RefusalNumbers.{refusal_numbered}
use Rattle.deductions.specs.Calls.{SoundCall, CompleteCall}
use Rattle.deductions.specs.Answers.{safe_count, mine_count}
use Rattle.deductions.specs.declared.answer.DeductionAnswer.{DeductionAnswer}
use Rattle.deductions.specs.ByRule.{CompleteBy}
use Rattle.deductions.specs.declared.Rule.{Rule}
use Rattle.deductions.specs.declared.Rule.TheVariants.{Direct, Minus, Enumerate}
use Rattle.tables.specs.declared.TableAnswer.{TableAnswer}
use Rattle.tables.specs.Tables.{table_number, table_solutions, table_groups}
use Rattle.tables.specs.Listed.{TableCall}
use Rattle.export.specs.Returned.{Returned, returned, laid, answered, list_counts}
use Rattle.export.proofs.StoredCounts.{count_stored}

-- two counts are those of an answer, where it is accepted
abbrev CountsOf : ℕ → ℕ → ℕ → List ℕ → Type 0
CountsOf number a b after = number ≡ 0 → (get_or after 0 0 ≡ a) × (get_or after 1 0 ≡ b)

-- counts that are laid over a slice with room for them
laid_counts : (number a b : ℕ) (counts : List ℕ) {after : List ℕ} → after ≡ laid (a ∷ b ∷ []) counts → 1 < length counts → CountsOf number a b after
laid_counts number a b counts {after} is room _ = (stored 0 (omega arith) (omega (arith, room)), stored 1 (omega arith) room)
  where
    stored : (k : ℕ) → k < 2 → k < length counts → get_or after k 0 ≡ get_or (a ∷ b ∷ []) k 0
    stored k h there = ap (λ (l : List ℕ). get_or l k 0) is ∙ count_stored (a ∷ b ∷ []) counts k h there

-- ---- of a number and counts, instead of the answer's

module _ {n number a b : ℕ} (after : List ℕ) (is : n ≡ number) (counted : CountsOf number a b after) where
  sound_counted : {rows columns : ℕ} {p s m p' s' m' : List ℕ} → SoundCall flat rows columns p s m number a b p' s' m'
      → SoundCall flat rows columns p s m n (get_or after 0 0) (get_or after 1 0) p' s' m'
  sound_counted c = record {
    lists_true = λ z. let (e, f) = counted (sym is ∙ z) in rw (e, f) (c.lists_true (sym is ∙ z));
    only_marked = λ z. let (e, f) = counted (sym is ∙ z) in rw (e, f) (c.only_marked (sym is ∙ z));
    at_safe = λ z. let (e, f) = counted (sym is ∙ z) in rw e (c.at_safe (sym is ∙ z));
    all_kept = λ some. c.all_kept (λ z. some (is ∙ z));
    refuses = λ x h. is ∙ c.refuses x h;
    accepts = λ h layout fit. is ∙ c.accepts h layout fit;
  }

  complete_counted : {near : ℕ → List ℕ} {p s' m' : List ℕ} → CompleteCall near p number a b s' m'
      → CompleteCall near p n (get_or after 0 0) (get_or after 1 0) s' m'
  complete_counted c =
      let (e, f) = counted c.is_accepted in
      record { is_accepted = is ∙ c.is_accepted; safe_found = rw e c.safe_found; mines_found = rw f c.mines_found }

  table_counted : {rows columns : ℕ} {p : List ℕ} {k : ℕ} {t t' : List ℕ} → TableCall flat rows columns p k t number a b t'
      → TableCall flat rows columns p k t n (get_or after 0 0) (get_or after 1 0) t'
  table_counted c = record {
    accepted = ((λ z. c.accepted.0 (sym is ∙ z)), λ h. is ∙ c.accepted.1 h);
    lists = λ z. let (e, f) = counted (sym is ∙ z) in rw (e, f) (c.lists (sym is ∙ z));
    table_kept = λ some. c.table_kept (λ z. some (is ∙ z));
  }

-- ---- what a rule's call returns

module _ (r : Result DeductionAnswer Refusal) (counts : List ℕ) {after : List ℕ} {n : ℕ} (told : returned n [] after ≡ answered r list_counts [] counts) where
  -- its number is that of the answer, whatever room there is
  pub returned_number : n ≡ tested_number r
  unfolding answered
  returned_number = ap (λ (v : Returned). v.number) told

  module _ (room : 1 < length counts) where
    returned_counts : CountsOf (tested_number r) (safe_count r) (mine_count r) after
    unfolding answered
    returned_counts = go r told
      where
        go : (u : Result DeductionAnswer Refusal) → returned n [] after ≡ answered u list_counts [] counts → CountsOf (tested_number u) (safe_count u) (mine_count u) after
        go (Ok v) e = laid_counts 0 v.safe v.mines counts (ap (λ (v : Returned). v.counts) e) room
        go (Err x) e = refusal_numbered x

    -- it is sound
    pub returned_sound : {rows columns : ℕ} {p s m p' s' m' : List ℕ} → SoundCall flat rows columns p s m (tested_number r) (safe_count r) (mine_count r) p' s' m'
        → SoundCall flat rows columns p s m n (get_or after 0 0) (get_or after 1 0) p' s' m'
    returned_sound = sound_counted after returned_number returned_counts

    -- and complete
    pub returned_complete : (rule : Rule) (rows columns : ℕ) (p s m s' m' : List ℕ) → CompleteBy rule flat rows columns p s m (tested_number r) (safe_count r) (mine_count r) s' m'
        → CompleteBy rule flat rows columns p s m n (get_or after 0 0) (get_or after 1 0) s' m'
    returned_complete Direct rows columns p s m s' m' c = tt
    returned_complete Minus rows columns p s m s' m' c = tt
    returned_complete Enumerate rows columns p s m s' m' c = λ tests layout fit. complete_counted after returned_number returned_counts (c tests layout fit)

-- ---- what the table's call returns, by the form of its answer

module _ {rows columns : ℕ} {p : List ℕ} {k : ℕ} {t t' : List ℕ} {answer : Result TableAnswer Refusal}
    (c : TableCall flat rows columns p k t (table_number answer) (table_solutions answer) (table_groups answer) t') where
  pub refused_table : {x : Refusal} {n : ℕ} (after : List ℕ) → answer ≡ Err x → n ≡ refusal_number x
      → TableCall flat rows columns p k t n (get_or after 0 0) (get_or after 1 0) t'
  refused_table {x} after which is = table_counted after is (refusal_numbered x) (rw which at c)

  pub listed_table : {a : TableAnswer} {n : ℕ} (counts : List ℕ) {after : List ℕ} → answer ≡ Ok a → n ≡ 0 → after ≡ laid (a.solutions ∷ a.groups ∷ []) counts → 1 < length counts
      → TableCall flat rows columns p k t n (get_or after 0 0) (get_or after 1 0) t'
  listed_table {a} counts {after} which zero is room = table_counted after zero (laid_counts 0 a.solutions a.groups counts is room) (rw which at c)
