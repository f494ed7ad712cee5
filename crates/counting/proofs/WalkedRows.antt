-- What a walk tells, step by step: of no rows; of the one row for no group; of rows that the table knows; of rows with a value before each, where the value is noted
-- if one of them counts; and of two lists of rows. What is told of rows is then known of them, and stays known. Rests on Marks and Rows. Assumes nothing.
use mathlib.Core.Path.{◌≡◌, refl, sym, ap, ◌∙◌}
use mathlib.Core.Bool.{Bool, true, false, cond, ◌&&◌, ◌||◌}
use mathlib.Core.List.{List, [], ◌∷◌, ◌++◌, map}
use Prim.Native.Nat.{ℕ, ◌+◌}
use native.Mathlib.Nat.{add-zero}
use lib.Dec.{ltb, eqb}
use lib.ListN.{length, get_or}
use Rattle.lists.specs.Lists.{bit, any}
use Rattle.lists.proofs.Tests.{bit_is_one}
use Rattle.lists.proofs.Unions.{any_append}
use Rattle.search.specs.Solutions.{sum}
use Rattle.counting.specs.Counting.{counts_to, some_counts, gives, holds_mine, leaves_free, Marked, Walked}
use Rattle.counting.specs.States.{Known}
use Rattle.counting.proofs.Marks.{marked_nowhere, marked_already, marked_same, marked_both, marked_all, marked_stays}
use Rattle.counting.proofs.Rows.{some_append, any_value, reach_value, gives_value}

-- no mark is taken away
pub record Grown (before after : List ℕ) : Type 0 where
  pub whole : length after ≡ length before
  pub at : (x : ℕ) → get_or before x 0 ≡ 1 → get_or after x 0 ≡ 1

pub grown_same : (marks : List ℕ) → Grown marks marks
grown_same marks = record { whole = refl; at = λ x e. e }

pub grown_marked : {test : ℕ → Bool} {before after : List ℕ} → Marked test before after → Grown before after
grown_marked m = record { whole = m.whole; at = λ x. marked_stays m x }

-- two tests in the other order
turned : (a b : Bool) → (a && b) ≡ (b && a)
turned true true = refl
turned true false = refl
turned false true = refl
turned false false = refl

module _ {allowed sizes : List ℕ} {count : ℕ} where
  -- no rows
  pub walked_none : (gs reached mined unfilled : List ℕ) → Walked allowed sizes count gs [] false reached mined unfilled reached mined unfilled
  walked_none gs reached mined unfilled = record {
    finds = refl;
    reaches = marked_nowhere _ reached (λ x. refl);
    mines = marked_nowhere _ mined (λ x. refl);
    frees = marked_nowhere _ unfilled (λ x. refl);
  }

  -- no group: one row where all is met
  pub walked_leaf : (met found : Bool) (reached after mined unfilled : List ℕ) → found ≡ (met && eqb (get_or allowed count 0) 1) → Marked (λ x. eqb count x && found) reached after
      → Walked allowed sizes count [] (cond met ([] ∷ []) []) found reached mined unfilled after mined unfilled
  walked_leaf true found reached after mined unfilled e m = record {
    finds = e ∙ sym (plain (eqb (get_or allowed (count + 0) 0) 1) ∙ same);
    reaches = marked_same m (λ x. turned (eqb count x) found ∙ ap (λ (t : Bool). t && eqb count x) (e ∙ sym same) ∙ ap (λ (n : ℕ). eqb (get_or allowed (count + 0) 0) 1 && eqb n x) (sym (add-zero count)) ∙ sym (plain _));
    mines = marked_nowhere _ mined (λ x. none (eqb (get_or allowed (count + 0) 0) 1));
    frees = marked_nowhere _ unfilled (λ x. none (eqb (get_or allowed (count + 0) 0) 1));
  }
    where
      same : eqb (get_or allowed (count + 0) 0) 1 ≡ eqb (get_or allowed count 0) 1
      same = ap (λ (n : ℕ). eqb (get_or allowed n 0) 1) (add-zero count)

      plain : (t : Bool) → (t || false) ≡ t
      plain true = refl
      plain false = refl

      none : (t : Bool) → ((t && false) || false) ≡ false
      none true = refl
      none false = refl
  walked_leaf false found reached after mined unfilled e m = record {
    finds = e;
    reaches = marked_same m (λ x. turned (eqb count x) found ∙ ap (λ (t : Bool). t && eqb count x) e);
    mines = marked_nowhere _ mined (λ x. refl);
    frees = marked_nowhere _ unfilled (λ x. refl);
  }

  -- rows that the table knows
  pub walked_known : {gs : List ℕ} {rows : List (List ℕ)} {found : ℕ} {reached mined unfilled : List ℕ} → Known allowed sizes count gs rows found reached mined unfilled
      → Walked allowed sizes count gs rows (eqb found 1) reached mined unfilled reached mined unfilled
  walked_known {reached = reached} {mined = mined} {unfilled = unfilled} k = record {
    finds = k.finds;
    reaches = marked_already _ reached k.reaches;
    mines = marked_already _ mined k.mines;
    frees = marked_already _ unfilled k.frees;
  }

  -- and rows of which a walk tells are known
  pub known_walked : {gs : List ℕ} {rows : List (List ℕ)} {found : Bool} {reached mined unfilled reached' mined' unfilled' : List ℕ}
      → Walked allowed sizes count gs rows found reached mined unfilled reached' mined' unfilled' → Known allowed sizes count gs rows (bit found) reached' mined' unfilled'
  known_walked {found = found} w = record {
    finds = bit_is_one found ∙ w.finds;
    reaches = marked_all w.reaches;
    mines = marked_all w.mines;
    frees = marked_all w.frees;
  }

  -- what is known stays known
  pub known_grown : {gs : List ℕ} {rows : List (List ℕ)} {found : ℕ} {reached mined unfilled reached' mined' unfilled' : List ℕ} → Grown reached reached' → Grown mined mined' → Grown unfilled unfilled'
      → Known allowed sizes count gs rows found reached mined unfilled → Known allowed sizes count gs rows found reached' mined' unfilled'
  known_grown r m u k = record {
    finds = k.finds;
    reaches = λ x e. r.at x (k.reaches x e);
    mines = λ x e. m.at x (k.mines x e);
    frees = λ x e. u.at x (k.frees x e);
  }

  -- two lists of rows
  pub walked_more : {gs : List ℕ} {xs ys : List (List ℕ)} {found later : Bool} {reached mined unfilled reached' mined' unfilled' reached'' mined'' unfilled'' : List ℕ}
      → Walked allowed sizes count gs xs found reached mined unfilled reached' mined' unfilled' → Walked allowed sizes count gs ys later reached' mined' unfilled' reached'' mined'' unfilled''
      → Walked allowed sizes count gs (xs ++ ys) (found || later) reached mined unfilled reached'' mined'' unfilled''
  walked_more {gs} {xs} {ys} {found} {later} w u = record {
    finds = ap (λ (t : Bool). t || later) w.finds ∙ ap (λ (t : Bool). any (counts_to allowed count) xs || t) u.finds ∙ sym (any_append (counts_to allowed count) xs ys);
    reaches = marked_same (marked_both w.reaches u.reaches) (λ x. sym (some_append allowed count (λ row. eqb (count + sum row) x) xs ys));
    mines = marked_same (marked_both w.mines u.mines) (λ x. sym (some_append allowed count (gives holds_mine gs x) xs ys));
    frees = marked_same (marked_both w.frees u.frees) (λ x. sym (some_append allowed count (gives (leaves_free sizes) gs x) xs ys));
  }

  -- rows with a value before each, which is noted where one of them counts
  pub walked_value : {gs : List ℕ} {rows : List (List ℕ)} {found : Bool} {reached mined unfilled reached' mined' unfilled' mined'' unfilled'' : List ℕ} (g v : ℕ)
      → Walked allowed sizes (count + v) gs rows found reached mined unfilled reached' mined' unfilled'
      → Marked (λ x. found && (eqb g x && ltb 0 v)) mined' mined'' → Marked (λ x. found && (eqb g x && ltb v (get_or sizes g 0))) unfilled' unfilled''
      → Walked allowed sizes count (g ∷ gs) (map (λ (row : List ℕ). v ∷ row) rows) found reached mined unfilled reached' mined'' unfilled''
  walked_value {gs} {rows} {found} g v w m u = record {
    finds = w.finds ∙ sym (any_value allowed count v rows);
    reaches = marked_same w.reaches (λ x. sym (reach_value allowed count v x rows));
    mines = marked_same (marked_both w.mines m) (λ x. noted holds_mine x);
    frees = marked_same (marked_both w.frees u) (λ x. noted (leaves_free sizes) x);
  }
    where
      noted : (test : ℕ → ℕ → Bool) (x : ℕ)
          → (some_counts allowed (count + v) (gives test gs x) rows || (found && (eqb g x && test g v))) ≡ some_counts allowed count (gives test (g ∷ gs) x) (map (λ (row : List ℕ). v ∷ row) rows)
      noted test x =
          ap (λ (t : Bool). some_counts allowed (count + v) (gives test gs x) rows || (t && (eqb g x && test g v))) w.finds
          ∙ sym (gives_value allowed count test g gs x v rows)
