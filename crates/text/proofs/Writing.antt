-- Texts written one behind the other. Where the first ends inside the buffer, the second begins at its end; where the buffer was full, the second changes nothing, and
-- neither would the rest of both together. So any two writes are one, and a loop that writes in each turn writes one text. Rests on the laws of runs of stores. Assumes nothing.
use Prim.Native.Nat.{ℕ, ◌+◌, ◌-◌, ◌≤◌, ◌<◌}
use mathlib.Core.Path.{◌≡◌, refl, sym, ap, ◌∙◌}
use mathlib.Core.List.{List, [], ◌++◌, map}
use native.Mathlib.Decide.{dec_lt}
use native.Mathlib.Omega.{arith}
use lib.ListN.{length, take, get_or, length-append}
use lib.Seq.{sets, length-sets, take_all}
use Rattle.std.proofs.lemmas.List.{take_more}
use Rattle.lists.specs.Lists.{range, joined}
use Rattle.lists.proofs.Joined.{joined_range_last, joined_push}
use Rattle.lists.proofs.Stores.{sets_append, sets_past_end}
use Rattle.text.specs.declared.Text.{Text}
use Rattle.text.specs.Text.{Written, Wrote}

-- ---- a single write

pub wrote_none : (a : Text) → Wrote a a []
wrote_none a = record { same_buffer = refl; is = refl; next = omega arith }

-- a text that is all that was written stands at the buffer's front
pub written_front : {start end : Text} {text b out : List ℕ} {r : ℕ} → Wrote start end text → start.out.now ≡ b → start.len ≡ 0 → out ≡ end.out.now → r ≡ end.len → Written b 0 text out r
written_front {start} {end} {text} {b} {out} {r} w front none left count =
    record { is = left ∙ w.is ∙ rw (front, none); next = let e : length start.out.now ≡ length b = ap length front in omega (arith, w.next) }

module _ {b : List ℕ} {at : ℕ} {x after : List ℕ} {r : ℕ} (w : Written b at x after r) where
  pub written_length : length after ≡ length b
  written_length = ap length w.is ∙ length-sets b at x

  pub written_within : r ≤ length after
  written_within = omega (arith, w.next, written_length)

-- ---- two writes

pub wrote_both : {a b c : Text} {x y : List ℕ} → Wrote a b x → Wrote b c y → Wrote a c (x ++ y)
wrote_both {a} {b} {c} {x} {y} v w =
    record {
      same_buffer = w.same_buffer ∙ v.same_buffer;
      is = w.is ∙ go (dec_lt (a.len + length x) (length a.out.now));
      next = omega (arith, v.next, w.next, long, length-append x y);
    }
  where
    long : length b.out.now ≡ length a.out.now
    long = ap length v.is ∙ length-sets a.out.now a.len x

    stored : sets b.out.now (a.len + length x) y ≡ sets a.out.now a.len (x ++ y)
    stored = rw v.is (sym (sets_append a.out.now a.len x y))

    go : Dec (a.len + length x < length a.out.now) → sets b.out.now b.len y ≡ sets a.out.now a.len (x ++ y)
    go (yes i) = let e : b.len ≡ a.len + length x = omega (arith, v.next) in rw e stored
    go (no i) =
        sets_past_end b.out.now b.len y (omega (arith, v.next, long))
        ∙ sym (sets_past_end b.out.now (a.len + length x) y (omega (arith, long)))
        ∙ stored

-- ---- loops

-- of a loop that writes f x for each x of a list: the text of those up to place i, and then that of the next
module _ {A : Type 0} {before now : Text} (f : A → List ℕ) (l : List A) (i : ℕ) where
  pub wrote_next : {after : Text} (d : A) → i < length l → Wrote before now (joined (map f (take i l))) → Wrote now after (f (get_or l i d))
      → Wrote before after (joined (map f (take (i + 1) l)))
  wrote_next d h v w =
      let e : joined (map f (take (i + 1) l)) ≡ joined (map f (take i l)) ++ f (get_or l i d) = ap (λ (x : List A). joined (map f x)) (take_more l i d h) ∙ joined_push f (take i l) (get_or l i d) in
      rw e (wrote_both v w)

  pub wrote_all : length l ≤ i → Wrote before now (joined (map f (take i l))) → Wrote before now (joined (map f l))
  wrote_all h v = rw (take_all i l h) at v

-- of a loop that writes f i for each i from `from` on
module _ {before now : Text} (f : ℕ → List ℕ) (from i : ℕ) where
  pub wrote_place : {after : Text} → from ≤ i → Wrote before now (joined (map f (range from (i - from)))) → Wrote now after (f i)
      → Wrote before after (joined (map f (range from (i + 1 - from))))
  wrote_place h v w = rw (joined_range_last f from i h) (wrote_both v w)
