-- `read_full` meets its contract: what a read brings into the rest of the part stands behind what is in. Assumes nothing.
use mathlib.Core.Path.{◌≡◌, sym, ap, subst, ◌∙◌}
use mathlib.Core.List.{List, ◌++◌, append-nil}
use Prim.Native.Nat.{ℕ, ◌+◌, ◌-◌, ◌≤◌}
use native.Mathlib.Omega.{arith}
use borrow.Author.Rules.{rules}
use borrow.Rule.Slice.PartMut.{put_mid}
use lib.ListN.{length, take, drop, drop_of_length-le}
use lib.Seq.{length-take-le, drop-drop, take-append-add}
use Rattle.std.specs.Io.KnownBytes.{Consumes}
use Rattle.std.proofs.KnownBytes.{Consumes-trans}
use Rattle.inputs.proofs.read_full.Goals as goal

-- what is read into the rest of a list stands behind its front
read_behind : (t ys : List ℕ) (a n : ℕ) → a ≤ length t → take (a + n) (put_mid a (length t - a) t ys) ≡ take a t ++ take n ys
read_behind t ys a n h =
    rw (drop-drop, drop_of_length-le t {i = a + (length t - a)} (omega arith), append-nil)
    (ap (λ (k : ℕ). take (k + n) (take a t ++ ys)) (sym (length-take-le a t h)) ∙ take-append-add (take a t) ys n)

pub loop-done-preserved : goal.loop-done-preserved
loop-done-preserved g c =
    let t = c.loop-done.part in
    let kept = c.loop-done.invariant in
    let long : length (put_mid c.loop-done.done (length t - c.loop-done.done) t c.read.new.buf) ≡ length t = search rules in
    let came : length c.read.new.buf ≡ length t - c.loop-done.done = search rules in (
      long ∙ kept.0,
      omega (arith, long, came, kept.1, c.in-Ok.ensures.bound.0),
      rw (read_behind t c.read.new.buf c.loop-done.done c.in-Ok.came kept.1)
          (Consumes-trans _ _ _ (take c.loop-done.done t) (take c.in-Ok.came c.read.new.buf) kept.2 c.in-Ok.ensures.bytes.0),
    )
