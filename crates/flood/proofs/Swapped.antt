-- Lists joined in another order have the same numbers. Assumes nothing.
use mathlib.Core.Path.{◌≡◌, sym, ◌∙◌}
use mathlib.Core.Bool.{or_comm}
use mathlib.Core.List.{List, ◌++◌, append_assoc}
use Prim.Native.Nat.{ℕ}
use Rattle.lists.specs.Lists.{has}
use Rattle.lists.proofs.Members.{has_append}

pub has_swapped : (k l : List ℕ) (c : ℕ) → has (k ++ l) c ≡ has (l ++ k) c
has_swapped k l c = has_append k l c ∙ or_comm (has k c) (has l c) ∙ sym (has_append l k c)

-- the first of three goes to the end
pub has_moved : (k l m : List ℕ) (c : ℕ) → has (k ++ (l ++ m)) c ≡ has (l ++ (m ++ k)) c
has_moved k l m c = rw append_assoc at (has_swapped k (l ++ m) c)
