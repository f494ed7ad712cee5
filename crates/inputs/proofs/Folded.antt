-- Steps over a list, and then over another, are steps over both. Assumes nothing.
use Rattle.std.proofs.Common.{List, [], ◌∷◌, ◌++◌}
use Rattle.std.specs.List.{FoldsTo}

pub folds_append : {P A : Type 0} (R : P → A → P → Type 0) (p : P) (xs ys : List A) (q r : P) → FoldsTo R p xs q → FoldsTo R q ys r → FoldsTo R p (xs ++ ys) r
folds_append R p [] ys q r e f = rw e f
folds_append R p (x ∷ xs) ys q r e f = (e.0, e.1, folds_append R e.0 xs ys q r e.2 f)
