-- The corners of the board are looked at one after another, each where those before it have no pattern: what that tells is whether one of the four has one.
-- Assumes nothing.
use mathlib.Core.Path.{◌≡◌, ap, ◌∙◌}
use mathlib.Core.Logic.{◌⊎◌, inl, inr}
use mathlib.Core.Bool.{Bool, true, false, ◌||◌, or_assoc}
use Prim.Native.Nat.{ℕ, ◌-◌}
use Rattle.patterns.specs.Shapes.{top_left, top_right, bottom_left, bottom_right, found_at, found_in_corner}

-- v is a where that is true, and else what b is
abbrev pub Either : Bool → Bool → Bool → Type 0
Either a b v = ((a ≡ true) × (v ≡ a)) ⊎ ((a ≡ false) × (v ≡ b))

pub either : {a b v : Bool} → Either a b v → v ≡ (a || b)
either (inl w) = rw (w.1, w.0)
either (inr w) = rw (w.0, w.1)

module _ (at : ℕ → ℕ → ℕ) (rows columns : ℕ) {a v w : Bool} (first : a ≡ found_at at 0 0 top_left)
    (second : Either a (found_at at 0 (columns - 2) top_right) v) (third : Either v (found_at at (rows - 2) 0 bottom_left) w) where
  three : w ≡ ((found_at at 0 0 top_left || found_at at 0 (columns - 2) top_right) || found_at at (rows - 2) 0 bottom_left)
  three = either third ∙ ap (λ (t : Bool). t || found_at at (rows - 2) 0 bottom_left) (either second ∙ ap (λ (t : Bool). t || found_at at 0 (columns - 2) top_right) first)

  fourth : (w || found_at at (rows - 2) (columns - 2) bottom_right) ≡ found_in_corner at rows columns
  unfolding found_in_corner
  fourth =
      rw three
      (or_assoc (found_at at 0 0 top_left || found_at at 0 (columns - 2) top_right) (found_at at (rows - 2) 0 bottom_left) (found_at at (rows - 2) (columns - 2) bottom_right))

  -- a corner before the last has one
  pub before_last : w ≡ true → w ≡ found_in_corner at rows columns
  before_last h = rw h (rw h at fourth)

  -- the last answers
  pub last_corner : w ≡ false → {d : Bool} → d ≡ found_at at (rows - 2) (columns - 2) bottom_right → d ≡ found_in_corner at rows columns
  last_corner h e = e ∙ rw h at fourth
