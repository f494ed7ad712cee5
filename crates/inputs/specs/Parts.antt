-- Cited by no public contract. What a step may say that it has taken of a part of an input. Assumes nothing.
use Rattle.std.specs.Prelude.{ℕ, List, ◌≤◌, ◌<◌, length, Option, Result, IfOk, IfSome}

-- some of the bytes of a part that has so many or more, where that is above 0
abbrev pub TakesSome : {E : Type 0} → ℕ → List ℕ → Result (Option ℕ) E → Type 0
TakesSome least part r = IfOk r (λ taken. IfSome taken (λ n. 0 < least → least ≤ length part → 0 < n))

-- no more bytes than the part has
abbrev pub TakesAtMost : {E : Type 0} → List ℕ → Result (Option ℕ) E → Type 0
TakesAtMost part r = IfOk r (λ taken. IfSome taken (λ n. n ≤ length part))
