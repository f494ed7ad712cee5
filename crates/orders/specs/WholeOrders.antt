-- Cited by no public contract. Orders that begin with some groups, and orders of all groups. Assumes nothing.
use Rattle.std.specs.Prelude.{◌≡◌, true, List, ℕ, ◌≤◌, ltb, length, take}
use Rattle.lists.specs.Lists.{all, nodup}
use Rattle.orders.specs.declared.Order.{Order}

-- the groups that are in it, in their order
abbrev pub in_order : Order → List ℕ
in_order o = take o.count o.groups

-- groups with which an order begins, as the struct has them
pub record Beginning (groups : ℕ) (begun : Order) : Type 0 where
  pub inside : all (λ g. ltb g groups) (in_order begun) ≡ true

-- an order of all groups, each once, that begins with them
pub record Completes (groups : ℕ) (begun : Order) (order : List ℕ) : Type 0 where
  pub whole : length order ≡ 1024
  pub few : begun.count ≤ groups
  pub front : take begun.count order ≡ in_order begun
  pub below : all (λ g. ltb g groups) (take groups order) ≡ true
  pub once : nodup (take groups order) ≡ true
