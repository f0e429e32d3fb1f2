-- The largest of some numbers, taken one after another.
use Rattle.std.proofs.Common.{◌≡◌, ℕ, max, List, [], ◌∷◌, arith}
use Rattle.std.specs.List.{fold}
use Rattle.carry.specs.Carried.{largest}

-- the larger of a number and the largest of some others
pub max_largest : (a : ℕ) (c : List ℕ) → fold max a c ≡ max a (largest c)
max_largest a [] = omega arith
max_largest a (n ∷ c) = let e = max_largest (max a n) c in omega arith
