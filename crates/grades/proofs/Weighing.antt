-- Weights that are all from 1 to 100.
use Rattle.std.proofs.Common.{ℕ, ◌≤◌, List, set, replicate, arith}
use Rattle.std.proofs.lemmas.List.{get_or-replicate, get_or_past, length-replicate, get_or-set_same, get_or-set_other, set_past}
use Rattle.grades.specs.Weights.{Weights}

-- they are so where all are the same such number
pub weights_same : (n w : ℕ) → 1 ≤ w → w ≤ 100 → Weights (replicate n w)
weights_same n w some few i = grind (arith, get_or-replicate, get_or_past, length-replicate {A = ℕ})

-- and stay so where one is replaced by such a number
pub weights_set : (weights : List ℕ) (i w : ℕ) → Weights weights → 1 ≤ w → w ≤ 100 → Weights (set weights i w)
weights_set weights i w within some few k = grind (arith, get_or-set_same, get_or-set_other, set_past, within)
