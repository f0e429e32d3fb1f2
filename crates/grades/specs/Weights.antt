-- Weights of seats, and units graded by loads divided by weights.
use Rattle.std.specs.Prelude.{ℕ, ◌*◌, ◌≤◌, Bool, cond, ◌||◌, List, Ok, Err, Result, ◌==◌, nat_le, nat_lt, slice_index_or}
use Rattle.faults.specs.declared.Fault.{Fault}
use Rattle.faults.specs.declared.Kind.TheVariants.{Shares as SharesKind}
use Rattle.faults.specs.declared.Reason.TheVariants.{NoSuchSeat, BeyondLimits}
use Rattle.faults.specs.Places.{fault_at, fault_nowhere}

-- the weight of seat i; a seat past the weights has 1
abbrev pub weight_of : List ℕ → ℕ → ℕ
weight_of weights i = slice_index_or weights i 1

-- each weight is from 1 to 100
abbrev pub Weights : List ℕ → Type 0
Weights weights = (i : ℕ) → (1 ≤ weight_of weights i) × (weight_of weights i ≤ 100)

-- The unit with the greater share is above. The share of unit u of seat i is the fraction u / weight i, and
-- u / weight i > v / weight j says that u * weight j > v * weight i.
abbrev pub by_shares : (ℕ → ℕ) → ℕ → ℕ → ℕ → ℕ → Bool
by_shares weight i u j v = nat_lt (v * weight i) (u * weight j)

-- The answer to the wish that seat i of so many seats weigh w: refused where i is no seat, or none of the 64 that there can be,
-- then where w is not from 1 to 100.
abbrev pub weigh_answer : ℕ → ℕ → ℕ → Result (Unit {0}) Fault
weigh_answer seats i w =
    cond (nat_le seats i || nat_le 64 i) (Err (fault_at NoSuchSeat i SharesKind))
    (cond (w == 0 || nat_lt 100 w) (Err (fault_nowhere BeyondLimits SharesKind)) (Ok tt))
