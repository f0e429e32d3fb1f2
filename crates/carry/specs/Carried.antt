-- Loads with a number carried for each seat.
use Rattle.std.specs.Prelude.{◌≡◌, ℕ, ◌+◌, max, cond, List, [], ◌∷◌, map, length, Ok, Err, Result, nat_le, nat_lt, slice_index, slice_set}
use Rattle.std.specs.List.{range_with_len}
use Rattle.faults.specs.declared.Fault.{Fault}
use Rattle.faults.specs.declared.Kind.TheVariants.{Carry as CarryKind}
use Rattle.faults.specs.declared.Reason.TheVariants.{NoSuchSeat, BeyondLimits, CeilingPassed}
use Rattle.faults.specs.Places.{fault_at, fault_nowhere}
use Rattle.bases.specs.Says.{Stands}

-- the loads x with the number of each seat added; a seat past the numbers has 0
abbrev pub added : List ℕ → List ℕ → List ℕ
added c x = map (λ k. slice_index c k + slice_index x k) (range_with_len 0 (length x))

-- the largest of the numbers, 0 where there is none
abbrev pub largest : List ℕ → ℕ
largest [] = 0
largest (n ∷ c) = max n (largest c)

-- the bases below with the numbers added
abbrev pub Carried : List ℕ → (List ℕ → Type 0) → List ℕ → Type 0
Carried c B x = (y : List ℕ) × B y × (x ≡ added c y)

-- the layer stands where it carries c, over a system with the bases B, the standing loads x and that ceiling
abbrev pub StandsOver : List ℕ → (List ℕ → Type 0) → List ℕ → ℕ → Type 0
StandsOver c B x ceiling = Stands (Carried c B) (added c x) (ceiling + largest c)

-- The answer to the wish that seat i carry n, over a system of that many seats with that ceiling, where c is carried:
-- refused where i is no seat, then where n is too large, then where the ceiling after the change would be too large.
abbrev pub carry_answer : ℕ → ℕ → List ℕ → ℕ → ℕ → Result (Unit {0}) Fault
carry_answer seats top c i n =
    cond (nat_lt i seats) (cond (nat_le n 900000) (cond (nat_le (top + largest (slice_set c i n)) 999999) (Ok tt)
    (Err (fault_at CeilingPassed i CarryKind))) (Err (fault_nowhere BeyondLimits CarryKind))) (Err (fault_at NoSuchSeat i CarryKind))
