-- When a table of legs keeps its limits.
use Rattle.std.specs.Prelude.{ℕ, ◌<◌, ◌≤◌, List, length, ◌≢◌, slice_index, slice_index_or}
use Rattle.legs.specs.declared.leg.Leg.{Leg}

-- leg t; past the last one, a leg of zeros
abbrev pub leg_at : List Leg → ℕ → Leg
leg_at legs t = slice_index_or legs t (record { a = 0; b = 0; passages = 0 })

-- both ends are seats, they are not the same, and there are 1 to 1,000 passages
abbrev pub LawfulLeg : ℕ → Leg → Type 0
LawfulLeg seats leg = (leg.a < seats) × (leg.b < seats) × (leg.a ≢ leg.b) × (1 ≤ leg.passages) × (leg.passages ≤ 1000)

-- there are 1 to 64 seats and at most 256 legs
abbrev pub FewLegs : ℕ → List Leg → Type 0
FewLegs seats legs = (1 ≤ seats) × (seats ≤ 64) × (length legs ≤ 256)

-- each leg is lawful
abbrev pub LawfulLegs : ℕ → List Leg → Type 0
LawfulLegs seats legs = (t : ℕ) → t < length legs → LawfulLeg seats (leg_at legs t)

-- the first-named end of each leg has no more than all of it
abbrev pub WithinLegs : List Leg → List ℕ → Type 0
WithinLegs legs first = (t : ℕ) → t < length legs → slice_index first t ≤ (leg_at legs t).passages
