-- How the passages of legs are divided between their ends.
use Rattle.std.specs.Prelude.{◌≡◌, ℕ, ◌-◌, ◌<◌, cond, ◌⊎◌, List, length, ◌==◌, slice_index}
use Rattle.bases.specs.Sums.{sum_to}
use Rattle.items.specs.Fillings.{Shape}
use Rattle.legs.specs.declared.leg.Leg.{Leg}
use Rattle.legs.specs.Lawful.{leg_at}

-- x at seat a, y at seat b, and nothing elsewhere
abbrev pub at_ends : ℕ → ℕ → ℕ → ℕ → ℕ → ℕ
at_ends a b x y seat = cond (seat == a) x (cond (seat == b) y 0)

-- the share of a seat in a leg of which end a has x
abbrev pub share_of : Leg → ℕ → ℕ → ℕ
share_of leg x seat = at_ends leg.a leg.b x (leg.passages - x) seat

-- either end of a leg can have all of it, and no other seat any
abbrev pub room_of : Leg → ℕ → ℕ
room_of leg seat = at_ends leg.a leg.b leg.passages leg.passages seat

-- the seats, the legs, their rooms and passages
abbrev pub shape_of : ℕ → List Leg → Shape
shape_of seats legs = record { seats = seats; items = length legs; room = λ t seat. room_of (leg_at legs t) seat; due = λ t. (leg_at legs t).passages }

-- the share of a seat in leg t
abbrev pub amount_of : List Leg → List ℕ → ℕ → ℕ → ℕ
amount_of legs first t seat = share_of (leg_at legs t) (slice_index first t) seat

-- all passages
abbrev pub most_of : List Leg → ℕ
most_of legs = sum_to (length legs) (λ t. (leg_at legs t).passages)

-- a leg of which end a has x links its end a to b where a has a share, and b to a where b has one
abbrev pub LegLinks : Leg → ℕ → ℕ → ℕ → Type 0
LegLinks leg x u v = ((u ≡ leg.a) × (v ≡ leg.b) × (0 < x)) ⊎ ((u ≡ leg.b) × (v ≡ leg.a) × (x < leg.passages))

-- one of the first n legs links u to v
abbrev pub SomeLinks : List Leg → List ℕ → ℕ → ℕ → ℕ → Type 0
SomeLinks legs first n u v = (t : ℕ) × (t < n) × LegLinks (leg_at legs t) (slice_index first t) u v

-- leg t is the first that links u to v
abbrev pub FirstLinks : List Leg → List ℕ → ℕ → ℕ → ℕ → Type 0
FirstLinks legs first u v t =
    (t < length legs) × LegLinks (leg_at legs t) (slice_index first t) u v × (SomeLinks legs first t u v → ⊥)
