-- The legs of a table as they stand: pairs of a leg and the share of its end a.
use Rattle.std.specs.Prelude.{ℕ, List, map, length, slice_index}
use Rattle.std.specs.List.{zip, range_with_len}
use Rattle.legs.specs.declared.leg.Leg.{Leg}
use Rattle.legs.specs.declared.moves.SharedLeg.{SharedLeg}
use Rattle.legs.specs.declared.moves.SharedLegs.{SharedLegs}
use Rattle.legs.specs.Lawful.{leg_at}

-- one pair for each leg, in order
abbrev pub pairs_of : List Leg → List ℕ → List (Leg × ℕ)
pairs_of legs first = map (λ t. (leg_at legs t, slice_index first t)) (range_with_len 0 (length legs))

-- a leg as it stands, as a pair
abbrev pub pair_of : SharedLeg → Leg × ℕ
pair_of shared = (shared.leg, shared.first)

-- the pairs that are left
abbrev pub pairs_left : SharedLegs → List (Leg × ℕ)
pairs_left left = zip left.legs.now left.first.now
