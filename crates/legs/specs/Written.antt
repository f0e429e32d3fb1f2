-- The rows of a table of legs.
use Rattle.std.specs.Prelude.{ℕ, ◌-◌, List, map, length, slice_index}
use Rattle.std.specs.List.{range_with_len}
use Rattle.legs.specs.declared.leg.Leg.{Leg}
use Rattle.legs.specs.declared.leg.LegRow.{LegRow}
use Rattle.legs.specs.Lawful.{leg_at}
use Rattle.legs.specs.Shares.{at_ends}

-- the row of a leg of which end a has x
abbrev pub row_of : Leg → ℕ → LegRow
row_of leg x = record { a = leg.a; b = leg.b; share_a = x; share_b = leg.passages - x }

-- one row for each leg, in order
abbrev pub leg_rows : List Leg → List ℕ → List LegRow
leg_rows legs first = map (λ t. row_of (leg_at legs t) (slice_index first t)) (range_with_len 0 (length legs))

-- what a row gives to a seat
abbrev pub row_share : LegRow → ℕ → ℕ
row_share row seat = at_ends row.a row.b row.share_a row.share_b seat
