-- The rows of turns, legs and nests, column by column. Assumes nothing.
use Rattle.std.specs.Prelude.{ℕ, Bool, cond, not, ◌==◌, nat_le, nat_lt}
use Rattle.limits.specs.Limits.{most_need, most_passages, most_in_nest}
use Rattle.faults.specs.declared.Reason.TheVariants.{FewerLicensed, EndsEqual, ParentNotLower}
use Rattle.legs.specs.declared.leg.Leg.{Leg}
use Rattle.cursors.specs.Lists.{seat_set}
use Rattle.cursors.specs.Steps.{Step, ◌▸◌, done, number, number_below, seat, closed, line_end}
use Rattle.readings.specs.declared.rows.Group.{Group}
use Rattle.readings.specs.declared.rows.SeatRange.{SeatRange}
use Rattle.readings.specs.declared.rows.Turn.{Turn}

-- a turn among n seats: how many it needs, how many are licensed, and those, rising; at the end, no more are needed than are licensed
abbrev pub turn_line : ℕ → ℕ → Step Turn
turn_line n k = number 0 most_need ▸ λ need. number 0 n ▸ λ size. seat_set n size ▸ λ set. closed (nat_le need size) FewerLicensed ▸ λ _. done (record { need = need; licensed = set })

-- a leg among n seats: its ends, and 1 to 1,000 passages; at the end, the ends differ
abbrev pub leg_line : ℕ → ℕ → Step Leg
leg_line n k = seat 0 n ▸ λ a. seat 0 n ▸ λ b. number 1 most_passages ▸ λ c. closed (not (a == b)) EndsEqual ▸ λ _. done (record { a = a; b = b; passages = c })

-- the parent of group k is lower; that of group 0 is 0
abbrev pub lower_parent : ℕ → ℕ → Bool
lower_parent k parent = cond (k == 0) (parent == 0) (nat_lt parent k)

-- group k of m: its parent, and its limits, which for group 0 are the same; at the end, the parent is lower
abbrev pub group_line : ℕ → ℕ → Step Group
group_line m k =
    number_below m ▸ λ parent. number 0 most_in_nest ▸ λ lo. number (cond (k == 0) lo 0) (cond (k == 0) lo most_in_nest) ▸ λ hi.
    closed (lower_parent k parent) ParentNotLower ▸ λ _. done (record { parent = parent; lo = lo; hi = hi })

-- a seat of nests: its group, one of m, and the limits of its load
abbrev pub range_line : ℕ → ℕ → Step SeatRange
range_line m k = number_below m ▸ λ group. number 0 most_in_nest ▸ λ lo. number 0 most_in_nest ▸ λ hi. line_end ▸ λ _. done (record { group = group; lo = lo; hi = hi })
