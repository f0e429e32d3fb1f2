-- Which contents a page may have. Assumes nothing.
use Rattle.std.specs.Prelude.{◌≡◌, ℕ, ◌+◌, ◌^◌, Bool, true, cond, not, ◌&&◌, List, [], ◌∷◌, length, ◌==◌, count_ones, nat_le, nat_lt}
use Rattle.limits.specs.Limits.{most_seats, most_turns, most_legs, most_groups, most_need, most_passages, most_in_nest, most_carried, most_weight, most_steps, highest_load, most_bytes}
use Rattle.legs.specs.declared.leg.Leg.{Leg}
use Rattle.readings.specs.declared.page_limits.PageLimits.{PageLimits}
use Rattle.readings.specs.declared.orders.CapOrder.{CapOrder}
use Rattle.readings.specs.declared.orders.CarryOrder.{CarryOrder}
use Rattle.readings.specs.declared.orders.FavourOrder.{FavourOrder}
use Rattle.readings.specs.declared.orders.ShareOrder.{ShareOrder}
use Rattle.readings.specs.declared.rows.Group.{Group}
use Rattle.readings.specs.declared.rows.SeatRange.{SeatRange}
use Rattle.readings.specs.declared.rows.Turn.{Turn}
use Rattle.readings.specs.Contents.{Work, turns, legs, nests, Ordered, Content}
use Rattle.readings.specs.Texts.{text_of}

-- the most seats, turns and legs that a page may have
pub record Most : Type 0 where
  pub seats : ℕ
  pub turns : ℕ
  pub legs : ℕ

-- the limits of the pilot stations
abbrev pub stations : Most
stations = record { seats = most_seats; turns = most_turns; legs = most_legs }

abbrev pub most_of : PageLimits → Most
most_of limits = record { seats = limits.seats; turns = limits.turns; legs = limits.legs }

-- a test that each element of a list passes, with its number in the list, counted from k
abbrev pub every : {A : Type 0} → (ℕ → A → Bool) → ℕ → List A → Bool
every test k [] = true
every test k (x ∷ xs) = test k x && every test (k + 1) xs

-- of n seats: the turn needs no more than are licensed, and at most 64
abbrev pub lawful_turn : ℕ → ℕ → Turn → Bool
lawful_turn n k turn = nat_le turn.need most_need && (nat_le turn.need (count_ones turn.licensed) && nat_lt turn.licensed (2 ^ n))

-- both ends are seats, they are not the same, and there are 1 to 1,000 passages
abbrev pub lawful_leg : ℕ → ℕ → Leg → Bool
lawful_leg n k leg = nat_lt leg.a n && (nat_lt leg.b n && (not (leg.a == leg.b) && (nat_le 1 leg.passages && nat_le leg.passages most_passages)))

-- of m groups, number k: its parent is a lower group; group 0 names group 0, and its limits are the same
abbrev pub lawful_group : ℕ → ℕ → Group → Bool
lawful_group m k group =
    nat_lt group.parent m && (nat_le group.lo most_in_nest && (nat_le group.hi most_in_nest
    && cond (k == 0) (group.parent == 0 && group.lo == group.hi) (nat_lt group.parent k)))

-- it lies in one of m groups
abbrev pub lawful_range : ℕ → ℕ → SeatRange → Bool
lawful_range m k range = nat_lt range.group m && (nat_le range.lo most_in_nest && nat_le range.hi most_in_nest)

abbrev pub lawful_carry : ℕ → ℕ → CarryOrder → Bool
lawful_carry n k o = nat_lt o.seat n && nat_le o.carried most_carried

abbrev pub lawful_cap : ℕ → ℕ → CapOrder → Bool
lawful_cap n k o = nat_lt o.seat n && (nat_le o.lo highest_load && nat_le o.hi highest_load)

abbrev pub lawful_favour : ℕ → ℕ → FavourOrder → Bool
lawful_favour n k o = nat_lt o.set (2 ^ n)

abbrev pub lawful_share : ℕ → ℕ → ShareOrder → Bool
lawful_share n k o = nat_lt o.seat n && (nat_le 1 o.weight && nat_le o.weight most_weight)

-- there are not too many rows, and each is lawful; nests have 1 to 32 groups, and a range for each seat
abbrev pub lawful_work : Most → ℕ → Work → Bool
lawful_work most n (turns rows) = nat_le (length rows) most.turns && every (lawful_turn n) 0 rows
lawful_work most n (legs rows) = nat_le (length rows) most.legs && every (lawful_leg n) 0 rows
lawful_work most n (nests groups ranges) =
    nat_le 1 (length groups) && (nat_le (length groups) most_groups && (every (lawful_group (length groups)) 0 groups
    && (length ranges == n && every (lawful_range (length groups)) 0 ranges)))

abbrev pub lawful_orders : ℕ → Ordered → Bool
lawful_orders n o = every (lawful_carry n) 0 o.carries && (every (lawful_cap n) 0 o.caps && (every (lawful_favour n) 0 o.favours && every (lawful_share n) 0 o.shares))

-- a content that a page may have: every number keeps its limits, and the page is not too long
unfoldable pub lawful : Most → Content → Bool
lawful most c =
    nat_le 1 c.seats && (nat_le c.seats most.seats && (nat_le c.budget most_steps
    && (lawful_work most c.seats c.work && (lawful_orders c.seats c.orders && nat_le (length (text_of c)) most_bytes))))

abbrev pub Lawful : Most → Content → Type 0
Lawful most c = lawful most c ≡ true
