-- What a page says, with its lists. Assumes nothing.
use Rattle.std.specs.Prelude.{ℕ, List, vec_items}
use Rattle.legs.specs.declared.leg.Leg.{Leg}
use Rattle.readings.specs.declared.bottom.Bottom.{Bottom}
use Rattle.readings.specs.declared.bottom.Bottom.TheVariants.{Turns, Legs, Nests}
use Rattle.readings.specs.declared.orders.CapOrder.{CapOrder}
use Rattle.readings.specs.declared.orders.CarryOrder.{CarryOrder}
use Rattle.readings.specs.declared.orders.FavourOrder.{FavourOrder}
use Rattle.readings.specs.declared.orders.Orders.{Orders}
use Rattle.readings.specs.declared.orders.ShareOrder.{ShareOrder}
use Rattle.readings.specs.declared.rows.Group.{Group}
use Rattle.readings.specs.declared.rows.SeatRange.{SeatRange}
use Rattle.readings.specs.declared.rows.Turn.{Turn}

-- the bottom: turns, legs, or groups with the ranges of the seats
pub data Work : Type 0 where
  turns : List Turn → Work
  legs : List Leg → Work
  nests : List Group → List SeatRange → Work

-- the orders, kind by kind
pub record Ordered : Type 0 where
  pub carries : List CarryOrder
  pub caps : List CapOrder
  pub favours : List FavourOrder
  pub shares : List ShareOrder

-- a page: its seats, its budget, its bottom and its orders
pub record Content : Type 0 where
  pub seats : ℕ
  pub budget : ℕ
  pub work : Work
  pub orders : Ordered

abbrev pub work_of : Bottom → Work
work_of (Turns rows) = turns (vec_items rows)
work_of (Legs rows) = legs (vec_items rows)
work_of (Nests groups ranges) = nests (vec_items groups) (vec_items ranges)

abbrev pub ordered_of : Orders → Ordered
ordered_of o = record { carries = vec_items o.carries; caps = vec_items o.caps; favours = vec_items o.favours; shares = vec_items o.shares }

-- what is said by so many seats, this budget, this bottom and these orders
abbrev pub content_from : ℕ → ℕ → Bottom → Orders → Content
content_from seats budget bottom orders = record { seats = seats; budget = budget; work = work_of bottom; orders = ordered_of orders }
