-- What is known of the seats that chains of links lead to from one seat.
use Rattle.std.specs.Prelude.{◌≡◌, ℕ, ◌+◌, ◌<◌, ◌≤◌, List, ◌≢◌, slice_index_or}
use Rattle.seats.specs.Sets.{In}
use Rattle.items.specs.Fillings.{Shape, Link, load_of, loads_of, changed}
use Rattle.bases.specs.Exchange.{moved}
use Rattle.bases.specs.Sums.{unit}
use Rattle.chains.specs.declared.spread.Spread.{Spread}
use Rattle.chains.specs.declared.spread.Mark.{Mark}

-- the mark of a seat; a number past the 64 seats has none, and reads as one of zeros
abbrev pub mark_of : List Mark → ℕ → Mark
mark_of marks v = slice_index_or marks v (record { from = 0; far = 0 })

-- the seat from which a seat was first come to
abbrev pub from_of : Spread → ℕ → ℕ
from_of spread v = (mark_of spread.marks v).from

-- and over how many links
abbrev pub far_of : Spread → ℕ → ℕ
far_of spread v = (mark_of spread.marks v).far

-- The seats seen are those that links lead to from i, i among them. The mark of each tells by how few links, which is below the
-- number of seats, and the seat before on a chain so short.
pub record Distances (shape : Shape) (f : ℕ → ℕ → ℕ) (i : ℕ) (spread : Spread) : Type 0 where
  pub starts : In i spread.seen × (far_of spread i ≡ 0)
  pub inside : (v : ℕ) → In v spread.seen → v < shape.seats
  pub came : (v : ℕ) → In v spread.seen → (v ≢ i) → In (from_of spread v) spread.seen × Link shape f (from_of spread v) v × (far_of spread v ≡ far_of spread (from_of spread v) + 1)
  pub near : (u v : ℕ) → In u spread.seen → Link shape f u v → In v spread.seen × (far_of spread v ≤ far_of spread u + 1)
  pub short : (v : ℕ) → In v spread.seen → far_of spread v < shape.seats

-- Between the fillings f and g one unit went from i to j, through third seats or not, and `count` units changed hands.
pub record Passed (shape : Shape) (f g : ℕ → ℕ → ℕ) (i j count : ℕ) : Type 0 where
  pub loads : (s : ℕ) → s < shape.seats → load_of shape g s + unit i s ≡ load_of shape f s + unit j s
  pub counts : count ≡ changed shape f g
  pub some : 1 ≤ count
  pub short : count < shape.seats

-- What a shift does to the whole division: the loads become those with one unit moved, and `count` units changed hands.
pub record Shifted (shape : Shape) (f g : ℕ → ℕ → ℕ) (i j count : ℕ) : Type 0 where
  pub moves : loads_of shape g ≡ moved (loads_of shape f) i j
  pub counts : count ≡ changed shape f g
