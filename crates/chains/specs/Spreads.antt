-- Going from seat to seat along links, breadth first.
use Rattle.std.specs.Prelude.{◌≡◌, ℕ, ◌+◌, ◌^◌, ◌<◌, ◌≤◌, ◌⊎◌, ◌≢◌, count_ones}
use Rattle.seats.specs.Sets.{In, Joined}
use Rattle.items.specs.Fillings.{Shape, Link}
use Rattle.chains.specs.declared.spread.Spread.{Spread}
use Rattle.chains.specs.Chains.{from_of, far_of}

-- the seats `new` were added to those seen, each as coming from u, `depth` links away; of all others nothing changed
pub record Marked (new u depth : ℕ) (spread spread' : Spread) : Type 0 where
  pub members : Joined spread.seen new spread'.seen
  pub small : spread'.seen < 2 ^ 64
  pub from_new : (v : ℕ) → In v new → from_of spread' v ≡ u
  pub far_new : (v : ℕ) → In v new → far_of spread' v ≡ depth
  pub from_old : (v : ℕ) → (In v new → ⊥) → from_of spread' v ≡ from_of spread v
  pub far_old : (v : ℕ) → (In v new → ⊥) → far_of spread' v ≡ far_of spread v

-- In the midst of it: the seats of `left`, `depth` links away, are still to be gone from; `next` has those found one link further;
-- from every other seat that was seen all links have been followed.
pub record Spreading (shape : Shape) (f : ℕ → ℕ → ℕ) (i : ℕ) (spread : Spread) (left next depth : ℕ) : Type 0 where
  pub small : spread.seen < 2 ^ 64
  pub starts : In i spread.seen × (far_of spread i ≡ 0)
  pub inside : (v : ℕ) → In v spread.seen → v < shape.seats
  pub came : (v : ℕ) → In v spread.seen → (v ≢ i) → In (from_of spread v) spread.seen × Link shape f (from_of spread v) v × (far_of spread v ≡ far_of spread (from_of spread v) + 1)
  pub short : (v : ℕ) → In v spread.seen → far_of spread v + 1 ≤ count_ones spread.seen
  pub to_go : (v : ℕ) → In v left → In v spread.seen × (far_of spread v ≡ depth)
  pub found : (v : ℕ) → In v next → In v spread.seen × (far_of spread v ≡ depth + 1)
  pub layered : (v : ℕ) → In v spread.seen → (far_of spread v ≤ depth) ⊎ In v next
  pub followed : (u v : ℕ) → In u spread.seen → (In u left → ⊥) → (In u next → ⊥) → Link shape f u v → In v spread.seen × (far_of spread v ≤ far_of spread u + 1)
