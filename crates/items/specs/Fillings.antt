-- Items that are divided among seats. Of each item there is a due amount, and each seat has a room for it.
-- A turn is an item of which each licensed seat can have one; a leg is an item of which both ends can have all.
use Rattle.std.specs.Prelude.{◌≡◌, ℕ, ◌+◌, ◌-◌, ◌*◌, ◌<◌, ◌≤◌, List, map}
use Rattle.std.specs.List.{range_with_len}
use Rattle.faults.specs.declared.Kind.{Kind}
use Rattle.bases.specs.Sums.{sum_to, unit}

-- how many seats and items there are, how much of item t seat s can have, and how much of item t is due
pub record Shape : Type 0 where
  pub seats : ℕ
  pub items : ℕ
  pub room : ℕ → ℕ → ℕ
  pub due : ℕ → ℕ

-- f t s is what seat s has of item t. A filling keeps to the rooms and gives out each item whole.
pub record Fills (shape : Shape) (f : ℕ → ℕ → ℕ) : Type 0 where
  pub within : (t s : ℕ) → t < shape.items → s < shape.seats → f t s ≤ shape.room t s
  pub whole : (t : ℕ) → t < shape.items → sum_to shape.seats (f t) ≡ shape.due t

-- the load of a seat is the sum of what it has of all items
abbrev pub load_of : Shape → (ℕ → ℕ → ℕ) → ℕ → ℕ
load_of shape f s = sum_to shape.items (λ t. f t s)

-- the loads of all seats
abbrev pub loads_of : Shape → (ℕ → ℕ → ℕ) → List ℕ
loads_of shape f = map (load_of shape f) (range_with_len 0 shape.seats)

-- the bases are the loads of all fillings
abbrev pub Divisions : Shape → List ℕ → Type 0
Divisions shape x = (f : ℕ → ℕ → ℕ) × Fills shape f × (x ≡ loads_of shape f)

-- seat u links to seat v: of some item u has something, and v has room for more
pub record Link (shape : Shape) (f : ℕ → ℕ → ℕ) (u v : ℕ) : Type 0 where
  pub item : ℕ
  pub among : item < shape.items
  pub donor : u < shape.seats
  pub receiver : v < shape.seats
  pub other : u ≡ v → ⊥
  pub has : 0 < f item u
  pub takes : f item v < shape.room item v

-- one unit of item t at seat s
abbrev pub unit_at : ℕ → ℕ → ℕ → ℕ → ℕ
unit_at item seat t s = unit item t * unit seat s

-- one unit of one item went from u to v, and nothing else changed
pub record Relayed (shape : Shape) (f g : ℕ → ℕ → ℕ) (u v : ℕ) : Type 0 where
  pub item : ℕ
  pub among : item < shape.items
  pub change : (t s : ℕ) → t < shape.items → s < shape.seats → g t s + unit_at item u t s ≡ f t s + unit_at item v t s

-- how many units changed hands between two fillings
abbrev pub changed : Shape → (ℕ → ℕ → ℕ) → (ℕ → ℕ → ℕ) → ℕ
changed shape f g = sum_to shape.items (λ t. sum_to shape.seats (λ s. g t s - f t s))

-- nothing of a store but its division changed from a to b: neither the shape nor the number that no load exceeds nor the sort
abbrev pub Kept : {D : Type 0} → (D → Shape) → (D → ℕ) → (D → Kind) → D → D → Type 0
Kept shape most sort a b = (shape b ≡ shape a) × (most b ≡ most a) × (sort b ≡ sort a)
