-- Moving one unit of one item from seat to seat.
use Rattle.std.proofs.Common.{◌≡◌, ℕ, ◌+◌, ◌-◌, ◌*◌, ◌<◌, ◌≤◌, length, get_or, sym, ap, ◌∙◌, ap₂, ⊎_elim, mul_comm, one-mul, mul-zero, zero-mul, mul-one, arith}
use Rattle.std.proofs.lemmas.List.FromFn.{length-map-range_with_len, get_or-map-range_with_len}
use Rattle.std.proofs.lemmas.List.{get_or_past}
use Rattle.std.proofs.lemmas.Bool.{cases_eq, cases_lt}
use Rattle.bases.specs.Sums.{sum_to, unit}
use Rattle.bases.specs.Exchange.{Reaches, moved}
use Rattle.bases.proofs.Sums.{unit_here, unit_other, sum_same, sum_le, sum_add, sum_times, sum_unit, term_le}
use Rattle.bases.proofs.Moves.{moved_is}
use Rattle.items.specs.Fillings.{Shape, Fills, load_of, loads_of, Divisions, Link, unit_at, Relayed, changed}

-- a unit stands at its own item and seat
pub unit_at_here : (item seat t s : ℕ) → item ≡ t → seat ≡ s → unit_at item seat t s ≡ 1
unit_at_here item seat t s p q = ap₂ (λ (a b : ℕ). a * b) (unit_here item t p) (unit_here seat s q)

-- of another item there is none
pub unit_at_item : (item seat t s : ℕ) → (item ≡ t → ⊥) → unit_at item seat t s ≡ 0
unit_at_item item seat t s ne = ap (λ (a : ℕ). a * unit seat s) (unit_other item t ne) ∙ zero-mul (unit seat s)

-- and at another seat there is none
pub unit_at_seat : (item seat t s : ℕ) → (seat ≡ s → ⊥) → unit_at item seat t s ≡ 0
unit_at_seat item seat t s ne = ap (λ (b : ℕ). unit item t * b) (unit_other seat s ne) ∙ mul-zero (unit item t)

-- a factor on the right may be drawn out
sum_times_right : (n c : ℕ) (f : ℕ → ℕ) → sum_to n (λ k. f k * c) ≡ sum_to n f * c
sum_times_right n c f = sum_same n (λ k. f k * c) (λ k. c * f k) (λ k h. mul_comm (f k) c) ∙ sum_times n c f ∙ mul_comm c (sum_to n f)

-- over the seats, a unit of an item adds up to one unit of that item
pub row_unit : (n item seat t : ℕ) → seat < n → sum_to n (unit_at item seat t) ≡ unit item t
row_unit n item seat t h = sum_times n (unit item t) (unit seat) ∙ ap (λ (a : ℕ). unit item t * a) (sum_unit n seat h) ∙ mul-one (unit item t)

-- over the items, it adds up to one unit of that seat
pub column_unit : (m item seat s : ℕ) → item < m → sum_to m (λ t. unit_at item seat t s) ≡ unit seat s
column_unit m item seat s h = sum_times_right m (unit seat s) (unit item) ∙ ap (λ (a : ℕ). a * unit seat s) (sum_unit m item h) ∙ one-mul (unit seat s)

-- over both, to one
pub whole_unit : (m n item seat : ℕ) → item < m → seat < n → sum_to m (λ t. sum_to n (unit_at item seat t)) ≡ 1
whole_unit m n item seat hi hs = sum_same m (λ t. sum_to n (unit_at item seat t)) (unit item) (λ t h. row_unit n item seat t hs) ∙ sum_unit m item hi

-- ---- sums over all items and seats
pub grid_le : (m n : ℕ) (f g : ℕ → ℕ → ℕ) → ((t s : ℕ) → t < m → s < n → f t s ≤ g t s) → sum_to m (λ t. sum_to n (f t)) ≤ sum_to m (λ t. sum_to n (g t))
grid_le m n f g h = sum_le m (λ t. sum_to n (f t)) (λ t. sum_to n (g t)) (λ t ht. sum_le n (f t) (g t) (λ s hs. h t s ht hs))

pub grid_same : (m n : ℕ) (f g : ℕ → ℕ → ℕ) → ((t s : ℕ) → t < m → s < n → f t s ≡ g t s) → sum_to m (λ t. sum_to n (f t)) ≡ sum_to m (λ t. sum_to n (g t))
grid_same m n f g h = sum_same m (λ t. sum_to n (f t)) (λ t. sum_to n (g t)) (λ t ht. sum_same n (f t) (g t) (λ s hs. h t s ht hs))

pub grid_add : (m n : ℕ) (f g : ℕ → ℕ → ℕ) → sum_to m (λ t. sum_to n (λ s. f t s + g t s)) ≡ sum_to m (λ t. sum_to n (f t)) + sum_to m (λ t. sum_to n (g t))
grid_add m n f g = sum_same m (λ t. sum_to n (λ s. f t s + g t s)) (λ t. sum_to n (f t) + sum_to n (g t)) (λ t h. sum_add n (f t) (g t)) ∙ sum_add m (λ t. sum_to n (f t)) (λ t. sum_to n (g t))

module _ (shape : Shape) where
  -- ---- loads as a list
  pub length_loads : (f : ℕ → ℕ → ℕ) → length (loads_of shape f) ≡ shape.seats
  length_loads f = length-map-range_with_len (load_of shape f) 0 shape.seats

  pub loads_at : (f : ℕ → ℕ → ℕ) (s : ℕ) → s < shape.seats → get_or (loads_of shape f) s 0 ≡ load_of shape f s
  loads_at f s h = get_or-map-range_with_len (load_of shape f) 0 shape.seats s s 0 h (omega arith)

  -- a seat that has a load is a seat
  pub loaded : (f : ℕ → ℕ → ℕ) (s : ℕ) → 0 < get_or (loads_of shape f) s 0 → s < shape.seats
  loaded f s h =
      ⊎_elim (λ p. p) (λ past. absurd (let l = length_loads f in let z = get_or_past (loads_of shape f) s 0 (omega arith) in omega arith)) (cases_lt s shape.seats)

  -- ---- a unit that goes from u to v
  module _ (f g : ℕ → ℕ → ℕ) (u v : ℕ) (r : Relayed shape f g u v) where
    -- the loads change by that unit
    pub relayed_load : (s : ℕ) → s < shape.seats → load_of shape g s + unit u s ≡ load_of shape f s + unit v s
    relayed_load s h =
        let m = shape.items in
        let item = r.item in
        let e = sum_same m (λ t. g t s + unit_at item u t s) (λ t. f t s + unit_at item v t s) (λ t l. r.change t s l h) in
        let a = sum_add m (λ t. g t s) (λ t. unit_at item u t s) in
        let b = sum_add m (λ t. f t s) (λ t. unit_at item v t s) in
        let cu = column_unit m item u s r.among in
        let cv = column_unit m item v s r.among in
        omega arith

    -- each item stays whole
    pub relayed_row : (t : ℕ) → t < shape.items → u < shape.seats → v < shape.seats → sum_to shape.seats (g t) ≡ sum_to shape.seats (f t)
    relayed_row t h hu hv =
        let n = shape.seats in
        let item = r.item in
        let e = sum_same n (λ s. g t s + unit_at item u t s) (λ s. f t s + unit_at item v t s) (λ s l. r.change t s h l) in
        let a = sum_add n (g t) (unit_at item u t) in
        let b = sum_add n (f t) (unit_at item v t) in
        let cu = row_unit n item u t hu in
        let cv = row_unit n item v t hv in
        omega arith

    -- at most one unit more has changed hands since any filling h
    pub relayed_changed : (h : ℕ → ℕ → ℕ) → v < shape.seats → changed shape h g ≤ changed shape h f + 1
    relayed_changed h hv =
        let m = shape.items in
        let n = shape.seats in
        let item = r.item in
        let le = grid_le m n (λ t s. g t s - h t s) (λ t s. f t s - h t s + unit_at item v t s) (λ t s ht hs. let e = r.change t s ht hs in omega arith) in
        let a = grid_add m n (λ t s. f t s - h t s) (unit_at item v) in
        let o = whole_unit m n item v r.among hv in
        omega arith

  -- the filling f after one unit of the item went from u to v
  abbrev pub given : (ℕ → ℕ → ℕ) → ℕ → ℕ → ℕ → ℕ → ℕ → ℕ
  given f item u v t s = f t s + unit_at item v t s - unit_at item u t s

  -- it is what relaying a unit makes
  pub given_relays : (f : ℕ → ℕ → ℕ) (item u v : ℕ) → item < shape.items → 0 < f item u → Relayed shape f (given f item u v) u v
  given_relays f item u v among has = record { item = item; among = among; change = λ t s ht hs. let l = enough t s in omega arith }
    where
      enough : (t s : ℕ) → unit_at item u t s ≤ f t s
      enough t s =
          ⊎_elim
          (λ (p : item ≡ t). ⊎_elim
          (λ (q : u ≡ s). let e = ap₂ f p q in let o = unit_at_here item u t s p q in omega arith)
          (λ nq. let z = unit_at_seat item u t s nq in omega arith) (cases_eq u s))
          (λ np. let z = unit_at_item item u t s np in omega arith) (cases_eq item t)

  -- where v has room, it is a filling again
  pub given_fills : (f : ℕ → ℕ → ℕ) (item u v : ℕ) → Fills shape f → item < shape.items → u < shape.seats → v < shape.seats
      → 0 < f item u → f item v < shape.room item v → (u ≡ v → ⊥) → Fills shape (given f item u v)
  given_fills f item u v fills among hu hv has takes other = record {
    within = within;
    whole = λ t h. relayed_row f (given f item u v) u v (given_relays f item u v among has) t h hu hv ∙ fills.whole t h;
  }
    where
      within : (t s : ℕ) → t < shape.items → s < shape.seats → given f item u v t s ≤ shape.room t s
      within t s ht hs =
          let w = fills.within t s ht hs in
          ⊎_elim
          (λ (p : item ≡ t). ⊎_elim
          (λ (q : v ≡ s). let e = ap₂ f p q in let e2 = ap₂ shape.room p q in let o = unit_at_here item v t s p q in
          let z = unit_at_seat item u t s (λ us. other (us ∙ sym q)) in omega arith)
          (λ nq. let z = unit_at_seat item v t s nq in omega arith) (cases_eq v s))
          (λ np. let z = unit_at_item item v t s np in omega arith) (cases_eq item t)

  -- loads that differ by one unit are a move of one unit
  pub moved_loads : (f g : ℕ → ℕ → ℕ) (i j : ℕ) → 0 < get_or (loads_of shape f) i 0 → j < shape.seats → (i ≡ j → ⊥)
      → ((s : ℕ) → s < shape.seats → load_of shape g s + unit i s ≡ load_of shape f s + unit j s) → loads_of shape g ≡ moved (loads_of shape f) i j
  moved_loads f g i j gives takes other at =
      let lf = length_loads f in
      let lg = length_loads g in
      moved_is (loads_of shape f) i j gives (omega arith) other (loads_of shape g) (lg ∙ sym lf)
      (λ s h. let hs : s < shape.seats = omega arith in let a = loads_at f s hs in let b = loads_at g s hs in let c = at s hs in omega arith)

  -- a link is one move
  pub link_reaches : (f : ℕ → ℕ → ℕ) (u v : ℕ) → Fills shape f → Link shape f u v → Reaches (Divisions shape) (loads_of shape f) u v
  link_reaches f u v fills link =
      let g = given f link.item u v in
      let r = given_relays f link.item u v link.among link.has in
      let new = given_fills f link.item u v fills link.among link.donor link.receiver link.has link.takes link.other in
      let l = length_loads f in
      let at = loads_at f u link.donor in
      let part = term_le shape.items (λ t. f t u) link.item link.among in
      let gives : 0 < get_or (loads_of shape f) u 0 = let has = link.has in omega arith in
      let to = link.receiver in
      record {
        gives = gives;
        takes = omega arith;
        other = link.other;
        base = (g, new, sym (moved_loads f g u v gives link.receiver link.other (relayed_load f g u v r)));
      }
