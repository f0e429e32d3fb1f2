-- The seats that links lead to are exactly the seats in reach.
use Rattle.std.specs.Prelude.{◌≡◌, ℕ, zero, suc, ◌+◌, ◌-◌, ◌<◌, ◌≤◌, List, length, ◌≢◌, slice_index, refl}
use Rattle.std.proofs.Common.{sym, ap, ◌∙◌, subst}
use Rattle.std.proofs.Math.Logic.{⊎_elim}
use Rattle.std.proofs.Math.Nat.{zero-mul}
use native.Mathlib.Omega.{arith}
use Rattle.std.proofs.lemmas.Bool.{cases_eq}
use Rattle.seats.specs.Sets.{In}
use Rattle.seats.proofs.Digits.{digit}
use Rattle.seats.proofs.Members.{in_or_not, in_or_nought, out_nought}
use Rattle.bases.specs.Sums.{unit}
use Rattle.bases.specs.Exchange.{Reaches}
use Rattle.bases.specs.Says.{Stands}
use Rattle.bases.proofs.Moves.{moved_at}
use Rattle.bases.proofs.Toward.{reach_joins}
use Rattle.items.specs.Fillings.{Shape, Fills, Link, Divisions, load_of, loads_of, changed}
use Rattle.items.proofs.Units.{length_loads, loads_at, loaded, link_reaches}
use Rattle.items.proofs.Between.{divisions_exchange}
use Rattle.items.proofs.Weights.{weighed_move}
use Rattle.chains.specs.declared.spread.Spread.{Spread}
use Rattle.chains.specs.Chains.{Distances, from_of, far_of}

-- each base has a load for each seat
pub divisions_width : (shape : Shape) (x : List ℕ) → Divisions shape x → length x ≡ shape.seats
divisions_width shape x (f, fills, e) = ap length e ∙ length_loads shape f

-- a division always stands on the base of its loads
pub always_stands : (shape : Shape) (f : ℕ → ℕ → ℕ) (most : ℕ) → Fills shape f → most ≤ 999999 → Stands (Divisions shape) (loads_of shape f) most
always_stands shape f most fills small = ((f, fills, refl), small)

module _ (shape : Shape) (f : ℕ → ℕ → ℕ) (fills : Fills shape f) (i : ℕ) where
  -- a base that is one move away is the loads of a filling that differ by one unit at each of two seats
  pub moved_filling : (j : ℕ) (r : Reaches (Divisions shape) (loads_of shape f) i j) (s : ℕ) → s < shape.seats → load_of shape r.base.0 s + unit i s ≡ load_of shape f s + unit j s
  moved_filling j r s h =
      let g = r.base.0 in
      let at = moved_at (loads_of shape f) i j r.gives r.takes r.other s in
      let e = ap (λ (x : List ℕ). slice_index x s) r.base.2 in
      let a = loads_at shape f s h in
      let b = loads_at shape g s h in
      omega arith

  module _ (spread : Spread) (dist : Distances shape f i spread) where
    reached : (fuel v : ℕ) → far_of spread v ≤ fuel → In v spread.seen → (v ≢ i) → Reaches (Divisions shape) (loads_of shape f) i v
    reached zero v le h ne = absurd (let c = (dist.came v h ne).2 in omega arith)
    reached (suc fuel) v le h ne = by_link (dist.came v h ne) (λ u. reached fuel u)
      where
        by_link : In (from_of spread v) spread.seen × Link shape f (from_of spread v) v × (far_of spread v ≡ far_of spread (from_of spread v) + 1)
            → ((u : ℕ) → far_of spread u ≤ fuel → In u spread.seen → (u ≢ i) → Reaches (Divisions shape) (loads_of shape f) i u) → Reaches (Divisions shape) (loads_of shape f) i v
        by_link (hu, link, e) again =
            let u = from_of spread v in
            let last = link_reaches shape f u v fills link in
            ⊎_elim
            (λ (q : u ≡ i). subst (λ (k : ℕ). Reaches (Divisions shape) (loads_of shape f) k v) q last)
            (λ nq. reach_joins (Divisions shape) (divisions_exchange shape) shape.seats (divisions_width shape) (loads_of shape f) (f, fills, refl) i u v (λ q. ne (sym q)) (again u (omega arith) hu nq) last)
            (cases_eq u i)

    -- a seat that links lead to is in reach
    pub seen_reached : (v : ℕ) → In v spread.seen → (v ≢ i) → Reaches (Divisions shape) (loads_of shape f) i v
    seen_reached v = reached (far_of spread v) v (omega arith)

    -- one for each seat that is not seen
    unseen : ℕ → ℕ
    unseen s = 1 - digit s spread.seen

    -- no link leads out of the seats seen
    unseen_falls : (u v : ℕ) → Link shape f u v → unseen v ≤ unseen u + 0
    unfolding unseen
    unseen_falls u v link = ⊎_elim (λ h. let d = (dist.near u v h link).0 in omega arith) (λ z. omega arith) (in_or_nought u spread.seen)

    -- a seat in reach is one that links lead to: else the seats seen would have to give up a unit
    pub reached_seen : (j : ℕ) → Reaches (Divisions shape) (loads_of shape f) i j → In j spread.seen
    unfolding unseen
    reached_seen j r = ⊎_elim (λ h. h) (λ out. absurd (gives_up (out_nought j spread.seen out))) (in_or_not j spread.seen)
      where
        gives_up : digit j spread.seen ≡ 0 → ⊥
        gives_up z =
            let g = r.base.0 in
            let hi = loaded shape f i r.gives in
            let hj : j < shape.seats = let l = length_loads shape f in let t = r.takes in omega arith in
            let w = weighed_move shape f g fills r.base.1 unseen 0 unseen_falls i j hi hj (moved_filling j r) in
            let m = zero-mul (changed shape f g) in
            let s = dist.starts.0 in
            omega arith
