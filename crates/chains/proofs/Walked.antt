-- Going back along a chain from its last seat j, and relaying one unit at each link.
use Rattle.std.proofs.Common.{◌≡◌, ℕ, ◌+◌, ◌-◌, ◌*◌, ◌<◌, ◌≤◌, min, sym, refl, ap, ◌∙◌, ⊎_elim, one-mul, zero-mul, arith}
use Rattle.seats.specs.Sets.{In}
use Rattle.seats.proofs.Digits.{digit}
use Rattle.seats.proofs.Members.{in_or_nought}
use Rattle.bases.specs.Sums.{unit, sum_to}
use Rattle.bases.proofs.Sums.{sum_none}
use Rattle.items.specs.Fillings.{Shape, Fills, Link, Relayed, load_of, changed}
use Rattle.items.proofs.Units.{unit_at_seat, relayed_load, relayed_changed}
use Rattle.items.proofs.Weights.{weighed_move}
use Rattle.chains.specs.declared.spread.Spread.{Spread}
use Rattle.chains.specs.Chains.{Distances, Passed, far_of}

-- Back as far as seat v: the filling h has one unit more than f at j and one less at v. Nothing changed at the seats nearer
-- to the start, and v has of no item more than before.
pub record Walked (shape : Shape) (f h : ℕ → ℕ → ℕ) (far : ℕ → ℕ) (j v count : ℕ) : Type 0 where
  pub untouched : (t s : ℕ) → t < shape.items → s < shape.seats → far s < far v → h t s ≡ f t s
  pub no_more : (t : ℕ) → t < shape.items → h t v ≤ f t v
  pub loads : (s : ℕ) → s < shape.seats → load_of shape h s + unit v s ≡ load_of shape f s + unit j s
  pub counts : count + far v ≡ far j
  pub few : changed shape f h ≤ count

module _ (shape : Shape) (f : ℕ → ℕ → ℕ) (far : ℕ → ℕ) (j : ℕ) where
  -- at j nothing has been done
  pub not_yet : Walked shape f f far j j 0
  not_yet = record {
    untouched = λ t s ht hs l. refl;
    no_more = λ t ht. omega arith;
    loads = λ s hs. refl;
    counts = omega arith;
    few = (let z = sum_none shape.items (λ t. sum_to shape.seats (λ s. f t s - f t s)) (λ t ht. sum_none shape.seats (λ s. f t s - f t s) (λ s hs. omega arith)) in omega arith);
  }

  module _ (h : ℕ → ℕ → ℕ) (u v count : ℕ) (walked : Walked shape f h far j v count) (link : Link shape f u v) (further : far v ≡ far u + 1) where
    -- the link that led to v still stands
    pub still_links : Link shape h u v
    still_links = record {
      item = link.item;
      among = link.among;
      donor = link.donor;
      receiver = link.receiver;
      other = link.other;
      has = (let e = walked.untouched link.item u link.among link.donor (omega arith) in let p = link.has in omega arith);
      takes = (let e = walked.no_more link.item link.among in let p = link.takes in omega arith);
    }

    -- and after one unit is relayed along it, we are back at u
    pub one_back : (h' : ℕ → ℕ → ℕ) → Relayed shape h h' u v → Walked shape f h' far j u (count + 1)
    one_back h' r = record {
      untouched = λ t s ht hs near.
          let c = r.change t s ht hs in
          let zu = unit_at_seat r.item u t s (λ e. let q = ap (λ (k : ℕ). far k) e in omega arith) in
          let zv = unit_at_seat r.item v t s (λ e. let q = ap (λ (k : ℕ). far k) e in omega arith) in
          let e = walked.untouched t s ht hs (omega arith) in
          omega arith;
      no_more = λ t ht.
          let c = r.change t u ht link.donor in
          let zv = unit_at_seat r.item v t u (λ e. link.other (sym e)) in
          let e = walked.untouched t u ht link.donor (omega arith) in
          omega arith;
      loads = λ s hs. let a = relayed_load shape h h' u v r s hs in let b = walked.loads s hs in omega arith;
      counts = let e = walked.counts in omega arith;
      few = let a = relayed_changed shape h h' u v r f link.receiver in let b = walked.few in omega arith;
    }

module _ (shape : Shape) (f h : ℕ → ℕ → ℕ) (ff : Fills shape f) (fh : Fills shape h) (i j : ℕ) (spread : Spread)
    (dist : Distances shape f i spread) (hj : In j spread.seen) (other : j ≡ i → ⊥) where
  -- how far a seat is, if no further than j: what is not seen counts as far as j
  distance : ℕ → ℕ
  distance s = min (far_of spread s + (1 - digit s spread.seen) * far_of spread j) (far_of spread j)

  distance_seen : (s : ℕ) → In s spread.seen → distance s ≡ min (far_of spread s) (far_of spread j)
  unfolding distance
  distance_seen s hs =
      let z : 1 - digit s spread.seen ≡ 0 = omega arith in
      let m = ap (λ (k : ℕ). k * far_of spread j) z ∙ zero-mul (far_of spread j) in
      omega arith

  distance_unseen : (s : ℕ) → digit s spread.seen ≡ 0 → distance s ≡ far_of spread j
  unfolding distance
  distance_unseen s z =
      let o : 1 - digit s spread.seen ≡ 1 = omega arith in
      let m = ap (λ (k : ℕ). k * far_of spread j) o ∙ one-mul (far_of spread j) in
      omega arith

  distance_le : (s : ℕ) → distance s ≤ far_of spread j
  unfolding distance
  distance_le s = omega arith

  -- a link leads at most one further
  distance_rises : (u v : ℕ) → Link shape f u v → distance v ≤ distance u + 1
  distance_rises u v link =
      ⊎_elim
      (λ hu. let n = dist.near u v hu link in let a = distance_seen u hu in let b = distance_seen v n.0 in let l = n.1 in omega arith)
      (λ z. let a = distance_unseen u z in let b = distance_le v in omega arith) (in_or_nought u spread.seen)

  -- back at i, the unit has passed from i to j, and as many units changed hands as there are links: fewer cannot do
  pub all_the_way : (count : ℕ) → Walked shape f h (far_of spread) j i count → Passed shape f h i j count
  all_the_way count walked =
      let start = dist.starts in
      let at_i = distance_seen i start.0 in
      let at_j = distance_seen j hj in
      let w = weighed_move shape f h ff fh distance 1 distance_rises i j (dist.inside i start.0) (dist.inside j hj) walked.loads in
      let o = one-mul (changed shape f h) in
      let c = walked.counts in
      let z = start.1 in
      let few = walked.few in
      let came = (dist.came j hj other).2 in
      let short = dist.short j hj in
      record {
        loads = walked.loads;
        counts = omega arith;
        some = omega arith;
        short = omega arith;
      }
