-- The links of a table are those of its legs, and a relay moves one unit along one.
use Rattle.std.proofs.Common.{◌≡◌, ℕ, ◌+◌, ◌-◌, ◌*◌, ◌<◌, ◌≤◌, List, length, get_or, set, sym, refl, ap, ◌∙◌, subst, inl, inr, ⊎_elim, one-mul, arith}
use Rattle.std.proofs.lemmas.List.{get_or-set_same, get_or-set_other}
use Rattle.std.proofs.lemmas.Bool.{cases_eq}
use Rattle.seats.specs.Sets.{In, Exactly, Joined}
use Rattle.seats.proofs.Members.{in_none}
use Rattle.bases.specs.Sums.{unit}
use Rattle.bases.proofs.Sums.{unit_here}
use Rattle.items.specs.Fillings.{Link, Relayed, unit_at}
use Rattle.items.proofs.Units.{unit_at_item}
use Rattle.legs.specs.declared.leg.Leg.{Leg}
use Rattle.legs.specs.Lawful.{leg_at, LawfulLegs, WithinLegs}
use Rattle.legs.specs.Shares.{share_of, room_of, shape_of, amount_of, LegLinks, SomeLinks}
use Rattle.legs.specs.Ends.{at_end, ends_a, ends_b, ends_else, ends_moved}

-- one leg, of which end a has x
module _ (leg : Leg) (x : ℕ) (ne : leg.a ≡ leg.b → ⊥) (within : x ≤ leg.passages) where
  -- a seat that it links has a share
  links_has : (u v : ℕ) → LegLinks leg x u v → 0 < share_of leg x u
  links_has u v (inl (p, q, some)) = let e = ends_a leg.a leg.b x (leg.passages - x) u p in omega arith
  links_has u v (inr (p, q, some)) = let e = ends_b leg.a leg.b x (leg.passages - x) u (λ r. ne (sym r ∙ p)) p in omega arith

  -- and the other has room
  links_takes : (u v : ℕ) → LegLinks leg x u v → share_of leg x v < room_of leg v
  links_takes u v (inl (p, q, some)) =
      let nv : v ≡ leg.a → ⊥ = λ r. ne (sym r ∙ q) in
      let e = ends_b leg.a leg.b x (leg.passages - x) v nv q in
      let f = ends_b leg.a leg.b leg.passages leg.passages v nv q in
      omega arith
  links_takes u v (inr (p, q, some)) =
      let e = ends_a leg.a leg.b x (leg.passages - x) v q in
      let f = ends_a leg.a leg.b leg.passages leg.passages v q in
      omega arith

  links_other : (u v : ℕ) → LegLinks leg x u v → u ≡ v → ⊥
  links_other u v (inl (p, q, some)) e = ne (sym p ∙ e ∙ q)
  links_other u v (inr (p, q, some)) e = ne (sym q ∙ sym e ∙ p)

  -- where one seat has a share and another has room, it links them
  links_since : (u v : ℕ) → (u ≡ v → ⊥) → 0 < share_of leg x u → share_of leg x v < room_of leg v → LegLinks leg x u v
  links_since u v other has takes = at_end leg.a leg.b v (LegLinks leg x u v) to_a to_b to_none
    where
      from_none : (u ≡ leg.a → ⊥) → (u ≡ leg.b → ⊥) → LegLinks leg x u v
      from_none na nb = absurd (let e = ends_else leg.a leg.b x (leg.passages - x) u na nb in omega arith)

      back : v ≡ leg.a → (u ≡ leg.a → ⊥) → u ≡ leg.b → LegLinks leg x u v
      back va na ub = inr (ub, va, (let e = ends_b leg.a leg.b x (leg.passages - x) u na ub in omega arith))

      forth : v ≡ leg.b → u ≡ leg.a → LegLinks leg x u v
      forth vb ua = inl (ua, vb, (let e = ends_a leg.a leg.b x (leg.passages - x) u ua in omega arith))

      to_a : v ≡ leg.a → LegLinks leg x u v
      to_a va = at_end leg.a leg.b u (LegLinks leg x u v) (λ ua. absurd (other (ua ∙ sym va))) (back va) from_none

      to_b : (v ≡ leg.a → ⊥) → v ≡ leg.b → LegLinks leg x u v
      to_b na vb = at_end leg.a leg.b u (LegLinks leg x u v) (forth vb) (λ nu ub. absurd (other (ub ∙ sym vb))) from_none

      to_none : (v ≡ leg.a → ⊥) → (v ≡ leg.b → ⊥) → LegLinks leg x u v
      to_none na nb = absurd (let e = ends_else leg.a leg.b leg.passages leg.passages v na nb in omega arith)

  -- one unit less at its end a, where u is that end
  share_forth : (u v s : ℕ) → LegLinks leg x u v → u ≡ leg.a → (0 < x) × (share_of leg (x - 1) s + unit u s ≡ share_of leg x s + unit v s)
  share_forth u v s (inl (p, q, some)) e =
      let m = ends_moved leg.a leg.b x (leg.passages - x) (x - 1) (leg.passages - (x - 1)) s ne (omega arith) (omega arith) in
      let au = ap (λ (k : ℕ). unit k s) p in
      let av = ap (λ (k : ℕ). unit k s) q in
      (some, omega arith)
  share_forth u v s (inr (p, q, some)) e = absurd (ne (sym e ∙ p))

  -- and one more, where it is not
  share_back : (u v s : ℕ) → LegLinks leg x u v → (u ≡ leg.a → ⊥) → share_of leg (x + 1) s + unit u s ≡ share_of leg x s + unit v s
  share_back u v s (inl (p, q, some)) no-a = absurd (no-a p)
  share_back u v s (inr (p, q, some)) no-a =
      let m = ends_moved leg.a leg.b (x + 1) (leg.passages - (x + 1)) x (leg.passages - x) s ne (omega arith) (omega arith) in
      let au = ap (λ (k : ℕ). unit k s) p in
      let av = ap (λ (k : ℕ). unit k s) q in
      omega arith

module _ (seats : ℕ) (legs : List Leg) (first : List ℕ) (lawful : LawfulLegs seats legs) (within : WithinLegs legs first) (u v : ℕ) where
  -- a leg that links two seats is a link
  pub link_of : SomeLinks legs first (length legs) u v → Link (shape_of seats legs) (amount_of legs first) u v
  link_of (t, among, links) =
      let leg = leg_at legs t in
      let x = get_or first t 0 in
      let l = lawful t among in
      record {
        item = t;
        among = among;
        donor = donor t l.0 l.1 links;
        receiver = receiver t l.0 l.1 links;
        other = links_other leg x l.2 (within t among) u v links;
        has = links_has leg x l.2 (within t among) u v links;
        takes = links_takes leg x l.2 (within t among) u v links;
      }
    where
      donor : (t : ℕ) → (leg_at legs t).a < seats → (leg_at legs t).b < seats → LegLinks (leg_at legs t) (get_or first t 0) u v → u < seats
      donor t ha hb (inl (p, q, some)) = omega arith
      donor t ha hb (inr (p, q, some)) = omega arith

      receiver : (t : ℕ) → (leg_at legs t).a < seats → (leg_at legs t).b < seats → LegLinks (leg_at legs t) (get_or first t 0) u v → v < seats
      receiver t ha hb (inl (p, q, some)) = omega arith
      receiver t ha hb (inr (p, q, some)) = omega arith

  -- and each link is that of a leg
  pub of_link : Link (shape_of seats legs) (amount_of legs first) u v → SomeLinks legs first (length legs) u v
  of_link link =
      let t = link.item in
      let l = lawful t link.among in
      (t, link.among, links_since (leg_at legs t) (get_or first t 0) l.2 (within t link.among) u v link.other link.has link.takes)

  -- a share written into leg t, which moves one unit from u to v there
  relayed_share : (t w : ℕ) → t < length first → t < length legs
      → ((s : ℕ) → share_of (leg_at legs t) w s + unit u s ≡ share_of (leg_at legs t) (get_or first t 0) s + unit v s)
      → Relayed (shape_of seats legs) (amount_of legs first) (amount_of legs (set first t w)) u v
  relayed_share t w inside among moves = record { item = t; among = among; change = λ k s hk hs. ⊎_elim (here k s) (away k s) (cases_eq t k) }
    where
      once : (i s : ℕ) → unit_at t i t s ≡ unit i s
      once i s = ap (λ (k : ℕ). k * unit i s) (unit_here t t refl) ∙ one-mul (unit i s)

      at_t : (s : ℕ) → amount_of legs (set first t w) t s + unit_at t u t s ≡ amount_of legs first t s + unit_at t v t s
      at_t s =
          let new = ap (λ (x : ℕ). share_of (leg_at legs t) x s) (get_or-set_same first t w 0 inside) in
          let a = once u s in
          let b = once v s in
          let m = moves s in
          omega arith

      here : (k s : ℕ) → t ≡ k → amount_of legs (set first t w) k s + unit_at t u k s ≡ amount_of legs first k s + unit_at t v k s
      here k s e = subst (λ (m : ℕ). amount_of legs (set first t w) m s + unit_at t u m s ≡ amount_of legs first m s + unit_at t v m s) e (at_t s)

      away : (k s : ℕ) → (t ≡ k → ⊥) → amount_of legs (set first t w) k s + unit_at t u k s ≡ amount_of legs first k s + unit_at t v k s
      away k s ne =
          let same = ap (λ (x : ℕ). share_of (leg_at legs k) x s) (get_or-set_other first t k w 0 (λ e. ne (sym e))) in
          let a = unit_at_item t u k s ne in
          let b = unit_at_item t v k s ne in
          omega arith

  -- leg t links u to v: where u is its end a, one unit less there moves one unit from u to v
  pub relays_forth : (t : ℕ) → t < length first → t < length legs → LegLinks (leg_at legs t) (get_or first t 0) u v → u ≡ (leg_at legs t).a
      → (0 < get_or first t 0) × Relayed (shape_of seats legs) (amount_of legs first) (amount_of legs (set first t (get_or first t 0 - 1))) u v
  relays_forth t inside among links e =
      let moves = λ (s : ℕ). share_forth (leg_at legs t) (get_or first t 0) (lawful t among).2 (within t among) u v s links e in
      ((moves 0).0, relayed_share t (get_or first t 0 - 1) inside among (λ s. (moves s).1))

  -- and where it is not, one unit more
  pub relays_back : (t : ℕ) → t < length first → t < length legs → LegLinks (leg_at legs t) (get_or first t 0) u v → (u ≡ (leg_at legs t).a → ⊥)
      → Relayed (shape_of seats legs) (amount_of legs first) (amount_of legs (set first t (get_or first t 0 + 1))) u v
  relays_back t inside among links ne =
      relayed_share t (get_or first t 0 + 1) inside among
      (λ s. share_back (leg_at legs t) (get_or first t 0) (lawful t among).2 (within t among) u v s links ne)

-- the seats that one leg more links u to
pub links_more : (legs : List Leg) (first : List ℕ) (n u set one all : ℕ) → Joined set one all
    → ((v : ℕ) → Exactly (In v set) (SomeLinks legs first n u v)) → ((v : ℕ) → Exactly (In v one) (LegLinks (leg_at legs n) (get_or first n 0) u v))
    → (v : ℕ) → Exactly (In v all) (SomeLinks legs first (n + 1) u v)
links_more legs first n u set one all joined before here v = (into, back)
  where
    into : In v all → SomeLinks legs first (n + 1) u v
    into m =
        ⊎_elim
        (λ old. let r = (before v).0 old in (r.0, (let l = r.1 in omega arith), r.2))
        (λ new. (n, omega arith, (here v).0 new)) ((joined v).0 m)

    back : SomeLinks legs first (n + 1) u v → In v all
    back (t, h, links) =
        (joined v).1 (⊎_elim
        (λ (e : t ≡ n). inr ((here v).1 (subst (λ (k : ℕ). LegLinks (leg_at legs k) (get_or first k 0) u v) e links)))
        (λ ne. inl ((before v).1 (t, omega arith, links))) (cases_eq t n))

-- no leg at all links any
pub links_none : (legs : List Leg) (first : List ℕ) (u v : ℕ) → Exactly (In v 0) (SomeLinks legs first 0 u v)
links_none legs first u v = (λ m. absurd (in_none v m), λ r. absurd (let l = r.1 in omega arith))

-- one leg more that does not link u to v
pub unlinked_more : (legs : List Leg) (first : List ℕ) (n u v : ℕ) → (SomeLinks legs first n u v → ⊥) → (LegLinks (leg_at legs n) (get_or first n 0) u v → ⊥)
    → SomeLinks legs first (n + 1) u v → ⊥
unlinked_more legs first n u v before here (t, h, links) =
    ⊎_elim
    (λ (e : t ≡ n). here (subst (λ (k : ℕ). LegLinks (leg_at legs k) (get_or first k 0) u v) e links))
    (λ ne. before (t, omega arith, links)) (cases_eq t n)
