-- What follows for a lawful table: its shares are a filling, and its loads are low.
use Rattle.std.specs.Prelude.{◌≡◌, ℕ, zero, suc, ◌+◌, ◌-◌, ◌*◌, ◌<◌, ◌≤◌, List, length, slice_index, slice_index_or}
use Rattle.std.proofs.Common.{sym, ap, ⊎_elim, add-one, arith}
use Rattle.std.proofs.lemmas.List.{get_or_past}
use Rattle.std.proofs.lemmas.Bool.{cases_lt}
use Rattle.bases.specs.Sums.{sum_to}
use Rattle.bases.proofs.Sums.{sum_none, sum_le, term_le}
use Rattle.items.specs.Fillings.{Fills, load_of, loads_of}
use Rattle.items.proofs.Units.{length_loads, loads_at}
use Rattle.legs.specs.declared.leg.Leg.{Leg}
use Rattle.legs.specs.Lawful.{leg_at, LawfulLegs, WithinLegs}
use Rattle.legs.specs.Shares.{shape_of, amount_of, most_of}
use Rattle.legs.specs.Ends.{at_end, ends_a, ends_b, ends_else, ends_le, ends_sum}

-- one term more
pub sum_more : (n : ℕ) (f : ℕ → ℕ) → sum_to (n + 1) f ≡ sum_to n f + f n
sum_more n f = ap (λ (k : ℕ). sum_to k f) (add-one n)

-- terms of at most 1,000 each
sum_each : (n : ℕ) (f : ℕ → ℕ) → ((k : ℕ) → k < n → f k ≤ 1000) → sum_to n f ≤ 1000 * n
sum_each zero f h = omega arith
sum_each (suc n) f h = let before = sum_each n f (λ k l. h k (omega arith)) in let here = h n (omega arith) in omega arith

module _ (seats : ℕ) (legs : List Leg) (lawful : LawfulLegs seats legs) where
  -- the first n legs have at most 1,000 passages each
  pub most_small : (n : ℕ) → n ≤ length legs → sum_to n (λ t. (leg_at legs t).passages) ≤ 1000 * n
  most_small n le = sum_each n (λ t. (leg_at legs t).passages) (λ t h. let l = lawful t (omega arith) in omega (arith, l.4))

  -- no load of any filling exceeds all passages
  pub load_high : (f : ℕ → ℕ → ℕ) → Fills (shape_of seats legs) f → (seat : ℕ) → seat < seats → load_of (shape_of seats legs) f seat ≤ most_of legs
  load_high f fills seat h =
      sum_le (length legs) (λ t. f t seat) (λ t. (leg_at legs t).passages)
      (λ t l. let part = term_le seats (f t) seat h in let whole = fills.whole t l in omega arith)

  module _ (first : List ℕ) (within : WithinLegs legs first) where
    -- the shares are a filling
    pub shares_fill : Fills (shape_of seats legs) (amount_of legs first)
    shares_fill = record {
      within = λ t s ht hs.
          let leg = leg_at legs t in
          let w = within t ht in
          ends_le leg.a leg.b (slice_index first t) (leg.passages - slice_index first t) leg.passages leg.passages s w (omega arith);
      whole = λ t ht.
          let leg = leg_at legs t in
          let l = lawful t ht in
          let w = within t ht in
          let sum = ends_sum seats leg.a leg.b (slice_index first t) (leg.passages - slice_index first t) l.0 l.1 l.2 in
          omega arith;
    }

    -- no share of the first n legs exceeds 1,000
    pub held_small : (seat n : ℕ) → n ≤ length legs → sum_to n (λ t. amount_of legs first t seat) ≤ 1000 * n
    held_small seat n le =
        sum_each n (λ t. amount_of legs first t seat)
        (λ t h. let l = lawful t (omega arith) in let w = within t (omega arith) in share_small t w l.4)
      where
        share_small : (t : ℕ) → slice_index first t ≤ (leg_at legs t).passages → (leg_at legs t).passages ≤ 1000 → amount_of legs first t seat ≤ 1000
        share_small t w small =
            let leg = leg_at legs t in
            let x = slice_index_or first t 0 in
            at_end leg.a leg.b seat (amount_of legs first t seat ≤ 1000)
            (λ e. let p = ends_a leg.a leg.b x (leg.passages - x) seat e in omega arith)
            (λ na e. let p = ends_b leg.a leg.b x (leg.passages - x) seat na e in omega arith)
            (λ na nb. let p = ends_else leg.a leg.b x (leg.passages - x) seat na nb in omega arith)

    -- the sum of the shares is the load of a seat, and nothing where it is none
    pub held_is : (seat : ℕ) → sum_to (length legs) (λ t. amount_of legs first t seat) ≡ slice_index (loads_of (shape_of seats legs) (amount_of legs first)) seat
    held_is seat = ⊎_elim (λ (h : seat < seats). sym (loads_at (shape_of seats legs) (amount_of legs first) seat h)) past (cases_lt seat seats)
      where
        outside : (t : ℕ) → (leg_at legs t).a < seats → (leg_at legs t).b < seats → seats ≤ seat → amount_of legs first t seat ≡ 0
        outside t ha hb h =
            ends_else (leg_at legs t).a (leg_at legs t).b (slice_index first t) ((leg_at legs t).passages - slice_index first t) seat (λ e. omega arith) (λ e. omega arith)

        past : seats ≤ seat → sum_to (length legs) (λ t. amount_of legs first t seat) ≡ slice_index (loads_of (shape_of seats legs) (amount_of legs first)) seat
        past h =
            let none = sum_none (length legs) (λ t. amount_of legs first t seat) (λ t l. outside t (lawful t l).0 (lawful t l).1 h) in
            let len = length_loads (shape_of seats legs) (amount_of legs first) in
            let z = get_or_past (loads_of (shape_of seats legs) (amount_of legs first)) seat 0 (omega arith) in
            omega arith
