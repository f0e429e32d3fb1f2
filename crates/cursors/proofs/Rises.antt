-- Seats that rise, and the set that they make: the loop that reads them. Assumes nothing.
use Rattle.std.proofs.Common.{◌≡◌, ℕ, ◌+◌, ◌-◌, ◌^◌, ◌<◌, ◌≤◌, List, [], ◌∷◌, ◌++◌, sym, ap, ◌∙◌, inl, inr, arith}
use Rattle.seats.specs.Sets.{In, Inserted}
use Rattle.seats.specs.Lists.{seats_of, set_of}
use Rattle.seats.proofs.Listing.{seats_of_none, seats_more, set_of_seats}
use Rattle.cursors.specs.Lists.{rising}
use Rattle.cursors.specs.Steps.{Spot, Outcome, got, Step, go_on, done, seat}
use Rattle.cursors.proofs.Cells.{seat_bounds}
use Rattle.cursors.proofs.Chained.{onward, onward_none, onward_turn}

-- seats that were found, and then k more from `low` on
abbrev pub rising_on : ℕ → List ℕ → ℕ → ℕ → Step (List ℕ)
rising_on n xs k low = onward (λ l. seat l n) (λ _ v. v + 1) xs k low

-- before the first seat
pub rises_none : (n size : ℕ) (p : Spot) → rising_on n (seats_of 0) (size - 0) 0 p ≡ rising n size p
rises_none n size p = onward_none (λ l. seat l n) (λ _ v. v + 1) (seats_of 0) size 0 p seats_of_none

-- a set whose seats lie below `low`, with a seat from there on
module _ (n low set after v : ℕ) (p q : Spot) (few : n ≤ 64) (small : set < 2 ^ 64) (still : after < 2 ^ 64) (below : (j : ℕ) → In j set → j < low) (read : got v q ≡ seat low n p) (with_it : Inserted set v after) where
  pub seat_low : (low ≤ v) × (v < n)
  seat_low = seat_bounds low n v p q read

  -- has just that seat more
  listed : seats_of after ≡ seats_of set ++ v ∷ []
  listed = seats_more set after v small still (omega (arith, seat_low.1)) (λ j i. omega (arith, below j i, seat_low.0)) (with_it.members (omega (arith, seat_low.1)))

  pub rises_turn : (size i : ℕ) → i < size → rising_on n (seats_of after) (size - (i + 1)) (v + 1) q ≡ rising_on n (seats_of set) (size - i) low p
  rises_turn size i h = onward_turn (λ l. seat l n) (λ _ x. x + 1) (seats_of set) (seats_of after) v size i low p q h read listed

  -- and its seats lie below the next one
  pub still_below : (j : ℕ) → In j after → j < v + 1
  still_below j i = elim ((with_it.members (omega (arith, seat_low.1)) j).0 i) [ inl old ↦ omega (arith, below j old, seat_low.0) | inr new ↦ omega arith ]

-- the set is that of the seats found
pub set_found : (set : ℕ) (p : Spot) (o : Outcome (List ℕ)) → set < 2 ^ 64 → got (seats_of set) p ≡ o → got set p ≡ go_on o (λ xs. done (set_of xs))
set_found set p o small e = ap (λ s. got s p) (sym (set_of_seats set small)) ∙ ap (λ r. go_on r (λ xs. done (set_of xs))) e
