-- A set of seats and the rising list of its seats: each is made from the other, and how the list grows with the set. Assumes nothing.
use Rattle.std.proofs.Common.{◌≡◌, ℕ, zero, suc, ◌+◌, ◌*◌, ◌/◌, ◌%◌, ◌^◌, ◌<◌, ◌≤◌, Some, None, eqb, ◌⊎◌, List, [], ◌∷◌, ◌++◌, length, sym, refl, ap, ◌∙◌, subst, inl, inr, ⊎_elim, add_assoc, mul_assoc, one-mul, pow-suc, mul-zero, mul-one, mul-add, add-one, arith, pow_mono}
use lib.Bits.{bit_and, bit_or, or_disjoint}
use lib.Count.{ones, ones_step}
use Rattle.std.proofs.lemmas.Bool.{cases_eq, cond_both, eqb-true, eqb-false}
use Rattle.seats.specs.Sets.{In, Exactly, Taken}
use Rattle.std.specs.Iterator.Runs.{YieldsInOrder}
use Rattle.std.proofs.iter.runs.Sources.{from_front, as_is}
use Rattle.seats.specs.declared.InOrder.{InOrder}
use Rattle.seats.specs.Lists.{seats_from, seats_of, set_of, Rising, to_come, TakesLowest}
use Rattle.std.proofs.lemmas.Nat.Bits.{bit_at_lowest, bit_at-suc}
use Rattle.seats.proofs.Digits.{half_lt, even_or_odd}
use Rattle.seats.proofs.Members.{in_small, same_sets, none_empty, shared, power, inserted}
use Rattle.seats.proofs.Counts.{ones_none}
use Rattle.seats.proofs.Walks.{NoneBelow, half_none}

-- what holds of the list at an odd number and at an even one holds of it
step :
    (P : List ℕ → Type 0) (w k s : ℕ) → (s % 2 ≡ 1 → P (k ∷ seats_from w (k + 1) (s / 2)))
    → (s % 2 ≡ 0 → P (seats_from w (k + 1) (s / 2))) → P (seats_from (suc w) k s)
step P w k s odd even =
    cond_both (eqb (s % 2) 1) (k ∷ seats_from w (k + 1) (s / 2)) (seats_from w (k + 1) (s / 2)) P
    (λ e. odd (eqb-true (s % 2) 1 e)) (λ e. even (⊎_elim (λ z. z) (λ o. absurd (eqb-false (s % 2) 1 e o)) (even_or_odd s)))

-- nought has no seats
from_none : (w k : ℕ) → seats_from w k 0 ≡ []
from_none zero k = refl
from_none (suc w) k = from_none w (k + 1)

-- each member, k seats up, is at least `low` and below n
abbrev Between : ℕ → ℕ → ℕ → ℕ → Type 0
Between n low k s = (j : ℕ) → In j s → (low ≤ k + j) × (k + j < n)

-- the members of the half keep the bounds, one seat further up
half_between : (n low k s : ℕ) → Between n low k s → Between n low (k + 1) (s / 2)
half_between n low k s within j m =
    let was = within (suc j) (bit_at-suc s j ∙ m) in
    (omega (arith, was.0), omega (arith, was.1))

-- and they are all above seat k
half_above : (n low k s : ℕ) → Between n low k s → Between n (k + 1) (k + 1) (s / 2)
half_above n low k s within j m = (omega arith, (half_between n low k s within j m).1)

-- seat k keeps the bounds where it belongs
first_between : (n low k s : ℕ) → Between n low k s → s % 2 ≡ 1 → (low ≤ k) × (k < n)
first_between n low k s within o =
    let was = within 0 (bit_at_lowest s ∙ o) in
    (omega (arith, was.0), omega (arith, was.1))

-- the list rises between the bounds that the members keep
from_rising : (w n low k s : ℕ) → Between n low k s → Rising n low (seats_from w k s)
from_rising zero n low k s within = tt
from_rising (suc w) n low k s within =
    step (Rising n low) w k s
    (λ o. (first_between n low k s within o, from_rising w n (k + 1) (k + 1) (s / 2) (half_above n low k s within)))
    (λ z. from_rising w n low (k + 1) (s / 2) (half_between n low k s within))

-- a power of two, times an even number
power_even : (k t : ℕ) → 2 ^ (k + 1) * t ≡ 2 ^ k * (2 * t)
power_even k t = rw (add-one k, pow-suc 2 k, mul_assoc (2 ^ k) 2 t)

-- a power of two, times an odd number
power_odd : (k t : ℕ) → 2 ^ k + 2 ^ (k + 1) * t ≡ 2 ^ k * (1 + 2 * t)
power_odd k t = rw (power_even k t, mul-add (2 ^ k) 1 (2 * t), mul-one (2 ^ k))

-- the set of the list is the number that it was made from, k digits up
set_from : (w k s : ℕ) → s < 2 ^ w → set_of (seats_from w k s) ≡ 2 ^ k * s
set_from zero k s h = let e : s ≡ 0 = omega arith in rw (e, mul-zero (2 ^ k))
set_from (suc w) k s h =
    let halves = set_from w (k + 1) (s / 2) (half_lt w s h) in
    let odd : s % 2 ≡ 1 → 1 + 2 * (s / 2) ≡ s = λ o. omega arith in
    let even : s % 2 ≡ 0 → 2 * (s / 2) ≡ s = λ z. omega arith in
    step (λ xs. set_of xs ≡ 2 ^ k * s) w k s
    (λ o. ap (λ x. 2 ^ k + x) halves ∙ power_odd k (s / 2) ∙ ap (λ x. 2 ^ k * x) (odd o))
    (λ z. halves ∙ power_even k (s / 2) ∙ ap (λ x. 2 ^ k * x) (even z))

-- the list is as long as the number has ones
from_counted : (w k s : ℕ) → s < 2 ^ w → length (seats_from w k s) ≡ ones s
from_counted zero k s h = let e : s ≡ 0 = omega arith in sym (ap ones e ∙ ones_none)
from_counted (suc w) k s h =
    let halves = from_counted w (k + 1) (s / 2) (half_lt w s h) in
    step (λ xs. length xs ≡ ones s) w k s (λ o. omega (arith, ones_step s)) (λ z. omega (arith, ones_step s))

-- some number has the list as its seats from k on, and the list's set is that number, k digits up
abbrev Made : ℕ → ℕ → List ℕ → Type 0
Made w k xs = (s : ℕ) × (set_of xs ≡ 2 ^ k * s) × (seats_from w k s ≡ xs)

-- a list with k in front is made where the rest is made from the seat above
made_odd : (w k : ℕ) (xs : List ℕ) → Made w (k + 1) xs → Made (suc w) k (k ∷ xs)
made_odd w k xs m =
    let t = m.0 in
    let half : (1 + 2 * t) / 2 ≡ t = omega arith in
    let listed : k ∷ seats_from w (k + 1) ((1 + 2 * t) / 2) ≡ k ∷ xs = rw half (ap (λ l. k ∷ l) m.2) in (
      1 + 2 * t,
      ap (λ x. 2 ^ k + x) m.1 ∙ power_odd k t,
      step (λ l. l ≡ k ∷ xs) w k (1 + 2 * t) (λ o. listed) (λ z. absurd (omega arith)),
    )

-- a list without k is made where it is made from the seat above
made_even : (w k : ℕ) (xs : List ℕ) → Made w (k + 1) xs → Made (suc w) k xs
made_even w k xs m =
    let t = m.0 in
    let half : (2 * t) / 2 ≡ t = omega arith in
    let listed : seats_from w (k + 1) ((2 * t) / 2) ≡ xs = rw half m.2 in
    (2 * t, m.1 ∙ power_even k t, step (λ l. l ≡ xs) w k (2 * t) (λ o. absurd (omega arith)) (λ z. listed))

-- a rising list from k on has k in front, or it rises from the seat above
first_or_above : (n k x : ℕ) (xs : List ℕ) → Rising n k (x ∷ xs) → (k ≡ x) ⊎ Rising n (k + 1) (x ∷ xs)
first_or_above n k x xs r = ⊎_elim inl (λ ne. inr ((omega (arith, r.0.0), r.0.1), r.1)) (cases_eq k x)

-- every rising list is made
made : (w n k : ℕ) (xs : List ℕ) → n ≤ k + w → Rising n k xs → Made w k xs
made w n k [] h r = (0, sym (mul-zero (2 ^ k)), from_none w k)
made zero n k (x ∷ xs) h r = absurd (omega (arith, r.0.0, r.0.1))
made (suc w) n k (x ∷ xs) h r =
    let up : n ≤ k + 1 + w = omega arith in
    ⊎_elim (λ e. rw e (made_odd w x xs (made w n (x + 1) xs (rw e at up) r.1)))
    (λ above. made_even w k (x ∷ xs) (made w n (k + 1) (x ∷ xs) up above)) (first_or_above n k x xs r)

-- no seat belongs to nought
pub seats_of_none : seats_of 0 ≡ []
unfolding seats_of
seats_of_none = from_none 64 0

-- the set of its seats is the set
pub set_of_seats : (s : ℕ) → s < 2 ^ 64 → set_of (seats_of s) ≡ s
unfolding seats_of
set_of_seats s h = set_from 64 0 s h ∙ one-mul s

-- the seats of the set of a rising list are the list
pub seats_of_set : (xs : List ℕ) → Rising 64 0 xs → seats_of (set_of xs) ≡ xs
unfolding seats_of
seats_of_set xs r =
    let m = made 64 64 0 xs (omega arith) r in
    ap (seats_from 64 0) (m.1 ∙ one-mul m.0) ∙ m.2

-- a set has as many seats as ones
pub seats_counted : (s : ℕ) → s < 2 ^ 64 → length (seats_of s) ≡ ones s
unfolding seats_of
seats_counted s h = from_counted 64 0 s h

-- a member of a set below a power of two is below its exponent
pub member_below : (n s : ℕ) → s < 2 ^ n → (j : ℕ) → In j s → j < n
member_below n s h j m = in_small n j s h m

-- the seats of a set rise between the bounds that its members keep
seats_between : (n low s : ℕ) → ((j : ℕ) → In j s → (low ≤ j) × (j < n)) → Rising n low (seats_of s)
unfolding seats_of
seats_between n low s within = from_rising 64 n low 0 s (λ j m. (omega (arith, (within j m).0), omega (arith, (within j m).1)))

-- the seats of a set below a power of two rise, below its exponent
pub seats_rising : (n s : ℕ) → n ≤ 64 → s < 2 ^ n → Rising n 0 (seats_of s)
seats_rising n s small h = seats_between n 0 s (λ j m. (omega arith, member_below n s h j m))

-- a rising list below n is one below any higher bound
pub rising_weaker : (n m low : ℕ) (xs : List ℕ) → n ≤ m → Rising n low xs → Rising m low xs
rising_weaker n m low [] h r = tt
rising_weaker n m low (x ∷ xs) h r = ((r.0.0, omega (arith, r.0.1)), rising_weaker n m (x + 1) xs h r.1)

-- a rising list stays so with a seat more at its end, above all others
rising_push : (n low x : ℕ) (xs : List ℕ) → low ≤ x → x < n → Rising x low xs → Rising n low (xs ++ x ∷ [])
rising_push n low x [] h b r = ((h, b), tt)
rising_push n low x (y ∷ ys) h b r =
    ((r.0.0, omega (arith, r.0.1)), rising_push n (y + 1) x ys (omega (arith, r.0.1)) b r.1)

-- the set of a rising list leaves the power of its lower bound free
set_room : (n low : ℕ) (xs : List ℕ) → low ≤ n → Rising n low xs → set_of xs + 2 ^ low ≤ 2 ^ n
set_room n low [] h r = omega (arith, pow_mono h)
set_room n low (x ∷ xs) h r =
    let rest : set_of xs + 2 ^ (x + 1) ≤ 2 ^ n = set_room n (x + 1) xs (omega (arith, r.0.1)) r.1 in
    let twice : 2 ^ (x + 1) ≡ 2 ^ x * 2 = rw (add-one x) (pow-suc 2 x) in
    omega (arith, pow_mono r.0.0)

-- the set of a rising list below n has n digits
pub set_small : (n : ℕ) (xs : List ℕ) → Rising n 0 xs → set_of xs < 2 ^ n
set_small n xs r = omega (arith, set_room n 0 xs (omega arith) r)

-- the set of a list with a seat more at its end
set_push : (xs : List ℕ) (x : ℕ) → set_of (xs ++ x ∷ []) ≡ set_of xs + 2 ^ x
set_push [] x = omega arith
set_push (y ∷ ys) x = ap (λ z. 2 ^ y + z) (set_push ys x) ∙ sym (add_assoc (2 ^ y) (set_of ys) (2 ^ x))

-- a set with exactly one member more is its `or` with the power of that seat
or_more : (a b i : ℕ) → ((j : ℕ) → Exactly (In j b) (In j a ⊎ (j ≡ i))) → b ≡ bit_or a (2 ^ i)
or_more a b i more = same_sets b (bit_or a (2 ^ i)) (λ j. (λ m. (inserted a i j).1 ((more j).0 m), λ m. (more j).1 ((inserted a i j).0 m)))

-- and it is more by that power
power_more : (a b i : ℕ) → (In i a → ⊥) → ((j : ℕ) → Exactly (In j b) (In j a ⊎ (j ≡ i))) → b ≡ a + 2 ^ i
power_more a b i out more = or_more a b i more ∙ or_disjoint a (2 ^ i) (none_empty (bit_and a (2 ^ i)) none)
  where
    none : (j : ℕ) → In j (bit_and a (2 ^ i)) → ⊥
    none j m =
        let both = (shared a (2 ^ i) j).0 m in
        out (subst (λ (x : ℕ). In x a) ((power i j).0 both.1) both.0)

-- a set with a seat more, above all others, has it at the end of its list
pub seats_more :
    (s r seat : ℕ) → s < 2 ^ 64 → r < 2 ^ 64 → seat < 64 → ((j : ℕ) → In j s → j < seat)
    → ((j : ℕ) → Exactly (In j r) (In j s ⊎ (j ≡ seat))) → seats_of r ≡ seats_of s ++ seat ∷ []
seats_more s r seat hs hr h low more = ap seats_of as_set ∙ seats_of_set (seats_of s ++ seat ∷ []) rising
  where
    as_set : r ≡ set_of (seats_of s ++ seat ∷ [])
    as_set =
        power_more s r seat (λ m. omega (arith, low seat m)) more
        ∙ ap (λ x. x + 2 ^ seat) (sym (set_of_seats s hs)) ∙ sym (set_push (seats_of s) seat)

    rising : Rising 64 0 (seats_of s ++ seat ∷ [])
    rising = rising_push 64 0 seat (seats_of s) (omega arith) h (seats_between seat 0 s (λ j m. (omega arith, low j m)))

-- the list from k on begins with the lowest seat, and goes on with the seats of the set without it
from_taken :
    (w k t old new : ℕ) → t < w → In t old → NoneBelow old t → ((j : ℕ) → Exactly (In j new) (In j old × (j ≡ t → ⊥)))
    → seats_from w k old ≡ (k + t) ∷ seats_from w k new
from_taken zero k t old new h m none others = absurd (omega arith)
from_taken (suc w) k zero old new h m none others =
    step (λ xs. xs ≡ (k + 0) ∷ seats_from (suc w) k new) w k old
    (λ o. step (λ ys. k ∷ seats_from w (k + 1) (old / 2) ≡ (k + 0) ∷ ys) w k new
    (λ p. absurd (((others 0).0 (bit_at_lowest new ∙ p)).1 refl))
    (λ z. ap (λ x. x ∷ seats_from w (k + 1) (old / 2)) (omega arith) ∙ ap (λ s. (k + 0) ∷ seats_from w (k + 1) s) halves))
    (λ z. absurd (omega (arith, bit_at_lowest old)))
  where
    halves : old / 2 ≡ new / 2
    halves = same_sets (old / 2) (new / 2) (λ j. (
      λ n. sym (bit_at-suc new j) ∙ (others (suc j)).1 (bit_at-suc old j ∙ n, λ e. absurd (omega (arith, e))),
      λ n. sym (bit_at-suc old j) ∙ ((others (suc j)).0 (bit_at-suc new j ∙ n)).0,
    ))
from_taken (suc w) k (suc t) old new h m none others =
    step (λ xs. xs ≡ (k + suc t) ∷ seats_from (suc w) k new) w k old (λ o. absurd (none 0 (omega arith) (bit_at_lowest old ∙ o)))
    (λ z. step (λ ys. seats_from w (k + 1) (old / 2) ≡ (k + suc t) ∷ ys) w k new
    (λ p. absurd (none 0 (omega arith) ((others 0).0 (bit_at_lowest new ∙ p)).0))
    (λ y. from_taken w (k + 1) t (old / 2) (new / 2) (omega arith) (sym (bit_at-suc old t) ∙ m) (half_none old t none) halves ∙ ap (λ x. x ∷ seats_from w (k + 1) (new / 2)) (omega arith)))
  where
    halves : (j : ℕ) → Exactly (In j (new / 2)) (In j (old / 2) × (j ≡ t → ⊥))
    halves j = (
      λ n. let was = (others (suc j)).0 (bit_at-suc new j ∙ n) in (sym (bit_at-suc old j) ∙ was.0, λ e. was.1 (ap suc e)),
      λ p. sym (bit_at-suc new j) ∙ (others (suc j)).1 (bit_at-suc old j ∙ p.0, λ e. p.1 (omega (arith, e))),
    )

-- a set has its lowest seat at the start of its list, and the rest is what is left when it is taken
pub seats_taken : (old new t : ℕ) → Taken old new t → seats_of old ≡ t ∷ seats_of new
unfolding seats_of
seats_taken old new t took =
    from_taken 64 0 t old new took.lowest.seated took.lowest.member took.lowest.least took.others
    ∙ ap (λ x. x ∷ seats_from 64 0 new) (omega arith)

-- a walk through a set gives the seats of its list, in order
pub runs_in_order : YieldsInOrder TakesLowest to_come
runs_in_order p seen = as_is p (to_come p.from) (from_front TakesLowest (λ x. x) to_come none first p seen)
  where
    none : (s t : InOrder) → TakesLowest s None t → length (to_come s) ≡ 0
    none s t left = ap (λ x. length (seats_of x)) left.0 ∙ ap length seats_of_none

    first : (s : InOrder) (x : ℕ) (t : InOrder) → TakesLowest s (Some x) t → to_come s ≡ x ∷ to_come t
    first s x t took = seats_taken s.left t.left x took
