-- The lowest member of a set, and the set without it. Assumes nothing.
use Rattle.std.proofs.Common.{w64, ◌≡◌, ℕ, zero, suc, ◌-◌, ◌/◌, ◌%◌, ◌^◌, ◌<◌, ◌≤◌, ◌⊎◌, sym, refl, ap, ◌∙◌, subst, inl, inr, ⊎_elim, arith}
use lib.Bits.{bit_and, and_le_r}
use lib.Count.{count_trailing_zeros, under}
use Rattle.std.proofs.lemmas.Bool.{cases_eq, cases_lt}
use Rattle.seats.specs.Sets.{In, Exactly, Lowest, Taken}
use Rattle.std.proofs.lemmas.Nat.Bits.{bit_at_lowest, bit_at-suc, bit_at-trailing_zeros}
use Rattle.seats.proofs.Digits.{digit, half_lt, even_or_odd}
use Rattle.seats.proofs.Members.{in_positive, out_nought, shared}
use Rattle.seats.proofs.Counts.{ones_one_more}

-- no member of the set is below t
abbrev pub NoneBelow : ℕ → ℕ → Type 0
NoneBelow s t = (j : ℕ) → j < t → In j s → ⊥

-- the half of a number that has no member below suc t has none below t
pub half_none : (s t : ℕ) → NoneBelow s (suc t) → NoneBelow (s / 2) t
half_none s t none j h m = none (suc j) (omega arith) (bit_at-suc s j ∙ m)

-- the code's answer is the lowest seat
pub lowest_is : (s : ℕ) → 0 < s → s < 2 ^ 64 → Lowest s (count_trailing_zeros 64 s)
lowest_is s p h =
    let found = bit_at-trailing_zeros w64 s p h in
    record { seated = found.0; member = found.1; least = λ j low m. omega (arith, found.2 j low, m) }

-- a number whose lowest member is above 0 is even
low_even : (s t : ℕ) → NoneBelow s (suc t) → s % 2 ≡ 0
low_even s t none = sym (bit_at_lowest s) ∙ out_nought 0 s (none 0 (omega arith))

-- the half of the number before an even one
half_pred : (s : ℕ) → 0 < s → s % 2 ≡ 0 → (s - 1) / 2 ≡ s / 2 - 1
half_pred s p e = omega arith

-- the number before has a nought at the lowest member
pub pred_at : (t s : ℕ) → In t s → NoneBelow s t → digit t (s - 1) ≡ 0
pred_at zero s m none = bit_at_lowest (s - 1) ∙ omega (arith, sym (bit_at_lowest s) ∙ m)
pred_at (suc t) s m none =
    bit_at-suc (s - 1) t ∙ ap (digit t) (half_pred s (in_positive (suc t) s m) (low_even s t none))
    ∙ pred_at t (s / 2) (sym (bit_at-suc s t) ∙ m) (half_none s t none)

-- and the same digits above it
pub pred_above : (t s j : ℕ) → In t s → NoneBelow s t → t < j → digit j (s - 1) ≡ digit j s
pred_above t s zero m none h = absurd (omega arith)
pred_above zero s (suc j) m none h =
    let same : (s - 1) / 2 ≡ s / 2 = omega (arith, sym (bit_at_lowest s) ∙ m) in
    bit_at-suc (s - 1) j ∙ ap (digit j) same ∙ sym (bit_at-suc s j)
pred_above (suc t) s (suc j) m none h =
    bit_at-suc (s - 1) j ∙ ap (digit j) (half_pred s (in_positive (suc t) s m) (low_even s t none))
    ∙ pred_above t (s / 2) j (sym (bit_at-suc s t) ∙ m) (half_none s t none) (omega arith) ∙ sym (bit_at-suc s j)

-- the `and` of a number with the one before holds all members but the lowest
pub cleared : (t s j : ℕ) → In t s → NoneBelow s t → Exactly (In j (bit_and s (s - 1))) (In j s × (j ≡ t → ⊥))
cleared t s j m none = (into, back)
  where
    into : In j (bit_and s (s - 1)) → In j s × (j ≡ t → ⊥)
    into n =
        let both = (shared s (s - 1) j).0 n in
        (both.0, λ p. omega (arith, pred_at t s m none, sym (ap (λ (x : ℕ). digit x (s - 1)) p) ∙ both.1))

    back : In j s × (j ≡ t → ⊥) → In j (bit_and s (s - 1))
    back p =
        ⊎_elim (λ (low : j < t). absurd (none j low p.0))
        (λ (high : t ≤ j). (shared s (s - 1) j).1 (p.0, pred_above t s j m none (above high) ∙ p.0)) (cases_lt j t)
      where
        above : t ≤ j → t < j
        above high = ⊎_elim (λ e. absurd (p.1 e)) (λ ne. omega arith) (cases_eq j t)

-- the `and` of a set with the number before is what is left when its lowest seat is taken
pub taken : (s t : ℕ) → s < 2 ^ 64 → Lowest s t → Taken s (bit_and s (s - 1)) t
taken s t h l = record {
  lowest = l;
  others = others;
  fewer = ones_one_more 64 (bit_and s (s - 1)) s t (omega (arith, smaller)) h (λ m. ((others t).0 m).1 refl) (λ j. (split j, join j));
  smaller = smaller;
}
  where
    others : (j : ℕ) → Exactly (In j (bit_and s (s - 1))) (In j s × (j ≡ t → ⊥))
    others j = cleared t s j l.member l.least

    smaller : bit_and s (s - 1) < s
    smaller = omega (arith, and_le_r s (s - 1), in_positive t s l.member)

    split : (j : ℕ) → In j s → In j (bit_and s (s - 1)) ⊎ (j ≡ t)
    split j m = ⊎_elim inr (λ ne. inl ((others j).1 (m, ne))) (cases_eq j t)

    join : (j : ℕ) → In j (bit_and s (s - 1)) ⊎ (j ≡ t) → In j s
    join j (inl m) = ((others j).0 m).0
    join j (inr p) = subst (λ (x : ℕ). In x s) (sym p) l.member

-- t is below k, and the lowest member of the set
abbrev pub Found : ℕ → ℕ → ℕ → Type 0
Found k s t = (t < k) × In t s × NoneBelow s t

-- an even number has one trailing nought more than its half
trailing_even : (k s : ℕ) → s % 2 ≡ 0 → count_trailing_zeros (suc k) s ≡ suc (count_trailing_zeros k (s / 2))
unfolding count_trailing_zeros
trailing_even k s e = ap (λ (d : ℕ). under d (count_trailing_zeros k (s / 2))) e

-- an odd number has no trailing nought
trailing_odd : (k s : ℕ) → s % 2 ≡ 1 → count_trailing_zeros (suc k) s ≡ 0
unfolding count_trailing_zeros
trailing_odd k s e = ap (λ (d : ℕ). under d (count_trailing_zeros k (s / 2))) e

-- the lowest member of an even number is one above that of its half
none_below_suc : (s t : ℕ) → s % 2 ≡ 0 → NoneBelow (s / 2) t → NoneBelow s (suc t)
none_below_suc s t e none zero h m = omega (arith, bit_at_lowest s)
none_below_suc s t e none (suc j) h m = none j (omega arith) (sym (bit_at-suc s j) ∙ m)

-- the seat at the count of trailing noughts is the lowest member
pub trailing_lowest : (k s : ℕ) → 0 < s → s < 2 ^ k → Found k s (count_trailing_zeros k s)
trailing_lowest zero s p h = absurd (omega arith)
trailing_lowest (suc k) s p h = ⊎_elim (even (λ pos. trailing_lowest k (s / 2) pos (half_lt k s h))) odd (even_or_odd s)
  where
    even : (0 < s / 2 → Found k (s / 2) (count_trailing_zeros k (s / 2))) → s % 2 ≡ 0 → Found (suc k) s (count_trailing_zeros (suc k) s)
    even again e =
        let t = count_trailing_zeros k (s / 2) in
        let found = again (omega arith) in
        subst (λ (x : ℕ). Found (suc k) s x) (sym (trailing_even k s e))
        (omega (arith, found.0), bit_at-suc s t ∙ found.1, none_below_suc s t e found.2)

    odd : s % 2 ≡ 1 → Found (suc k) s (count_trailing_zeros (suc k) s)
    odd e =
        subst (λ (x : ℕ). Found (suc k) s x) (sym (trailing_odd k s e)) (omega arith, bit_at_lowest s ∙ e, λ j h m. omega arith)
