-- How many seats belong to a set. Assumes nothing.
use Rattle.std.proofs.Common.{◌≡◌, ℕ, zero, suc, ◌+◌, ◌/◌, ◌%◌, ◌^◌, ◌<◌, ◌≤◌, ◌⊎◌, sym, refl, ap, ◌∙◌, inl, inr, ⊎_elim, le_of_eq, mod-lt, zero-lt-suc, arith, pow_pos}
use lib.Count.{ones, ones_step}
use Rattle.seats.specs.Sets.{In, Within, Exactly}
use Rattle.std.proofs.lemmas.Nat.Bits.{bit_at_lowest, bit_at-suc}
use Rattle.seats.proofs.Digits.{half_lt, even_or_odd}
use Rattle.seats.proofs.Members.{in_none, in_positive, out_nought}

-- no seat belongs to nought
pub ones_none : ones 0 ≡ 0
unfolding ones
ones_none = refl

-- the halves of two sets, one within the other, stand likewise
pub half_within : (a b : ℕ) → Within a b → Within (a / 2) (b / 2)
half_within a b w i m = sym (bit_at-suc b i) ∙ w (suc i) (bit_at-suc a i ∙ m)

-- and so do the lowest digits
pub low_within : (a b : ℕ) → Within a b → a % 2 ≤ b % 2
low_within a b w =
    ⊎_elim (λ z. omega arith) (λ o. let m = sym (bit_at_lowest b) ∙ w 0 (bit_at_lowest a ∙ o) in omega arith) (even_or_odd a)

-- a set within another has no more seats
pub ones_within : (k a b : ℕ) → a < 2 ^ k → b < 2 ^ k → Within a b → ones a ≤ ones b
ones_within zero a b ha hb w = let e : a ≡ b = omega arith in le_of_eq (ap ones e)
ones_within (suc k) a b ha hb w =
    let halves = ones_within k (a / 2) (b / 2) (half_lt k a ha) (half_lt k b hb) (half_within a b w) in
    let low = low_within a b w in
    omega (arith, ones_step a, ones_step b)

-- a set with a member more has at least one seat more
pub ones_inserted : (k a b i : ℕ) → a < 2 ^ k → b < 2 ^ k → (In i a → ⊥) → In i b → Within a b → ones a + 1 ≤ ones b
ones_inserted zero a b i ha hb out m w = absurd (omega (arith, in_positive i b m))
ones_inserted (suc k) a b zero ha hb out m w =
    let halves = ones_within k (a / 2) (b / 2) (half_lt k a ha) (half_lt k b hb) (half_within a b w) in
    let low-a : a % 2 ≡ 0 = sym (bit_at_lowest a) ∙ out_nought 0 a out in
    let low-b : b % 2 ≡ 1 = sym (bit_at_lowest b) ∙ m in
    omega (arith, ones_step a, ones_step b)
ones_inserted (suc k) a b (suc i) ha hb out m w =
    let out-half : In i (a / 2) → ⊥ = λ n. out (bit_at-suc a i ∙ n) in
    let in-half : In i (b / 2) = sym (bit_at-suc b i) ∙ m in
    let halves = ones_inserted k (a / 2) (b / 2) i (half_lt k a ha) (half_lt k b hb) out-half in-half (half_within a b w) in
    let low = low_within a b w in
    omega (arith, ones_step a, ones_step b)

-- each member of b belongs to a, or is seat i
abbrev pub AllBut : ℕ → ℕ → ℕ → Type 0
AllBut i a b = (j : ℕ) → In j b → In j a ⊎ (j ≡ i)

-- where all members but seat 0 belong, the half is within the half
half_but_zero : (a b : ℕ) → AllBut 0 a b → Within (b / 2) (a / 2)
half_but_zero a b only j m = ⊎_elim (λ n. sym (bit_at-suc a j) ∙ n) (λ p. absurd (omega (arith, p))) (only (suc j) (bit_at-suc b j ∙ m))

-- where all members but a higher seat belong, the halves stand likewise
half_but : (i a b : ℕ) → AllBut (suc i) a b → AllBut i (a / 2) (b / 2)
half_but i a b only j m = ⊎_elim (λ n. inl (sym (bit_at-suc a j) ∙ n)) (λ p. inr (omega (arith, p))) (only (suc j) (bit_at-suc b j ∙ m))

-- and so do the lowest digits
low_but : (i a b : ℕ) → AllBut (suc i) a b → b % 2 ≤ a % 2
low_but i a b only = ⊎_elim (λ z. omega arith) (λ o. ⊎_elim kept other (only 0 (bit_at_lowest b ∙ o))) (even_or_odd b)
  where
    low : b % 2 < 2
    low = mod-lt b (zero-lt-suc 1)

    kept : In 0 a → b % 2 ≤ a % 2
    kept n = omega (arith, low, sym (bit_at_lowest a) ∙ n)

    other : 0 ≡ suc i → b % 2 ≤ a % 2
    other p = absurd (omega (arith, p))

-- a set whose members belong to another, or are one seat, has at most one seat more
pub ones_at_most : (k a b i : ℕ) → a < 2 ^ k → b < 2 ^ k → AllBut i a b → ones b ≤ ones a + 1
ones_at_most zero a b i ha hb only = let e : b ≡ a = omega arith in omega (arith, ap ones e)
ones_at_most (suc k) a b zero ha hb only =
    let halves = ones_within k (b / 2) (a / 2) (half_lt k b hb) (half_lt k a ha) (half_but_zero a b only) in
    omega (arith, ones_step a, ones_step b)
ones_at_most (suc k) a b (suc i) ha hb only =
    let halves = ones_at_most k (a / 2) (b / 2) i (half_lt k a ha) (half_lt k b hb) (half_but i a b only) in
    let low = low_but i a b only in
    omega (arith, ones_step a, ones_step b)

-- a set with exactly one member more has exactly one seat more
pub ones_one_more : (k a b i : ℕ) → a < 2 ^ k → b < 2 ^ k → (In i a → ⊥) → ((j : ℕ) → Exactly (In j b) (In j a ⊎ (j ≡ i))) → ones a + 1 ≡ ones b
ones_one_more k a b i ha hb out more =
    let least = ones_inserted k a b i ha hb out ((more i).1 (inr refl)) (λ j m. (more j).1 (inl m)) in
    let most = ones_at_most k a b i ha hb (λ j m. (more j).0 m) in
    omega arith

-- a set of seats below n has at most n
pub ones_below : (k n s : ℕ) → s < 2 ^ k → ((i : ℕ) → In i s → i < n) → ones s ≤ n
ones_below zero n s h low = let e : s ≡ 0 = omega arith in omega (arith, ap ones e, ones_none)
ones_below (suc k) zero s h low =
    omega (arith, ones_within (suc k) s 0 h (pow_pos (suc k)) (λ i m. absurd (omega (arith, low i m))), ones_none)
ones_below (suc k) (suc n) s h low =
    let halves = ones_below k n (s / 2) (half_lt k s h) (λ i m. omega (arith, low (suc i) (bit_at-suc s i ∙ m))) in
    omega (arith, ones_step s)

-- a set with a member has at least one seat
pub ones_one : (k s i : ℕ) → s < 2 ^ k → In i s → 1 ≤ ones s
ones_one k s i h m = omega (arith, ones_inserted k 0 s i (pow_pos k) h (in_none i) m (λ j n. absurd (in_none j n)), ones_none)
