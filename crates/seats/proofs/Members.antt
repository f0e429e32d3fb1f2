-- Which seats belong to a set that the code makes from others. Assumes nothing.
use Rattle.std.proofs.Common.{w64, ◌≡◌, ℕ, zero, suc, ◌-◌, ◌^◌, ◌<◌, ◌≤◌, Bool, true, false, eqb, ◌⊎◌, MatchBool, refl, ap, ◌∙◌, inl, inr, ⊎_elim, arith, pow_pos, eqb-true}
use lib.Bits.{bit_and, bit_or}
use borrow.Author.Tests.{eqb-false}
use Rattle.std.proofs.lemmas.Bool.{cases_eq, cases_lt}
use Rattle.std.proofs.lemmas.Nat.Bits.{bit_at-lt, bit_at-zero, bit_at_and, bit_at_or, bit_at_not, bit_at_above, bit_at_ones, bit_at-pow_same, bit_at-pow_other, same_from_bits}
use Rattle.seats.specs.Sets.{In, Within, Exactly, Joined, Shared, Removed}
use Rattle.seats.proofs.Digits.{digit, digit_not}

-- a seat belongs, or its digit is nought
pub in_or_nought : (i s : ℕ) → In i s ⊎ (digit i s ≡ 0)
in_or_nought i s = ⊎_elim inl (λ out. inr (omega (arith, bit_at-lt s i))) (cases_eq (digit i s) 1)

-- a seat belongs, or it does not
pub in_or_not : (i s : ℕ) → In i s ⊎ (In i s → ⊥)
in_or_not i s = ⊎_elim inl (λ z. inr (λ m. omega arith)) (in_or_nought i s)

-- the digit of a seat that does not belong is nought
pub out_nought : (i s : ℕ) → (In i s → ⊥) → digit i s ≡ 0
out_nought i s out = ⊎_elim (λ m. absurd (out m)) (λ z. z) (in_or_nought i s)

-- no seat belongs to the set nought
pub in_none : (i : ℕ) → In i 0 → ⊥
in_none i m = let z = bit_at-zero i in omega arith

-- a set with a member is more than nought
pub in_positive : (i s : ℕ) → In i s → 0 < s
in_positive i zero m = absurd (in_none i m)
in_positive i (suc s) m = omega arith

-- a member of a number of k digits is below k
pub in_small : (k i s : ℕ) → s < 2 ^ k → In i s → i < k
in_small k i s h m =
    ⊎_elim (λ (low : i < k). low) (λ (high : k ≤ i). let z = bit_at_above s k i h high in absurd (omega arith)) (cases_lt i k)

-- sets with the same members are equal
pub same_sets : (a b : ℕ) → ((i : ℕ) → Exactly (In i a) (In i b)) → a ≡ b
same_sets a b same = same_from_bits a b digits
  where
    digits : (i : ℕ) → digit i a ≡ digit i b
    digits i =
        ⊎_elim (λ m. let n = (same i).0 m in omega arith)
        (λ z. let w = out_nought i b (λ n. let m = (same i).1 n in omega arith) in omega arith) (in_or_nought i a)

-- a set without members is nought
pub none_empty : (s : ℕ) → ((i : ℕ) → In i s → ⊥) → s ≡ 0
none_empty s none = same_sets s 0 (λ i. (λ m. absurd (none i m), λ m. absurd (in_none i m)))

-- the members of an `or`: those of either
pub joined : (a b : ℕ) → Joined a b (bit_or a b)
joined a b j = (into, back)
  where
    into : In j (bit_or a b) → In j a ⊎ In j b
    into m = let e = bit_at_or a b j in ⊎_elim inl (λ z. inr (omega arith)) (in_or_nought j a)

    back : In j a ⊎ In j b → In j (bit_or a b)
    back (inl m) = let e = bit_at_or a b j in let l = bit_at-lt b j in omega arith
    back (inr m) = let e = bit_at_or a b j in let l = bit_at-lt a j in omega arith

-- the members of an `and`: those of both
pub shared : (a b : ℕ) → Shared a b (bit_and a b)
shared a b j =
    let e = bit_at_and a b j in
    let x = bit_at-lt a j in
    let y = bit_at-lt b j in
    (λ m. (omega arith, omega arith), λ m. omega (arith, m.0, m.1))

-- the members of an `and` with a complement: those of the first set alone
pub removed : (a b : ℕ) → a < 2 ^ 64 → b < 2 ^ 64 → Removed a b (bit_and a (2 ^ 64 - 1 - b))
removed a b ha hb j = (into, back)
  where
    into : In j (bit_and a (2 ^ 64 - 1 - b)) → In j a × (In j b → ⊥)
    into m =
        let both = (shared a (2 ^ 64 - 1 - b) j).0 m in
        (both.0, λ n. omega (arith, bit_at_not w64 b j hb (in_small 64 j a ha both.0), both.1, n))

    back : In j a × (In j b → ⊥) → In j (bit_and a (2 ^ 64 - 1 - b))
    back p = (shared a (2 ^ 64 - 1 - b) j).1 (p.0, omega (arith, bit_at_not w64 b j hb (in_small 64 j a ha p.0), out_nought j b p.1))

-- nothing is left of a, without the seats of b, exactly where a is within b
pub within_when : (a b r : ℕ) → Removed a b r → MatchBool (eqb r 0) (Within a b) (Within a b → ⊥)
within_when a b r gone = go (eqb r 0) refl
  where
    inside : r ≡ 0 → Within a b
    inside e i m =
        ⊎_elim (λ y. y) (λ out. let n = (gone i).1 (m, out) in absurd (omega (arith, in_positive i r n))) (in_or_not i b)

    nothing : Within a b → r ≡ 0
    nothing w = none_empty r (λ i m. let p = (gone i).0 m in p.1 (w i p.0))

    go : (t : Bool) → eqb r 0 ≡ t → MatchBool t (Within a b) (Within a b → ⊥)
    go true e = inside (eqb-true _ _ e)
    go false e = λ w. eqb-false _ _ e (nothing w)

-- the one member of a power of two is its exponent
pub power : (i j : ℕ) → Exactly (In j (2 ^ i)) (j ≡ i)
power i j = (into, λ p. ap (λ (x : ℕ). digit x (2 ^ i)) p ∙ bit_at-pow_same i)
  where
    into : In j (2 ^ i) → j ≡ i
    into m = ⊎_elim (λ p. p) (λ ne. let z = bit_at-pow_other i j ne in absurd (omega arith)) (cases_eq j i)

-- the members of an `or` with a power of two: those of the set, and the exponent
pub inserted : (s i j : ℕ) → Exactly (In j (bit_or s (2 ^ i))) (In j s ⊎ (j ≡ i))
inserted s i j = (
  λ m. ⊎_elim inl (λ p. inr ((power i j).0 p)) ((joined s (2 ^ i) j).0 m),
  λ m. (joined s (2 ^ i) j).1 (⊎_elim inl (λ p. inr ((power i j).1 p)) m),
)

-- the members of a power of two less one: the seats below its exponent
pub below_power : (n j : ℕ) → Exactly (In j (2 ^ n - 1)) (j < n)
below_power n j = (in_small n j (2 ^ n - 1) (omega (arith, pow_pos n)), bit_at_ones n j)

-- the members of a complement: the seats that do not belong
pub complement : (k b j : ℕ) → b < 2 ^ k → j < k → Exactly (In j (2 ^ k - 1 - b)) (In j b → ⊥)
complement k b j hb hj =
    let e = digit_not k j b hb hj in
    (λ m n. omega arith, λ out. let z = out_nought j b out in omega arith)
