-- The digits of a number in base two. Assumes nothing.
use Rattle.std.proofs.Common.{◌≡◌, ℕ, zero, suc, ◌+◌, ◌-◌, ◌/◌, ◌%◌, ◌^◌, ◌<◌, ◌⊎◌, refl, inl, inr, ⊎_elim, pow-suc, pow_pos, arith}
use Rattle.std.proofs.lemmas.Nat.Bits.{bit_at_lowest, bit_at-suc}
use Rattle.std.proofs.lemmas.Bool.{cases_eq}

-- digit i of a number
abbrev pub digit : ℕ → ℕ → ℕ
digit i s = s / 2 ^ i % 2

-- the lowest digit is 0 or 1
pub even_or_odd : (s : ℕ) → (s % 2 ≡ 0) ⊎ (s % 2 ≡ 1)
even_or_odd s = ⊎_elim inl (λ ne. inr (omega arith)) (cases_eq (s % 2) 0)

-- the half of a number of one digit more
pub half_lt : (k s : ℕ) → s < 2 ^ suc k → s / 2 < 2 ^ k
half_lt k s h = let e = pow-suc 2 k in omega arith

-- a number below two is 0 or 1
pub zero_or_one : (d : ℕ) → d < 2 → (d ≡ 0) ⊎ (d ≡ 1)
zero_or_one zero h = inl refl
zero_or_one (suc zero) h = inr refl
zero_or_one (suc (suc d)) h = absurd (omega arith)

-- each of the k digits of the complement is the other digit
pub digit_not : (k i b : ℕ) → b < 2 ^ k → i < k → digit i (2 ^ k - 1 - b) + digit i b ≡ 1
digit_not zero i b hb hi = absurd (omega arith)
digit_not (suc k) zero b hb hi =
    let p = pow_pos k in
    let e = pow-suc 2 k in
    rw (bit_at_lowest (2 ^ suc k - 1 - b), bit_at_lowest b) (omega arith)
digit_not (suc k) (suc i) b hb hi =
    let p = pow_pos k in
    let e = pow-suc 2 k in
    let half : (2 ^ suc k - 1 - b) / 2 ≡ 2 ^ k - 1 - b / 2 = omega arith in
    rw (bit_at-suc (2 ^ suc k - 1 - b) i, bit_at-suc b i, half) (digit_not k i (b / 2) (half_lt k b hb) (omega arith))
