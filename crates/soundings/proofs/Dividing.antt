-- The loads of one leg between seats 0 and 1.
use Rattle.std.proofs.Common.{◌≡◌, ℕ, zero, suc, ◌+◌, ◌<◌, ◌≤◌, [], ◌∷◌, arith}
use Rattle.bases.specs.Sums.{sum_to}
use Rattle.items.specs.Fillings.{loads_of}
use Rattle.legs.specs.Shares.{at_ends, shape_of}
use Rattle.soundings.specs.Soundings.{leg_of, OneLeg}

module _ (c a b : ℕ) (all : a + b ≡ c) where
  -- neither seat has more than the passages
  within : (t s : ℕ) → t < 1 → s < 2 → at_ends 0 1 a b s ≤ (shape_of 2 (leg_of c ∷ [])).room t s
  within zero zero ht hs = omega arith
  within zero (suc zero) ht hs = omega arith
  within zero (suc (suc s)) ht hs = absurd (omega arith)
  within (suc t) s ht hs = absurd (omega arith)

  -- together they have all of them
  dealt : (t : ℕ) → t < 1 → sum_to 2 (at_ends 0 1 a b) ≡ (shape_of 2 (leg_of c ∷ [])).due t
  dealt zero ht = omega arith
  dealt (suc t) ht = absurd (omega arith)

  -- where seat 0 has a of the passages and seat 1 the other b, these are the loads
  pub divided : OneLeg c (a ∷ b ∷ [])
  divided = (λ t s. at_ends 0 1 a b s, record { within = within; whole = dealt }, loads)
    where
      loads : a ∷ b ∷ [] ≡ loads_of (shape_of 2 (leg_of c ∷ [])) (λ t s. at_ends 0 1 a b s)
      loads = let first : a ≡ 0 + a = omega arith in let second : b ≡ 0 + b = omega arith in cc
