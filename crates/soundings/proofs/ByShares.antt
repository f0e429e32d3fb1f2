-- The first example: two passages, and the weights 2 and 5.
use Rattle.std.proofs.Common.{ℕ, ◌*◌, Bool, T, [], ◌∷◌, refl, arith, ltb→lt}
use Rattle.grades.specs.Weights.{by_shares, weight_of}
use Rattle.levels.specs.Levelling.Levelled.{start, further}
use Rattle.optima.specs.Steps.{LevelBy}
use Rattle.steps.specs.Chosen.{Chosen}
use Rattle.soundings.specs.Soundings.{OneLeg, LegByShares}
use Rattle.soundings.proofs.Dividing.{divided}
use Rattle.soundings.proofs.TwoSeats.{level_of_two, step_of_two, chosen_of_two}

-- graded by shares with the weights 2 and 5
abbrev shares : ℕ → ℕ → ℕ → ℕ → Bool
shares = by_shares (weight_of (2 ∷ 5 ∷ []))

-- no unit is above itself
never_self : (i u : ℕ) → T (shares i u i u) → ⊥
never_self i u t = let less = ltb→lt (u * weight_of (2 ∷ 5 ∷ []) i) (u * weight_of (2 ∷ 5 ∷ []) i) t in omega arith

-- seat 0 has both: its second unit is 2/2 of its weight, above 1/5, and seat 1 has no unit to give
first : Chosen (OneLeg 2) shares (2 ∷ 0 ∷ []) 0 1
first = chosen_of_two (OneLeg 2) shares 2 0 never_self (λ s. omega (arith, s.reach.gives)) (step_of_two (OneLeg 2) shares 2 0 (omega arith) (divided 2 1 1 refl) tt)

-- each seat has one: the unit of seat 0 is 1/2 of its weight, above 2/5, and the unit of seat 1 is 1/5, not above 2/2
second : Chosen (OneLeg 2) shares (1 ∷ 1 ∷ []) 0 1
second = chosen_of_two (OneLeg 2) shares 1 1 never_self (λ s. s.graded) (step_of_two (OneLeg 2) shares 1 1 (omega arith) (divided 2 0 2 refl) tt)

-- seat 1 has both: seat 0 has no unit to give, and the second unit of seat 1 is 2/5 of its weight, not above 1/2
level : LevelBy (OneLeg 2) shares (0 ∷ 2 ∷ [])
level = level_of_two (OneLeg 2) shares 0 2 (λ s. omega (arith, s.reach.gives)) (λ s. s.graded)

-- both steps are made, and then none is left
pub leg_by_shares : LegByShares
leg_by_shares = (omega arith, omega arith, further 0 1 1 (further 0 1 1 start first refl) second refl, level)
