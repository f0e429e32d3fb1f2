-- The second example: four passages with seat 0, and three units carried at seat 1.
use Rattle.std.proofs.Common.{[], ◌∷◌, refl, arith}
use Rattle.grades.specs.Grades.{whole}
use Rattle.levels.specs.Levelling.Levelled.{start}
use Rattle.optima.specs.Steps.{LevelBy}
use Rattle.soundings.specs.Soundings.{FourAndThree, LegWithThreeCarried}
use Rattle.soundings.proofs.Dividing.{divided}
use Rattle.soundings.proofs.TwoSeats.{level_of_two}

-- the loads are those of the leg, 4 and 0, with 0 and 3 added
base : FourAndThree (4 ∷ 3 ∷ [])
base = (4 ∷ 0 ∷ [], divided 4 4 0 refl, refl)

-- a unit that left seat 0 would be its fourth and become the fourth of seat 1; one that left seat 1, its third, the fifth of seat 0
level : LevelBy FourAndThree whole (4 ∷ 3 ∷ [])
level = level_of_two FourAndThree whole 4 3 (λ s. s.graded) (λ s. s.graded)

-- it is a base, and no step is made
pub leg_with_three_carried : LegWithThreeCarried
leg_with_three_carried = (base, (omega arith, omega arith, start, level))
