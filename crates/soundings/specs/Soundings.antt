-- Two worked examples of levelling, each over one leg between seats 0 and 1.
use Rattle.std.specs.Prelude.{◌≡◌, ℕ, Bool, List, [], ◌∷◌, Some, Option, Ok, Result}
use Rattle.faults.specs.declared.Fault.{Fault}
use Rattle.faults.specs.declared.Kind.TheVariants.{Legs}
use Rattle.bases.specs.Exchange.{moved}
use Rattle.items.specs.Fillings.{Divisions}
use Rattle.legs.specs.declared.leg.Leg.{Leg}
use Rattle.legs.specs.Shares.{shape_of}
use Rattle.carry.specs.Carried.{Carried}
use Rattle.grades.specs.Grades.{whole}
use Rattle.grades.specs.Weights.{by_shares, weight_of}
use Rattle.levels.specs.Levelling.{LevelSays}

-- Levelling on load lists alone: from the loads x, with the bases B, it gives that answer and leads to the loads y.
-- A state is its load list, every state has the same bases, and a shift moves one unit.
abbrev pub Levels : (List ℕ → Type 0) → (ℕ → ℕ → ℕ → ℕ → Bool) → ℕ → List ℕ → Result (Option ℕ) Fault → List ℕ → Type 0
Levels B above budget x answer y = LevelSays {S = List ℕ} (λ _. B) (λ a. a) (λ a i j count b. b ≡ moved a i j) Legs above budget x y answer

-- the leg between seats 0 and 1 with so many passages
abbrev pub leg_of : ℕ → Leg
leg_of passages = record { a = 0; b = 1; passages = passages }

-- the loads of two seats between which the passages of that leg are divided
abbrev pub OneLeg : ℕ → List ℕ → Type 0
OneLeg passages = Divisions (shape_of 2 (leg_of passages ∷ []))

-- Two passages, and seat 0 has both. Seat 0 weighs 2 and seat 1 weighs 5, and units are graded by shares. Two steps are made, and
-- then seat 1 has both: its second unit is 2/5 of its weight, and is not above the first of seat 0, which would be 1/2.
abbrev pub LegByShares : Type 0
LegByShares = Levels (OneLeg 2) (by_shares (weight_of (2 ∷ 5 ∷ []))) 9 (2 ∷ 0 ∷ []) (Ok (Some 2)) (0 ∷ 2 ∷ [])

-- the loads of two seats with four passages between them, where seat 1 carries three units that stay with it
abbrev pub FourAndThree : List ℕ → Type 0
FourAndThree = Carried (0 ∷ 3 ∷ []) (OneLeg 4)

-- Four passages, all with seat 0, and three units carried at seat 1. By whole loads this base is level, and no step is made.
abbrev pub LegWithThreeCarried : Type 0
LegWithThreeCarried = FourAndThree (4 ∷ 3 ∷ []) × Levels FourAndThree whole 9 (4 ∷ 3 ∷ []) (Ok (Some 0)) (4 ∷ 3 ∷ [])
