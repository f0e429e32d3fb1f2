-- What a levelling does, and what it promises.
use Rattle.std.specs.Prelude.{◌≡◌, ℕ, suc, ◌+◌, ◌*◌, ◌<◌, ◌≤◌, Bool, List, Some, None, Option, Ok, Err, Result}
use Rattle.faults.specs.declared.Fault.{Fault}
use Rattle.faults.specs.declared.Kind.{Kind}
use Rattle.faults.specs.declared.Reason.TheVariants.{BeyondLimits}
use Rattle.faults.specs.Places.{fault_nowhere}
use Rattle.grades.specs.Grades.{ByWhole}
use Rattle.optima.specs.Steps.{Step, LevelBy}
use Rattle.optima.specs.Costs.{squares, Kindest, HeaviestLeast}
use Rattle.steps.specs.Chosen.{Chosen}

-- Levelling from a system a: so many steps lead to b. Each is the step to take from where the last one led, and each is one shift
-- of the whole state; nothing else happens on the way.
pub data Levelled {S : Type 0} (bases : S → List ℕ → Type 0) (loads : S → List ℕ) (shifted : S → ℕ → ℕ → ℕ → S → Type 0)
    (above : ℕ → ℕ → ℕ → ℕ → Bool) (a : S) : ℕ → S → Type 0 where
  start : Levelled bases loads shifted above a 0 a
  further : {made : ℕ} {b c : S} (i j count : ℕ) → Levelled bases loads shifted above a made b → Chosen (bases b) above (loads b) i j → shifted b i j count c
      → Levelled bases loads shifted above a (suc made) c

-- The answer within a budget: level, with the number of steps made, when no step is left; and spent, with none, when the budget is
-- made and another step exists. A budget above 999,999 is refused, and nothing is done.
abbrev pub LevelSays : {S : Type 0} → (S → List ℕ → Type 0) → (S → List ℕ) → (S → ℕ → ℕ → ℕ → S → Type 0) → Kind → (ℕ → ℕ → ℕ → ℕ → Bool) → ℕ → S → S → Result (Option ℕ) Fault → Type 0
LevelSays bases loads shifted kind above budget a b (Ok (Some made)) =
    (budget ≤ 999999) × (made ≤ budget) × Levelled bases loads shifted above a made b × LevelBy (bases b) above (loads b)
LevelSays bases loads shifted kind above budget a b (Ok None) =
    (budget ≤ 999999) × Levelled bases loads shifted above a budget b × ((i : ℕ) × (j : ℕ) × Step (bases b) above (loads b) i j)
LevelSays bases loads shifted kind above budget a b (Err fault) = (999999 < budget) × (fault ≡ fault_nowhere BeyondLimits kind) × (b ≡ a)

-- it ended level
abbrev pub EndedLevel : Result (Option ℕ) Fault → Type 0
EndedLevel (Ok (Some made)) = Unit {0}
EndedLevel (Ok None) = ⊥
EndedLevel (Err fault) = ⊥

-- the steps that were made
abbrev pub steps_of : ℕ → Result (Option ℕ) Fault → ℕ
steps_of budget (Ok (Some made)) = made
steps_of budget (Ok None) = budget
steps_of budget (Err fault) = 0

-- What is promised of a levelling from the loads x to the loads y, where the bases B are open to it: if it ends level, no base is
-- kinder; if it does so by whole loads, the k heaviest are least; and by whole loads twice its steps is at most the fall of the squares.
pub record Promised (B : List ℕ → Type 0) (above : ℕ → ℕ → ℕ → ℕ → Bool) (budget : ℕ) (x y : List ℕ) (r : Result (Option ℕ) Fault) : Type 0 where
  pub kindest : EndedLevel r → Kindest B above y
  pub heaviest_least : EndedLevel r → ByWhole above → HeaviestLeast B y
  pub squares_fall : ByWhole above → squares y + 2 * steps_of budget r ≤ squares x
