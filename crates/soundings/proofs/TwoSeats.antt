-- Steps between two seats.
use Rattle.std.proofs.Common.{ℕ, zero, suc, ◌+◌, ◌-◌, ◌<◌, Bool, T, List, [], ◌∷◌, refl, ⊎_elim, arith}
use Rattle.optima.specs.Steps.{Step, LevelBy}
use Rattle.steps.specs.Chosen.{Before, Chosen, better_donor, better_receiver}

-- no seat goes before itself, where it is not better than itself
not_before_self : (better : ℕ → ℕ → Bool) (k : ℕ) → (T (better k k) → ⊥) → Before better k k → ⊥
not_before_self better k never before = ⊎_elim never (λ later. omega (arith, later.1)) before

module _ (B : List ℕ → Type 0) (above : ℕ → ℕ → ℕ → ℕ → Bool) (a b : ℕ) where
  -- where no step goes from 0 to 1, and none from 1 to 0, there is no step
  pub level_of_two : (Step B above (a ∷ b ∷ []) 0 1 → ⊥) → (Step B above (a ∷ b ∷ []) 1 0 → ⊥) → LevelBy B above (a ∷ b ∷ [])
  level_of_two there back zero zero s = s.reach.other refl
  level_of_two there back zero (suc zero) s = there s
  level_of_two there back zero (suc (suc j)) s = omega (arith, s.reach.takes)
  level_of_two there back (suc zero) zero s = back s
  level_of_two there back (suc zero) (suc zero) s = s.reach.other refl
  level_of_two there back (suc zero) (suc (suc j)) s = omega (arith, s.reach.takes)
  level_of_two there back (suc (suc i)) j s = omega (arith, s.reach.gives)

  -- seat 0 has a unit, one moved from it to seat 1 gives a base, and that unit is graded lower there: a step
  pub step_of_two : 0 < a → B ((a - 1) ∷ (b + 1) ∷ []) → T (above 0 a 1 (b + 1)) → Step B above (a ∷ b ∷ []) 0 1
  step_of_two has base graded = record { reach = record { gives = has; takes = omega arith; other = λ e. omega arith; base = base }; graded = graded }

  module _ (never_self : (i u : ℕ) → T (above i u i u) → ⊥) (back : Step B above (a ∷ b ∷ []) 1 0 → ⊥) where
    -- where no step goes from 1 to 0, seat 0 is the only donor, so none goes before it
    no_donor_before : (k : ℕ) → (l : ℕ) × Step B above (a ∷ b ∷ []) k l → Before (better_donor above (a ∷ b ∷ [])) k 0 → ⊥
    no_donor_before zero step = not_before_self (better_donor above (a ∷ b ∷ [])) 0 (never_self 0 a)
    no_donor_before (suc zero) (zero, s) = λ before. back s
    no_donor_before (suc zero) (suc zero, s) = λ before. s.reach.other refl
    no_donor_before (suc zero) (suc (suc l), s) = λ before. omega (arith, s.reach.takes)
    no_donor_before (suc (suc k)) (l, s) = λ before. omega (arith, s.reach.gives)

    -- seat 1 is the only receiver of seat 0, so none goes before it
    no_receiver_before : (l : ℕ) → Step B above (a ∷ b ∷ []) 0 l → Before (better_receiver above (a ∷ b ∷ [])) l 1 → ⊥
    no_receiver_before zero s = λ before. s.reach.other refl
    no_receiver_before (suc zero) s = not_before_self (better_receiver above (a ∷ b ∷ [])) 1 (never_self 1 (b + 1))
    no_receiver_before (suc (suc l)) s = λ before. omega (arith, s.reach.takes)

    -- where a step goes from 0 to 1, and none from 1 to 0, it is the one to take
    pub chosen_of_two : Step B above (a ∷ b ∷ []) 0 1 → Chosen B above (a ∷ b ∷ []) 0 1
    chosen_of_two step =
        record {
          donor = record { has = (1, step); none_before = no_donor_before };
          receiver = record { has = step; none_before = no_receiver_before };
        }
