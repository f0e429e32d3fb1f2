-- Which of several steps is taken.
use Rattle.std.specs.Prelude.{ℕ, ◌+◌, ◌<◌, Bool, true, T, ◌⊎◌, List, Some, None, Option, slice_index}
use Rattle.optima.specs.Steps.{Step}

-- seat a goes before seat b: it is strictly better, or neither is and a is the lower seat
abbrev pub Before : (ℕ → ℕ → Bool) → ℕ → ℕ → Type 0
Before better a b = T (better a b) ⊎ ((T (better b a) → ⊥) × (a < b))

-- of the seats with P, a is the first
pub record Foremost (better : ℕ → ℕ → Bool) (P : ℕ → Type 0) (a : ℕ) : Type 0 where
  pub has : P a
  pub none_before : (b : ℕ) → P b → Before better b a → ⊥

-- a donor is better whose last unit is graded higher
abbrev pub better_donor : (ℕ → ℕ → ℕ → ℕ → Bool) → List ℕ → ℕ → ℕ → Bool
better_donor above x a b = above a (slice_index x a) b (slice_index x b)

-- a receiver is better whose next unit is graded lower
abbrev pub better_receiver : (ℕ → ℕ → ℕ → ℕ → Bool) → List ℕ → ℕ → ℕ → Bool
better_receiver above x a b = above b (slice_index x b + 1) a (slice_index x a + 1)

-- The step from i to j is the one to take: i has the highest-graded last unit among all donors of steps, j the lowest-graded
-- next unit among the receivers of i; ties go to the lower seat.
pub record Chosen (B : List ℕ → Type 0) (above : ℕ → ℕ → ℕ → ℕ → Bool) (x : List ℕ) (i j : ℕ) : Type 0 where
  pub donor : Foremost (better_donor above x) (λ k. (l : ℕ) × Step B above x k l) i
  pub receiver : Foremost (better_receiver above x) (λ l. Step B above x i l) j

-- a test of the best so far, met where there is none yet
abbrev pub beats_best : (ℕ → Bool) → Option ℕ → Bool
beats_best test None = true
beats_best test (Some best) = test best
