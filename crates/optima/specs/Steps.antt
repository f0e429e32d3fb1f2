-- Steps: moves of one unit to where it is graded lower.
use Rattle.std.specs.Prelude.{ℕ, ◌+◌, Bool, T, List, slice_index}
use Rattle.bases.specs.Exchange.{Reaches}

-- moving a unit from i to j gives a base, and the last unit of i is graded above the next unit of j
pub record Step (B : List ℕ → Type 0) (above : ℕ → ℕ → ℕ → ℕ → Bool) (x : List ℕ) (i j : ℕ) : Type 0 where
  pub reach : Reaches B x i j
  pub graded : T (above i (slice_index x i) j (slice_index x j + 1))

-- a base is level by a grading when it has no step
abbrev pub LevelBy : (List ℕ → Type 0) → (ℕ → ℕ → ℕ → ℕ → Bool) → List ℕ → Type 0
LevelBy B above x = (i j : ℕ) → Step B above x i j → ⊥
