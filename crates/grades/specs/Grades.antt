-- Gradings: which of two units of work is graded above the other. Unit u of seat i is the u-th unit that i has.
use Rattle.std.specs.Prelude.{◌≡◌, ℕ, ◌<◌, ◌≤◌, Bool, T, ◌⊎◌, nat_lt}

-- a unit of work: a seat from 0 to 63, and a number from 1 to 999,999
pub record UnitOf (i u : ℕ) : Type 0 where
  pub seat : i < 64
  pub first : 1 ≤ u
  pub last : u ≤ 999999

-- `above i u j v`: unit u of seat i is graded above unit v of seat j
pub record Grades (above : ℕ → ℕ → ℕ → ℕ → Bool) : Type 0 where
  -- no unit is above itself
  pub never_self : (i u : ℕ) → UnitOf i u → T (above i u i u) → ⊥
  -- of two units at most one is above the other
  pub one_way : (i u j v : ℕ) → UnitOf i u → UnitOf j v → T (above i u j v) → T (above j v i u) → ⊥
  -- where a is above c, each b is below a or above c
  pub between : (i u j v k w : ℕ) → UnitOf i u → UnitOf j v → UnitOf k w → T (above i u j v) → T (above i u k w) ⊎ T (above k w j v)
  -- a seat's units do not fall
  pub rises : (i u v : ℕ) → UnitOf i u → UnitOf i v → u ≤ v → T (above i u i v) → ⊥

-- by whole loads: the later unit is above
abbrev pub whole : ℕ → ℕ → ℕ → ℕ → Bool
whole i u j v = nat_lt v u

-- a grading that goes by whole loads
abbrev pub ByWhole : (ℕ → ℕ → ℕ → ℕ → Bool) → Type 0
ByWhole above = (i u j v : ℕ) → UnitOf i u → UnitOf j v → above i u j v ≡ whole i u j v
