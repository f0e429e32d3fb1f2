-- Gradings that give each unit a number.
use Rattle.std.specs.Prelude.{ℕ, Bool, nat_lt}
use Rattle.grades.specs.declared.graded.Grade.{Grade}
use Rattle.grades.specs.declared.graded.Grade.TheVariants.{Low, Middle, High}

-- the unit with the greater number is above; `grade i u` is the number of unit u of seat i
abbrev pub by_number : (ℕ → ℕ → ℕ) → ℕ → ℕ → ℕ → ℕ → Bool
by_number grade i u j v = nat_lt (grade j v) (grade i u)

-- the number of a grade
abbrev pub number_of_grade : Grade → ℕ
number_of_grade Low = 0
number_of_grade Middle = 1
number_of_grade High = 2
