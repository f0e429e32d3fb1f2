-- The grades of units where a set of seats is favoured.
use Rattle.std.specs.Prelude.{ℕ, ◌/◌, ◌%◌, ◌^◌, Bool, true, false, cond, ◌==◌}
use Rattle.grades.specs.declared.favour.Aim.{Aim}
use Rattle.grades.specs.declared.favour.Aim.TheVariants.{Most, Least}

-- whether seat i belongs to the set: digit i of the set, in base two, is one
abbrev pub belongs : ℕ → ℕ → Bool
belongs set i = (set / 2 ^ i % 2) == 1

-- whether the set is to have the most
abbrev pub is_most : Aim → Bool
is_most Most = true
is_most Least = false

-- the grade of every unit of seat i: 0 inside the set and 1 outside, and where the set is to have the least, 1 inside and 0 outside
abbrev pub favour_grade : ℕ → Bool → ℕ → ℕ
favour_grade set most i = cond (belongs set i) (cond most 0 1) (cond most 1 0)
