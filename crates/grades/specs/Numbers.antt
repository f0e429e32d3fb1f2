-- Gradings by a number.
use Rattle.std.proofs.Common.{inl, inr, ⊎_elim, arith, ltb→lt, lt→ltb}
use Rattle.std.specs.Prelude.{ℕ, ◌≤◌, refl}
use Rattle.std.proofs.lemmas.Bool.{cases_lt}
use Rattle.std.proofs.lemmas.Bool.Decides.{nat_tests}
use Rattle.grades.specs.Grades.{Grades, whole, ByWhole}
use Rattle.grades.specs.ByNumber.{by_number}
use Rattle.grades.specs.CapGrades.{cap_grade}

-- a number that does not fall along a seat's units grades them
pub number_grades : (grade : ℕ → ℕ → ℕ) → ((i u v : ℕ) → u ≤ v → grade i u ≤ grade i v) → Grades (by_number grade)
number_grades grade climbs =
    record {
      never_self = λ i u _ h. omega (arith, ltb→lt);
      one_way = λ i u j v _ _ h k. omega (arith, ltb→lt);
      between = λ i u j v k w _ _ _ h.
          ⊎_elim (λ low. inl (lt→ltb _ _ low)) (λ high. inr (lt→ltb _ _ (omega (arith, ltb→lt)))) (cases_lt (grade k w) (grade i u));
      rises = λ i u v _ _ le h. omega (arith, ltb→lt, climbs i u v le);
    }

-- whole loads grade by the number of the unit
pub whole_grades : Grades whole
whole_grades = number_grades (λ i u. u) (λ i u v le. le)

-- the grading by whole loads goes by them
pub whole_by_whole : ByWhole whole
whole_by_whole i u j v _ _ = refl

-- a seat's grades about its limits do not fall
pub cap_climbs : (seat lo hi i u v : ℕ) → u ≤ v → cap_grade seat lo hi i u ≤ cap_grade seat lo hi i v
cap_climbs seat lo hi i u v le = grind (arith, nat_tests)
