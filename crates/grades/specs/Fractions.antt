-- Gradings by fractions.
use Rattle.std.specs.Prelude.{ℕ, ◌*◌, ◌≤◌}
use Rattle.std.proofs.Common.{inl, inr, ⊎_elim, ltb→lt, lt→ltb, mul-le-mul_right, le_of_mul-le-mul_right, arith}
use Rattle.std.proofs.lemmas.Bool.{cases_lt}
use Rattle.grades.specs.Grades.{Grades}
use Rattle.grades.specs.Weights.{by_shares}

-- u / a at most x / c, and x / c at most v / b: then u / a is at most v / b
pub fractions_join : (u v x a b c : ℕ) → 1 ≤ c → u * c ≤ x * a → x * b ≤ v * c → u * b ≤ v * a
fractions_join u v x a b c some first second =
    let left : u * c * b ≤ x * a * b = mul-le-mul_right b first in
    let right : x * b * a ≤ v * c * a = mul-le-mul_right a second in
    le_of_mul-le-mul_right {k = c} (omega arith) some

-- units divided by weights of 1 and more are graded by the fractions
pub share_grades : (weight : ℕ → ℕ) → ((i : ℕ) → 1 ≤ weight i) → Grades (by_shares weight)
share_grades weight some =
    record {
      never_self = λ i u _ h. omega (arith, ltb→lt);
      one_way = λ i u j v _ _ h k. omega (arith, ltb→lt);
      between = λ i u j v k x _ _ _ h.
          ⊎_elim (λ low. inl (lt→ltb _ _ low))
          (λ first. ⊎_elim (λ low. inr (lt→ltb _ _ low))
          (λ second. absurd (omega (arith, ltb→lt, fractions_join u v x (weight i) (weight j) (weight k) (some k) first second)))
          (cases_lt (v * weight k) (x * weight j))) (cases_lt (x * weight i) (u * weight k));
      rises = λ i u v _ _ le h. omega (arith, ltb→lt, mul-le-mul_right (weight i) le);
    }
