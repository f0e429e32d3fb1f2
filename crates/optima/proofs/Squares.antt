-- By whole loads, each step lowers the sum of the squared loads.
use Rattle.std.proofs.Common.{◌≡◌, ℕ, ◌+◌, ◌-◌, ◌*◌, ◌<◌, ◌≤◌, Bool, T, List, length, get_or, ap, subst, add-mul, one-mul, mul-one, mul-add, arith, ltb→lt}
use Rattle.bases.specs.Exchange.{moved}
use Rattle.bases.specs.Family.{Family}
use Rattle.grades.specs.Grades.{Grades, ByWhole}
use Rattle.optima.specs.Steps.{Step}
use Rattle.optima.specs.Costs.{squares}
use Rattle.optima.proofs.LeastCost.{sum_over_moved}
use Rattle.optima.proofs.Graded.{last_unit, next_unit}

-- the square of the next number
square_next : (a b : ℕ) → b ≡ a + 1 → b * b ≡ a * a + a + a + 1
square_next a b e =
    let s = ap (λ (k : ℕ). k * k) e in
    let p = add-mul a 1 (a + 1) in
    let q = mul-add a a 1 in
    let r = mul-one a in
    let o = one-mul (a + 1) in
    omega arith

-- a move from a to less than a - 1 lowers the sum of the squares by two at least
squares_moved : (x : List ℕ) (i j : ℕ) → j < length x → (i ≡ j → ⊥) → get_or x j 0 + 1 < get_or x i 0 → squares (moved x i j) + 2 ≤ squares x
squares_moved x i j takes other wide =
    let m = sum_over_moved (λ k load. load * load) x i j (omega arith) takes other in
    let a = square_next (get_or x i 0 - 1) (get_or x i 0) (omega arith) in
    let b = square_next (get_or x j 0) (get_or x j 0 + 1) (omega arith) in
    omega arith

module _ {B : List ℕ → Type 0} {n top : ℕ} (family : Family B n top)
    (above : ℕ → ℕ → ℕ → ℕ → Bool) (grades : Grades above) where
  -- by whole loads, a step goes from a load to one that is lower by two at least
  pub step_wide : ByWhole above → (x : List ℕ) → B x → (i j : ℕ) → Step B above x i j → get_or x j 0 + 1 < get_or x i 0
  step_wide by_whole x hx i j s =
      let a = last_unit B n family.width family.few top family.low family.high x hx i s.reach.gives in
      let b = next_unit B n family.width family.few top family.low family.high x hx i j s.reach in
      ltb→lt (get_or x j 0 + 1) (get_or x i 0) (subst T (by_whole i (get_or x i 0) j (get_or x j 0 + 1) a b) s.graded)

  -- and so it lowers the sum of the squares by two at least
  pub squares_fall : ByWhole above → (x : List ℕ) → B x → (i j : ℕ) → Step B above x i j → squares (moved x i j) + 2 ≤ squares x
  squares_fall by_whole x hx i j s = squares_moved x i j s.reach.takes s.reach.other (step_wide by_whole x hx i j s)
