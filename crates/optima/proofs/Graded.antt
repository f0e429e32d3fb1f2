-- A base that is level by a grading has, above each unit, the fewest units of all bases.
use Rattle.std.proofs.Common.{◌≡◌, ℕ, ◌+◌, ◌<◌, ◌≤◌, Bool, true, false, cond, T, List, length, get_or, ⊎_elim, arith}
use Rattle.bases.specs.Exchange.{Reaches}
use Rattle.bases.specs.Family.{Family}
use Rattle.bases.proofs.Moves.{moved_to, seat_of}
use Rattle.grades.specs.Grades.{UnitOf, Grades}
use Rattle.optima.specs.Steps.{LevelBy}
use Rattle.optima.specs.Costs.{units_above}
use Rattle.optima.proofs.LeastCost.{least_cost}

-- a test that passes only where another does counts at most as much
flag_le : (a b : Bool) → (T a → T b) → cond a 1 0 ≤ cond b 1 0
flag_le true true h = omega arith
flag_le true false h = absurd (h tt)
flag_le false true h = omega arith
flag_le false false h = omega arith

-- the units that bases have
module _ (B : List ℕ → Type 0) (n : ℕ) (width : (x : List ℕ) → B x → length x ≡ n) (few : n ≤ 64)
    (top : ℕ) (low : top ≤ 999999) (high : (x : List ℕ) → B x → (i : ℕ) → get_or x i 0 ≤ top) where
  -- a seat's last unit, where it has one
  pub last_unit : (x : List ℕ) → B x → (i : ℕ) → 0 < get_or x i 0 → UnitOf i (get_or x i 0)
  last_unit x hx i has =
      let l = width x hx in
      let s = seat_of x i has in
      let t = high x hx i in
      record { seat = omega arith; first = omega arith; last = omega arith }

  -- a seat's next unit, where a unit can be moved to it
  pub next_unit : (x : List ℕ) → B x → (i j : ℕ) → Reaches B x i j → UnitOf j (get_or x j 0 + 1)
  next_unit x hx i j r =
      let l = width x hx in
      let to = moved_to x i j r.takes in
      let t = high _ r.base j in
      let s = r.takes in
      record { seat = omega arith; first = omega arith; last = omega arith }

module _ {B : List ℕ → Type 0} {n top : ℕ} (family : Family B n top)
    (above : ℕ → ℕ → ℕ → ℕ → Bool) (grades : Grades above) where
  -- of a level base and any base, the level one has at most as many units above each unit
  pub level_units : (x : List ℕ) → B x → LevelBy B above x → (j v : ℕ) → UnitOf j v → (y : List ℕ) → B y → units_above above x j v ≤ units_above above y j v
  level_units x hx level j v t = least_cost B family.exchange n family.width top family.high (λ i u. cond (above i u j v) 1 0) climbs x hx no_fewer
    where
      -- what is above t has all later units of its seat above t
      climbs : (i u w : ℕ) → i < n → 1 ≤ u → u ≤ w → w ≤ top → cond (above i u j v) 1 0 ≤ cond (above i w j v) 1 0
      climbs i u w hi first le last =
          let a : UnitOf i u = record { seat = omega arith; first = omega arith; last = omega arith } in
          let b : UnitOf i w = record { seat = omega arith; first = omega arith; last = omega arith } in
          flag_le (above i u j v) (above i w j v) (λ p. ⊎_elim (λ q. absurd (grades.rises i u w a b le q)) (λ q. q) (grades.between i u j v i w a t b p))

      -- what is above t goes nowhere else than above t
      no_fewer : (i k : ℕ) → Reaches B x i k → cond (above i (get_or x i 0) j v) 1 0 ≤ cond (above k (get_or x k 0 + 1) j v) 1 0
      no_fewer i k r =
          let a = last_unit B n family.width family.few top family.low family.high x hx i r.gives in
          let b = next_unit B n family.width family.few top family.low family.high x hx i k r in
          flag_le (above i (get_or x i 0) j v) (above k (get_or x k 0 + 1) j v)
          (λ p. ⊎_elim (λ q. absurd (level i k (record { reach = r; graded = q }))) (λ q. q) (grades.between i (get_or x i 0) j v k (get_or x k 0 + 1) a t b p))
