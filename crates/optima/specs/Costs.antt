-- What a load list costs where each unit has a cost, and the costs that promises speak of.
use Rattle.std.specs.Prelude.{ℕ, suc, ◌*◌, ◌≤◌, Bool, cond, List, [], ◌∷◌, length, take, sum, nat_le, slice_index}
use Rattle.bases.specs.Sums.{sum_to}
use Rattle.grades.specs.Grades.{UnitOf}

-- the cost of all units of all seats, where unit u of seat i costs `unit-cost i u`
abbrev pub cost : (ℕ → ℕ → ℕ) → List ℕ → ℕ
cost unit-cost x = sum_to (length x) (λ i. sum_to (slice_index x i) (λ u. unit-cost i (suc u)))

-- how many units of x are graded above unit v of seat j
abbrev pub units_above : (ℕ → ℕ → ℕ → ℕ → Bool) → List ℕ → ℕ → ℕ → ℕ
units_above above x j v = cost (λ i u. cond (above i u j v) 1 0) x

-- a load put into a falling list at its place
abbrev pub placed : ℕ → List ℕ → List ℕ
placed load [] = load ∷ []
placed load (next ∷ rest) = cond (nat_le next load) (load ∷ (next ∷ rest)) (next ∷ placed load rest)

-- the loads from the heaviest to the lightest
abbrev pub falling : List ℕ → List ℕ
falling [] = []
falling (load ∷ rest) = placed load (falling rest)

-- the k heaviest loads, added up
abbrev pub heaviest : ℕ → List ℕ → ℕ
heaviest k x = sum (take k (falling x))

-- the sum of the squared loads
abbrev pub squares : List ℕ → ℕ
squares x = sum_to (length x) (λ i. slice_index x i * slice_index x i)

-- no base is kinder: each has, for every unit of work, at least as many units graded above that unit
abbrev pub Kindest : (List ℕ → Type 0) → (ℕ → ℕ → ℕ → ℕ → Bool) → List ℕ → Type 0
Kindest B above x = (j v : ℕ) → UnitOf j v → (y : List ℕ) → B y → units_above above x j v ≤ units_above above y j v

-- for each k, the k heaviest loads of every base add up to at least those of x
abbrev pub HeaviestLeast : (List ℕ → Type 0) → List ℕ → Type 0
HeaviestLeast B x = (k : ℕ) (y : List ℕ) → B y → heaviest k x ≤ heaviest k y
