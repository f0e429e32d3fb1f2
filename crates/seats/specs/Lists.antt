-- A set of seats as a rising list of seats, and such a list as a set. Assumes nothing.
use Rattle.std.specs.Prelude.{◌≡◌, ℕ, zero, suc, ◌+◌, ◌/◌, ◌%◌, ◌^◌, ◌<◌, ◌≤◌, cond, List, [], ◌∷◌, ◌==◌, Option, MatchOption}
use Rattle.seats.specs.declared.InOrder.{InOrder}
use Rattle.seats.specs.Sets.{Taken}

-- the seats of the set among the w seats from k on, where the digits of `rest` tell which belong, rising
abbrev pub seats_from : ℕ → ℕ → ℕ → List ℕ
seats_from zero k rest = []
seats_from (suc w) k rest = cond (rest % 2 == 1) (k ∷ seats_from w (k + 1) (rest / 2)) (seats_from w (k + 1) (rest / 2))

-- the seats of a set, from the lowest up
unfoldable pub seats_of : ℕ → List ℕ
seats_of set = seats_from 64 0 set

-- the set that holds just the seats of a list
abbrev pub set_of : List ℕ → ℕ
set_of [] = 0
set_of (x ∷ xs) = 2 ^ x + set_of xs

-- a list of seats below n that rises strictly, from `low` on
abbrev pub Rising : ℕ → ℕ → List ℕ → Type 0
Rising n low [] = Unit {0}
Rising n low (x ∷ xs) = ((low ≤ x) × (x < n)) × Rising n (x + 1) xs

-- the seats that are still to come, from the lowest up
abbrev pub to_come : InOrder → List ℕ
to_come walk = seats_of walk.left

-- one step: the lowest seat comes, or none was left
abbrev pub TakesLowest : InOrder → Option ℕ → InOrder → Type 0
TakesLowest old result new = MatchOption result ((old.left ≡ 0) × (new.left ≡ 0)) (λ seat. Taken old.left new.left seat)
