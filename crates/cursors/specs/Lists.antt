-- Steps that are repeated. Assumes nothing.
use Rattle.std.specs.Prelude.{ℕ, zero, suc, ◌+◌, min, Bool, List, [], ◌∷◌}
use Rattle.limits.specs.Limits.{most_seats}
use Rattle.seats.specs.Lists.{set_of}
use Rattle.cursors.specs.Steps.{Spot, Step, ◌▸◌, done, either, seat}

-- n steps, each from a state that the one before left
abbrev pub chain : {S A : Type 0} → (S → Step A) → (S → A → S) → ℕ → S → Step (List A)
chain step next zero s = done []
chain step next (suc n) s = step s ▸ λ x. chain step next n (next s x) ▸ λ xs. done (x ∷ xs)

-- n lines, numbered from k
abbrev pub numbered : {A : Type 0} → (ℕ → Step A) → ℕ → ℕ → Step (List A)
numbered step n k = chain step (λ i _. i + 1) n k

-- lines as long as the test is met, and at most n
abbrev pub section : {A : Type 0} → (Spot → Bool) → Step A → ℕ → Step (List A)
section test step zero = done []
section test step (suc n) = either test (step ▸ λ x. section test step n ▸ λ xs. done (x ∷ xs)) (done [])

-- so many seats, of the n that there are, which rise strictly
abbrev pub rising : ℕ → ℕ → Step (List ℕ)
rising n size = chain (λ low. seat low n) (λ _ v. v + 1) size 0

-- the same as a set, which holds seats below 64
abbrev pub seat_set : ℕ → ℕ → Step ℕ
seat_set n size = rising (min n most_seats) size ▸ λ xs. done (set_of xs)
