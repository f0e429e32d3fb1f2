-- Choosing one of several seats by tests that others give.
use Rattle.std.specs.Prelude.{◌≡◌, ℕ, ◌<◌, Bool, true, T, ◌⊎◌}
use Rattle.seats.specs.Sets.{In}

-- what a test of a seat answers is `test` of it
abbrev pub Decides : (ℕ → Bool → Type 0) → (ℕ → Bool) → Type 0
Decides answers test = (i : ℕ) (r : Bool) → i < 64 → answers i r → r ≡ test i

-- what a test of two seats answers is `before` of them
abbrev pub Compares : (ℕ → ℕ → Bool → Type 0) → (ℕ → ℕ → Bool) → Type 0
Compares answers before = (i j : ℕ) (r : Bool) → i < 64 → j < 64 → answers i j r → r ≡ before i j

-- the seats of a set that pass a test
abbrev pub Among : ℕ → (ℕ → Bool) → ℕ → Type 0
Among set test k = In k set × (test k ≡ true)

-- an order of the seats with P: of two at most one goes before the other, and where a goes before b, each c is behind a or goes before b
pub record Orders (before : ℕ → ℕ → Bool) (P : ℕ → Type 0) : Type 0 where
  pub one_way : (a b : ℕ) → P a → P b → T (before a b) → T (before b a) → ⊥
  pub between : (a b c : ℕ) → P a → P b → P c → T (before a b) → T (before a c) ⊎ T (before c b)
