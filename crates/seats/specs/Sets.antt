-- A set of seats is a number whose digit i, in base two, is one exactly where seat i belongs. Assumes nothing.
use Rattle.std.specs.Prelude.{◌≡◌, ℕ, ◌+◌, ◌/◌, ◌%◌, ◌^◌, ◌<◌, ◌≤◌, ◌⊎◌, ◌≢◌, count_ones}

-- seat i belongs to the set
abbrev pub In : ℕ → ℕ → Type 0
In i set = set / 2 ^ i % 2 ≡ 1

-- each seat of a belongs to b
abbrev pub Within : ℕ → ℕ → Type 0
Within a b = (i : ℕ) → In i a → In i b

-- P holds exactly where Q does
abbrev pub Exactly : Type 0 → Type 0 → Type 0
Exactly P Q = (P → Q) × (Q → P)

-- r is the set with the seat as a member more; a seat past the last of the 64 adds nothing
pub record Inserted (set seat r : ℕ) : Type 0 where
  pub members : seat < 64 → (j : ℕ) → Exactly (In j r) (In j set ⊎ (j ≡ seat))
  pub beyond : 64 ≤ seat → r ≡ set

-- r holds the seats of a and those of b
abbrev pub Joined : ℕ → ℕ → ℕ → Type 0
Joined a b r = (j : ℕ) → Exactly (In j r) (In j a ⊎ In j b)

-- r holds the seats that belong to both
abbrev pub Shared : ℕ → ℕ → ℕ → Type 0
Shared a b r = (j : ℕ) → Exactly (In j r) (In j a × In j b)

-- r holds the seats of a that do not belong to b
abbrev pub Removed : ℕ → ℕ → ℕ → Type 0
Removed a b r = (j : ℕ) → Exactly (In j r) (In j a × (In j b → ⊥))

-- r holds the seats below n, of the 64 that there are
abbrev pub Below : ℕ → ℕ → Type 0
Below n r = (j : ℕ) → Exactly (In j r) ((j < n) × (j < 64))

-- t is the lowest seat of the set
pub record Lowest (set t : ℕ) : Type 0 where
  pub seated : t < 64
  pub member : In t set
  pub least : (j : ℕ) → j < t → In j set → ⊥

-- t was the lowest seat of the old set, and the new one holds all others: one seat less, and a smaller number
pub record Taken (old new t : ℕ) : Type 0 where
  pub lowest : Lowest old t
  pub others : (j : ℕ) → Exactly (In j new) (In j old × (j ≢ t))
  pub fewer : count_ones new + 1 ≡ count_ones old
  pub smaller : new < old
