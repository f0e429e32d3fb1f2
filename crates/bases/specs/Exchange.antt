-- Load lists, moves of one unit, and the exchange law of a set of load lists.
-- A load list has one load for each seat; a base is a load list that is lawful.
use Rattle.std.specs.Prelude.{◌≡◌, ℕ, ◌+◌, ◌-◌, ◌<◌, List, length, slice_index, slice_set}

-- x with one unit moved from seat i to seat j
abbrev pub moved : List ℕ → ℕ → ℕ → List ℕ
moved x i j = slice_set (slice_set x i (slice_index x i - 1)) j (slice_index x j + 1)

-- Where a base x has more at seat i than a base y, some seat j has less in x than in y,
-- and one unit can be moved from i to j in x, and from j to i in y: both lists are bases again.
abbrev pub Exchange : (List ℕ → Type 0) → Type 0
Exchange B =
    (x y : List ℕ) → B x → B y → (i : ℕ) → slice_index y i < slice_index x i
    → (j : ℕ) × (slice_index x j < slice_index y j) × B (moved x i j) × B (moved y j i)

-- two sets of load lists have the same members
abbrev pub Same : (List ℕ → Type 0) → (List ℕ → Type 0) → Type 0
Same B C = (x : List ℕ) → (B x → C x) × (C x → B x)

-- seat j is in the reach of seat i: i has a unit, and moving it to the other seat j gives a base
pub record Reaches (B : List ℕ → Type 0) (x : List ℕ) (i j : ℕ) : Type 0 where
  pub gives : 0 < slice_index x i
  pub takes : j < length x
  pub other : i ≡ j → ⊥
  pub base : B (moved x i j)
