-- Room for rows. Assumes nothing.
use Rattle.std.specs.Prelude.{◌≡◌, ℕ, ◌≤◌, [], vec_items, vec_capacity, Vec}
use Rattle.std.specs.declared.alloc.Global.{Global}

-- no rows yet, and room for so many
abbrev pub Roomy : {A : Type 0} → ℕ → Vec A Global → Type 0
Roomy most rows = (vec_items rows ≡ []) × (most ≤ vec_capacity rows)

-- how many orders of one kind a page can have at the most: a line of orders has at least 13 bytes
abbrev pub most_orders : ℕ
most_orders = 2520
