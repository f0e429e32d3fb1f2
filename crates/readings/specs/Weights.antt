-- The weight of a seat, where each SHARE line gives one. Assumes nothing.
use Rattle.std.specs.Prelude.{◌≡◌, ℕ, ◌<◌, ◌⊎◌, List, ◌≢◌, slice_index_or}
use Rattle.readings.specs.declared.orders.ShareOrder.{ShareOrder}

-- line k of the shares
abbrev pub share_at : List ShareOrder → ℕ → ShareOrder
share_at shares k = slice_index_or shares k (record { seat = 0; weight = 0 })

-- of the first n lines, the last that names the seat counts; the weight is 1 where none does
abbrev pub LastCounts : List ShareOrder → ℕ → ℕ → ℕ → Type 0
LastCounts shares n seat w =
    (((j : ℕ) → j < n → (share_at shares j).seat ≢ seat) × (w ≡ 1))
    ⊎ ((k : ℕ) × (k < n) × ((share_at shares k).seat ≡ seat) × ((share_at shares k).weight ≡ w) × ((j : ℕ) → k < j → j < n → (share_at shares j).seat ≢ seat))
