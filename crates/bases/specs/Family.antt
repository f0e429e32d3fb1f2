-- A family of bases: what holds of the bases of every system.
use Rattle.std.specs.Prelude.{◌≡◌, ℕ, ◌≤◌, List, length, slice_index}
use Rattle.bases.specs.Exchange.{Exchange}

-- The load lists B are the bases of n seats, at most 64: they obey the exchange law, each has a load for each seat, and none of
-- their loads exceeds the ceiling, which is itself a load.
pub record Family (B : List ℕ → Type 0) (n ceiling : ℕ) : Type 0 where
  pub exchange : Exchange B
  pub width : (x : List ℕ) → B x → length x ≡ n
  pub few : n ≤ 64
  pub high : (x : List ℕ) → B x → (i : ℕ) → slice_index x i ≤ ceiling
  pub low : ceiling ≤ 999999
