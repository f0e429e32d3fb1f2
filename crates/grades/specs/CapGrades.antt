-- The grades of units where one seat is to keep within limits.
use Rattle.std.specs.Prelude.{ℕ, cond, ◌==◌, nat_le}

-- The grades low, middle and high are written 0, 1 and 2. The units of the seat up to lo are low, the next ones up to hi in the
-- middle, and those beyond high; where lo is above hi, those up to lo are low still. All units of other seats are in the middle.
abbrev pub cap_grade : ℕ → ℕ → ℕ → ℕ → ℕ → ℕ
cap_grade seat lo hi i u = cond (i == seat) (cond (nat_le u lo) 0 (cond (nat_le u hi) 1 2)) 1
