-- What the calls of a base system answer, for every argument.
use Rattle.std.specs.Prelude.{◌≡◌, ℕ, ◌<◌, ◌≤◌, cond, List, length, Ok, Err, Result, ◌==◌, ◌≢◌, nat_lt, slice_index}
use Rattle.faults.specs.declared.Fault.{Fault}
use Rattle.faults.specs.declared.Kind.{Kind}
use Rattle.faults.specs.declared.Reason.TheVariants.{NoSuchSeat, SeatsEqual}
use Rattle.faults.specs.Places.{fault_at}
use Rattle.seats.specs.Sets.{In}
use Rattle.bases.specs.Exchange.{Reaches}

-- the standing loads x are one of the bases B, and the ceiling is a load
abbrev pub Stands : (List ℕ → Type 0) → List ℕ → ℕ → Type 0
Stands B x ceiling = B x × (ceiling ≤ 999999)

-- the load of seat i, or a refusal where i is no seat
abbrev pub LoadSays : List ℕ → Kind → ℕ → Result ℕ Fault → Type 0
LoadSays x kind i (Ok load) = (i < length x) × (load ≡ slice_index x i)
LoadSays x kind i (Err fault) = (length x ≤ i) × (fault ≡ fault_at NoSuchSeat i kind)

-- the set of exactly the seats in the reach of seat i, or a refusal where i is no seat
abbrev pub ReachSays : (List ℕ → Type 0) → List ℕ → Kind → ℕ → Result ℕ Fault → Type 0
ReachSays B x kind i (Ok set) = (i < length x) × ((j : ℕ) → (In j set → Reaches B x i j) × (Reaches B x i j → In j set))
ReachSays B x kind i (Err fault) = (length x ≤ i) × (fault ≡ fault_at NoSuchSeat i kind)

-- i and j are two different seats among n
abbrev pub Two : ℕ → ℕ → ℕ → Type 0
Two n i j = (i < n) × (j < n) × (i ≢ j)

-- The fault of a shift from i to j that is refused, among n seats. The top looks for a seat that is none,
-- the first given first, and then for equal seats; for two different seats `why` says what forbids it.
abbrev pub refusal : ℕ → Kind → (ℕ → ℕ → Fault) → ℕ → ℕ → Fault
refusal n kind why i j =
    cond (nat_lt i n) (cond (nat_lt j n) (cond (i == j) (fault_at SeatsEqual i kind) (why i j)) (fault_at NoSuchSeat j kind)) (fault_at NoSuchSeat i kind)

-- A shift from i to j took a system from `before` to `after`. Where j is in the reach of i it answers a count from 1 to
-- n - 1, and `Shifted count` holds; and else it is refused, with the fault due, and the system is as before.
abbrev pub ShiftSays : {S : Type 0} → S → S → (List ℕ → Type 0) → List ℕ → Fault → (ℕ → Type 0) → ℕ → ℕ → Result ℕ Fault → Type 0
ShiftSays before after B x due Shifted i j (Ok count) = Reaches B x i j × (1 ≤ count) × (count < length x) × Shifted count
ShiftSays before after B x due Shifted i j (Err fault) = (Reaches B x i j → ⊥) × (fault ≡ due) × (after ≡ before)
