-- Why a table of legs is refused: the first reason that is due.
use Rattle.std.specs.Prelude.{◌≡◌, ℕ, ◌<◌, Bool, cond, List, [], ◌∷◌, length, Some, None, Ok, Err, vec_items, Option, Result, ◌==◌, nat_le, nat_lt, slice_index}
use Rattle.faults.specs.declared.Fault.{Fault}
use Rattle.faults.specs.declared.Kind.TheVariants.{Legs}
use Rattle.faults.specs.declared.Reason.TheVariants.{NoSuchSeat, SeatsEqual, BeyondLimits}
use Rattle.faults.specs.Places.{fault_at, fault_nowhere}
use Rattle.legs.specs.declared.leg.Leg.{Leg}
use Rattle.legs.specs.declared.table.LegTable.{LegTable}
use Rattle.legs.specs.Lawful.{leg_at}

-- the fault where the test is met, and else what comes after it
abbrev pub refuse : Bool → Fault → Option Fault → Option Fault
refuse test fault after = cond test (Some fault) after

-- the first of two faults
abbrev pub first_due : Option Fault → Option Fault → Option Fault
first_due None after = after
first_due (Some fault) after = Some fault

-- beyond the limits of the system
abbrev pub beyond : Fault
beyond = fault_nowhere BeyondLimits Legs

-- a leg is refused whose a is no seat, whose b is no seat, whose ends are the same, or that has not 1 to 1,000 passages
abbrev pub leg_fault : ℕ → Leg → Option Fault
leg_fault seats leg =
    refuse (nat_le seats leg.a) (fault_at NoSuchSeat leg.a Legs)
    (refuse (nat_le seats leg.b) (fault_at NoSuchSeat leg.b Legs)
    (refuse (leg.a == leg.b) (fault_at SeatsEqual leg.a Legs)
    (refuse (leg.passages == 0) beyond (refuse (nat_lt 1000 leg.passages) beyond None))))

-- the fault of the first leg that is refused
abbrev pub first_fault : ℕ → List Leg → Option Fault
first_fault seats [] = None
first_fault seats (leg ∷ legs) = first_due (leg_fault seats leg) (first_fault seats legs)

-- before that, there are 1 to 64 seats and at most 256 legs
abbrev pub legs_fault : ℕ → List Leg → Option Fault
legs_fault seats legs =
    refuse (seats == 0) beyond (refuse (nat_lt 64 seats) beyond (refuse (nat_lt 256 (length legs)) beyond (first_fault seats legs)))

-- a table is made exactly where no fault is due, of these seats and legs, and at first the end a of each leg has all of it
abbrev pub NewSays : ℕ → List Leg → Result LegTable Fault → Type 0
NewSays seats legs (Ok table) =
    (legs_fault seats legs ≡ None) × (table.seats ≡ seats) × (vec_items table.legs ≡ legs)
    × ((t : ℕ) → t < length legs → slice_index table.first t ≡ (leg_at legs t).passages)
NewSays seats legs (Err fault) = legs_fault seats legs ≡ Some fault
