-- Faults by their place.
use Rattle.std.specs.Prelude.{ℕ}
use Rattle.faults.specs.declared.Fault.{Fault}
use Rattle.faults.specs.declared.Kind.{Kind}
use Rattle.faults.specs.declared.Kind.TheVariants.{Page}
use Rattle.faults.specs.declared.Reason.{Reason}
use Rattle.faults.specs.declared.Place.{Place}
use Rattle.faults.specs.declared.Place.TheVariants.{None, Seat, Entry, Column}

-- a fault of the top layer, at a seat
abbrev pub fault_at : Reason → ℕ → Kind → Fault
fault_at reason seat kind = record { reason = reason; place = Seat seat; kind = kind; depth = 0 }

-- a fault of the top layer, with no place
abbrev pub fault_nowhere : Reason → Kind → Fault
fault_nowhere reason kind = record { reason = reason; place = None; kind = kind; depth = 0 }

-- a fault of a page, at a line and a column
abbrev pub fault_on_page : Reason → ℕ → ℕ → Fault
fault_on_page reason line column = record { reason = reason; place = Column line column; kind = Page; depth = 0 }

-- what is shown for a place: the column, the seat or the entry, and 0 for none
abbrev pub shown_place : Place → ℕ
shown_place None = 0
shown_place (Seat seat) = seat
shown_place (Entry entry) = entry
shown_place (Column line column) = column
