use Rattle.std.proofs.Common.{◌≡◌, ℕ, ◌-◌, ◌^◌, ◌<◌, ◌≤◌}
use Rattle.seats.specs.Sets.{In}
use Rattle.seats.specs.Lists.{seats_of}
use Rattle.cursors.specs.Lists.{rising}
use Rattle.cursors.proofs.Rises.{rising_on}
use Rattle.cursors.proofs.cursor.Cursor.seat_set.Given as goal

abbrev pub invariant-loop : goal.invariant-loop
invariant-loop l =
    (rising_on l.count (seats_of l.set) (l.size - l.counter) l.low l.self ≡ rising l.count l.size l.initial.self)
    × ((j : ℕ) → In j l.set → j < l.low) × (l.set < 2 ^ 64) × (l.low ≤ 64)
