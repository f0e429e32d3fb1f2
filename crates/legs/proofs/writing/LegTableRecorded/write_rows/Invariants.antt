use Rattle.std.proofs.Common.{◌≡◌, ℕ, ◌<◌, ◌≤◌, length, get_or, drop}
use Rattle.legs.specs.Lawful.{leg_at}
use Rattle.legs.specs.SharedLegs.{pairs_of, pairs_left}
use Rattle.legs.specs.Written.{row_of}
use Rattle.legs.proofs.writing.LegTableRecorded.write_rows.Given as goal

abbrev pub invariant-loop-t : goal.invariant-loop-t
invariant-loop-t l = record {
  can : (goal.iterator-loop-t).can_next l.t-iterator;
  finite : (goal.iterator-loop-t).is_finite l.t-iterator;
  left : pairs_left l.t-iterator.iter ≡ drop l.t-iterator.count (pairs_of l.self.legs.items l.self.first);
  among : l.t-iterator.count ≤ length l.self.legs.items;
  written : (k : ℕ) → k < l.t-iterator.count → get_or l.out k (record { a = 0; b = 0; share_a = 0; share_b = 0 }) ≡ row_of (leg_at l.self.legs.items k) (get_or l.self.first k 0);
  beyond : drop (length l.self.legs.items) l.out ≡ drop (length l.self.legs.items) l.initial.out;
}
