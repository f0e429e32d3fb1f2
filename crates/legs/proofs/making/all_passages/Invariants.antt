use Rattle.std.proofs.Common.{◌≡◌, ℕ, ◌<◌, length, get_or}
use Rattle.legs.specs.Lawful.{leg_at}
use Rattle.legs.proofs.making.all_passages.Given as goal

-- the legs so far have their passages
abbrev pub invariant-loop-t : goal.invariant-loop-t
invariant-loop-t l = (length l.first ≡ 256) × ((k : ℕ) → k < l.t → get_or l.first k 0 ≡ (leg_at l.legs k).passages)
