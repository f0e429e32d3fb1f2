use Rattle.std.proofs.Common.{◌≡◌}
use Rattle.seats.specs.Sets.{Within}
use Rattle.chains.proofs.Marking.{Written}
use Rattle.chains.proofs.spread.Spread.mark.Given as goal

-- the seats that are no longer left are marked
abbrev pub invariant-loop-v : goal.invariant-loop-v
invariant-loop-v l =
    Within l.v-iterator.left l.new × Written l.new l.v-iterator.left (record { from = l.u; far = l.depth }) l.initial.self.marks l.self.marks
    × (l.self.seen ≡ l.initial.self.seen)
