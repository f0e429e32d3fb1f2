use Rattle.std.proofs.Common.{◌≡◌}
use Rattle.seats.specs.Sets.{In}
use Rattle.chains.specs.Chains.{far_of}
use Rattle.chains.proofs.Walked.{Walked}
use Rattle.chains.proofs.back.relay_back.Given as goal

-- back as far as seat v
abbrev pub invariant-loop-v : goal.invariant-loop-v
invariant-loop-v g l =
    let d = g.D.Division in
    In l.v l.spread.seen
    × Walked (d.shape l.initial.division) (d.amount l.initial.division) (d.amount l.division) (far_of l.spread) l.j l.v l.count
    × (d.shape l.division ≡ d.shape l.initial.division)
    × (d.most l.division ≡ d.most l.initial.division)
    × (d.sort l.division ≡ d.sort l.initial.division)

abbrev pub decreases-loop-v : goal.decreases-loop-v
decreases-loop-v g l = far_of l.spread l.v
