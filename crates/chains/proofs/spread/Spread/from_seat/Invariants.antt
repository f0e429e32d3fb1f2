use Rattle.std.proofs.Common.{◌-◌, ◌^◌, ◌<◌, ◌≤◌}
use Rattle.chains.specs.Spreads.{Spreading}
use Rattle.chains.proofs.spread.Spread.from_seat.Given as goal

abbrev pub invariant-loop-edge : goal.invariant-loop-edge
invariant-loop-edge g l =
    Spreading (g.D.Division.shape l.division) (g.D.Division.amount l.division) l.i l.spread l.edge 0 l.depth
    × (l.depth ≤ 64) × (l.edge < 2 ^ 64)

abbrev pub decreases-loop-edge : goal.decreases-loop-edge
decreases-loop-edge g l = 64 - l.depth
