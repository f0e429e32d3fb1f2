use Rattle.std.proofs.Common.{◌-◌, ◌≤◌}
use Rattle.levels.proofs.Under.{Under}
use Rattle.levels.proofs.levelling.level.Given as goal

abbrev pub invariant-loop-i : goal.invariant-loop-i
invariant-loop-i g l =
    let b = g.S.BaseSystem in
    (l.made ≤ l.budget) × Under b.seats b.bases b.loads b.top b.shifted (g.G.Grading.above l.grading) l.initial.s l.s l.made

abbrev pub decreases-loop-i : goal.decreases-loop-i
decreases-loop-i g l = l.budget - l.made
