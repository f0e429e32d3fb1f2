use Rattle.std.proofs.Common.{ℕ, ◌^◌, ◌<◌}
use lib.Count.{ones}
use Rattle.seats.specs.Sets.{In}
use Rattle.optima.specs.Steps.{Step}
use Rattle.steps.proofs.choice.find_step.Given as goal

-- no seat that has been left out gives a step
abbrev pub invariant-loop-i : goal.invariant-loop-i
invariant-loop-i g l =
    let b = g.S.BaseSystem in
    let above = g.G.Grading.above l.grading in
    (l.left < 2 ^ 64) × ((k j : ℕ) → (In k l.left → ⊥) → Step (b.bases l.s) above (b.loads l.s) k j → ⊥)

abbrev pub decreases-loop-i : goal.decreases-loop-i
decreases-loop-i g l = ones l.left
