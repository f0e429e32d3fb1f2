use Rattle.chains.specs.Spreads.{Spreading}
use Rattle.chains.proofs.spread.Spread.further.Given as goal

abbrev pub invariant-loop-u : goal.invariant-loop-u
invariant-loop-u g l = Spreading (g.D.Division.shape l.division) (g.D.Division.amount l.division) l.i l.self l.u-iterator.left l.next l.depth
