use Rattle.chains.proofs.Spreads.{one_turn}
use Rattle.chains.proofs.spread.Spread.further.Goals as goal

pub loop-u-preserved : goal.loop-u-preserved
loop-u-preserved g c =
    let d = g.D.Division in
    let store = c.args.division.now in
    let old = c.loop-u.self in
    let new = c.mark.new.self in
    one_turn (d.shape store) (d.amount store) c.args.i old new
    c.loop-u.u-iterator.left c.next.new.self.left c.loop-u.next c.union-next.result c.args.depth c.in-Some.u c.links.result c.without-new.result
    c.loop-u.invariant c.in-Some.ensures.steps c.links.ensures c.without-new.ensures c.mark.ensures c.union-next.ensures
