use Rattle.std.proofs.Common.{rules}
use Rattle.steps.specs.Chosen.{better_receiver}
use Rattle.steps.proofs.Graded.{betters, receivers, receivers_order}
use Rattle.steps.proofs.receivers.best_receiver.Goals as goal

pub returns : goal.returns
returns g c =
    let b = g.S.BaseSystem in
    let laws = g.met.S.BaseSystem in
    let s = c.args.s.now in
    let x = b.loads s in
    let above = g.G.Grading.above c.args.grading.now in
    let grades = g.met.G.Grading.order c.args.grading.now in
    let order = receivers_order (laws.family s) above grades x (laws.stands s).0 c.args.i c.args.reach c.requires in
    receivers (b.bases s) above x c.args.i c.args.reach c.requires c.foremost.result
    (c.foremost.ensures (betters above x c.args.i) (better_receiver above x) (λ j r seat answer. search rules) (λ j k r hj hk answer. search rules) order)
