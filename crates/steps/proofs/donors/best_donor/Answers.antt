use Rattle.std.proofs.Common.{rules}
use Rattle.steps.specs.Chosen.{better_donor}
use Rattle.steps.proofs.Graded.{gives, donors, donors_order}
use Rattle.steps.proofs.donors.best_donor.Goals as goal

pub returns : goal.returns
returns g c =
    let b = g.S.BaseSystem in
    let laws = g.met.S.BaseSystem in
    let s = c.args.s.now in
    let x = b.loads s in
    let above = g.G.Grading.above c.args.grading.now in
    let grades = g.met.G.Grading.order c.args.grading.now in
    let order = donors_order (laws.family s) above grades x (laws.stands s).0 c.args.seats in
    donors above x c.args.seats c.foremost.result
    (c.foremost.ensures (gives x) (better_donor above x) (λ i r seat answer. search rules) (λ i j r hi hj answer. search rules) order)
