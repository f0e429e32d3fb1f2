use Rattle.std.proofs.Common.{ap, ◌∙◌, arith}
use Rattle.certificates.specs.Loads.{different_loads}
use Rattle.certificates.proofs.Counting.{walked_all}
use Rattle.certificates.proofs.values.count_values.Goals as goal

pub returns : goal.returns
returns g c =
    let b = g.S.BaseSystem in
    let laws = g.met.S.BaseSystem in
    let v = c.values_of.result in
    let now = v.system.now in
    walked_all b.loads v c.count.result
    (λ i. let low = laws.high now (b.loads now) (laws.stands now).0 i in omega (arith, (laws.stands now).1, c.values_of.ensures.all)) c.count.ensures.ran
    ∙ ap (λ s. different_loads (b.loads s)) c.values_of.ensures.system
