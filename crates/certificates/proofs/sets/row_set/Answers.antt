use Rattle.std.proofs.Common.{rules, leb, get_or, refl, arith}
use Rattle.std.proofs.lemmas.Iterator.{YieldsList-from_range}
use Rattle.std.proofs.lemmas.Iterator.Consumers.{YieldsList-at, YieldsList-from_filter}
use borrow.Author.Tests.{tests}
use Rattle.certificates.proofs.Gathering.{gathered}
use Rattle.certificates.proofs.sets.row_set.Goals as goal

pub returns : goal.returns
returns g c =
    let b = g.S.BaseSystem in
    let s = c.args.s.now in
    let x = b.loads s in
    let v = c.args.value in
    let n = c.count.result in
    let few = (g.met.S.BaseSystem.few s).1 in
    let w = g.met.S.BaseSystem.width s x (g.met.S.BaseSystem.stands s).0 in
    gathered (b.bases s) x v n c.fold.result (λ set i r q k. search (rules, tests)) (omega (arith, c.count.ensures)) (omega (arith, c.count.ensures))
    (YieldsList-from_filter _ (λ i. leb v (get_or x i 0)) (YieldsList-at c.filter.ensures.source (YieldsList-from_range 0 n n refl (omega arith))) c.filter.ensures.closure (λ i r q k. search (rules, tests)))
    c.fold.ensures.ran
