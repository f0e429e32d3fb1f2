use Rattle.std.proofs.Common.{rules, get_or, refl, arith}
use Rattle.std.proofs.lemmas.Iterator.{YieldsList-from_range, YieldsList-from_map}
use Rattle.std.proofs.lemmas.Iterator.Consumers.{YieldsList-at, YieldsList-from_filter, max_from_yields_List}
use borrow.Author.Tests.{tests}
use Rattle.certificates.proofs.Highest.{low, next_of_seats}
use Rattle.certificates.proofs.values.highest_below.Goals as goal

pub returns : goal.returns
returns g c =
    let s = c.args.s.now in
    let x = g.S.BaseSystem.loads s in
    let n = c.count.result in
    let w = g.met.S.BaseSystem.width s x (g.met.S.BaseSystem.stands s).0 in
    next_of_seats c.args.bound x n c.max.result (omega (arith, c.count.ensures))
    (max_from_yields_List c.filter.result c.max.result c.max.ensures.ran
    (YieldsList-from_filter _ (low c.args.bound)
    (YieldsList-at c.filter.ensures.source
    (YieldsList-from_map _ (λ i. get_or x i 0) (YieldsList-at c.map.ensures.source (YieldsList-from_range 0 n n refl (omega arith))) c.map.ensures.closure (λ i r q k. search rules)))
    c.filter.ensures.closure (λ l b q k. search (rules, tests))))
