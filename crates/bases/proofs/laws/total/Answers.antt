-- The sum of the standing loads is small, and it is every base's.
use Rattle.std.proofs.Common.{ℕ, ◌^◌, get_or, sym, ap, ◌∙◌, arith, rules}
use Rattle.std.proofs.lemmas.Iterator.{YieldsList-from_map, YieldsList-from_range}
use Rattle.std.proofs.lemmas.Iterator.Consumers.{fits_from_yields_list, sum_from_yields_List}
use Rattle.bases.specs.Sums.{sum_to}
use Rattle.bases.proofs.Sums.{sum_list, sum_range, sum_few}
use Rattle.bases.proofs.Toward.{one_total}
use Rattle.bases.proofs.laws.total.Goals as goal

pub sum-requires-clause-fits : goal.sum-requires-clause-fits
sum-requires-clause-fits g c =
    let b = g.S.BaseSystem in
    let s = c.args.s.now in
    let load = λ (i : ℕ). get_or (b.loads s) i 0 in
    let family = g.met.S.BaseSystem.family s in
    let few = sum_few (b.seats s) 999999 load (λ i h. let high = family.high (b.loads s) (g.met.S.BaseSystem.stands s).0 i in let low = family.low in omega arith) in
    let all = sum_range (b.seats s) load in
    fits_from_yields_list c.map.result (2 ^ 32)
    (YieldsList-from_map _ load (YieldsList-from_range 0 c.count.result (b.seats s) c.map.ensures.source (omega (arith, c.count.ensures))) c.map.ensures.closure (λ i load f called. search rules))
    (omega (arith, family.few))

pub returns : goal.returns
returns g c x hx =
    let b = g.S.BaseSystem in
    let s = c.args.s.now in
    let load = λ (i : ℕ). get_or (b.loads s) i 0 in
    let family = g.met.S.BaseSystem.family s in
    let base = (g.met.S.BaseSystem.stands s).0 in
    let summed = sum_from_yields_List c.map.result c.sum.result c.sum.ensures.ran
    (YieldsList-from_map _ load (YieldsList-from_range 0 c.count.result (b.seats s) c.map.ensures.source (omega (arith, c.count.ensures))) c.map.ensures.closure (λ i load f called. search rules)) in
    one_total (b.bases s) family.exchange (b.seats s) family.width (b.loads s) x base hx
    ∙ sum_list (b.loads s) ∙ ap (λ (m : ℕ). sum_to m load) (family.width (b.loads s) base) ∙ sym (sum_range (b.seats s) load) ∙ sym summed
