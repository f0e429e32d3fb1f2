-- The chain gives the share of each leg, and their sum is small.
use Rattle.std.proofs.Common.{length, ◌∙◌, rules, tests, arith}
use Rattle.std.proofs.lemmas.Iterator.{YieldsList-from_map}
use Rattle.std.proofs.lemmas.Iterator.Consumers.{YieldsList-from_first, YieldsList-at, sum_by_from_yields_List, fits_by_from_yields_list}
use Rattle.legs.specs.Lawfully.{held_small, held_is}
use Rattle.legs.specs.Shares.{share_of}
use Rattle.legs.specs.SharedLegs.{pairs_of, pair_of, pairs_left}
use Rattle.legs.proofs.SharedLegs.{sum_shares}
use Rattle.legs.proofs.division.LegTableDivision.held.Goals as goal

pub sum-requires-clause-fits : goal.sum-requires-clause-fits
sum-requires-clause-fits c =
    let d = c.args.self.now in
    let legs = d.legs.items in
    let pairs = pairs_of legs d.first in
    let all = sum_shares legs d.first c.args.seat in
    let most = held_small d.seats legs d.lawful d.first d.within c.args.seat (length legs) (omega arith) in
    fits_by_from_yields_list (λ p. share_of p.0 p.1 c.args.seat) pairs c.map.result _
    (YieldsList-from_map _ (λ p. share_of p.0 p.1 c.args.seat) (YieldsList-at c.map.ensures.source (YieldsList-from_first pair_of pairs_left pairs c.shared.ensures)) c.map.ensures.closure (λ x r q k. search (rules, tests)))
    (omega (arith, d.few.2))

pub returns : goal.returns
returns c =
    let d = c.args.self.now in
    let legs = d.legs.items in
    let pairs = pairs_of legs d.first in
    sum_by_from_yields_List (λ p. share_of p.0 p.1 c.args.seat) pairs c.map.result c.sum.result c.sum.ensures.ran
    (YieldsList-from_map _ (λ p. share_of p.0 p.1 c.args.seat) (YieldsList-at c.map.ensures.source (YieldsList-from_first pair_of pairs_left pairs c.shared.ensures)) c.map.ensures.closure (λ x r q k. search (rules, tests)))
    ∙ sum_shares legs d.first c.args.seat ∙ held_is d.seats legs d.lawful d.first d.within c.args.seat
