-- The chain gives the passages of each leg, and their sum is small.
use Rattle.std.proofs.Common.{◌≡◌, ◌<◌, ◌^◌, length, ◌∙◌, rules, arith}
use Rattle.std.specs.List.{sum_by}
use Rattle.std.proofs.iter.runs.Made.{chains}
use Rattle.legs.specs.declared.leg.Leg.{Leg}
use Rattle.legs.specs.Lawfully.{most_small}
use Rattle.legs.specs.RowSums.{sum_passages}
use Rattle.legs.proofs.division.LegTableDivision.ceiling.Goals as goal

pub sum-requires-clause-fits : goal.sum-requires-clause-fits
sum-requires-clause-fits c =
    let d = c.args.self.now in
    let legs = d.legs.items in
    let all = sum_passages legs in
    let most = most_small d.seats legs d.lawful (length legs) (omega arith) in
    let small : sum_by (λ (leg : Leg). leg.passages) legs < 2 ^ 32 = omega (arith, d.few.2) in
    search (rules, chains)

pub returns : goal.returns
returns c =
    let legs = c.args.self.now.legs.items in
    let sum : c.sum.result ≡ sum_by (λ (leg : Leg). leg.passages) legs = search (rules, chains) in
    sum ∙ sum_passages legs
