-- The chain asks each leg in turn.
use Rattle.std.proofs.Common.{ℕ, length, inl, ap, rules, tests, arith}
use Rattle.std.proofs.lemmas.Iterator.{IsFirst-from_position}
use Rattle.std.proofs.lemmas.Iterator.Consumers.{YieldsList-from_first}
use Rattle.legs.specs.declared.leg.Leg.{Leg}
use Rattle.legs.specs.Shares.{LegLinks}
use Rattle.legs.specs.SharedLegs.{pairs_of, pair_of, pairs_left}
use Rattle.legs.proofs.SharedLegs.{length_pairs, first_linking}
use Rattle.legs.proofs.table.LegTable.linking_leg.Goals as goal

pub position-requires-clause-fits : goal.position-requires-clause-fits
position-requires-clause-fits c =
    let d = c.args.self.now in
    inl (omega (arith, ap length c.shared.ensures, length_pairs d.legs.items d.first, d.few.2))

pub returns : goal.returns
returns c =
    let d = c.args.self.now in
    let legs = d.legs.items in
    first_linking legs d.first c.args.u c.args.v c.position.result
    (IsFirst-from_position c.position.new.self _ c.position.result (λ (p : Leg × ℕ). LegLinks p.0 p.1 c.args.u c.args.v) (λ (p : Leg × ℕ). LegLinks p.0 p.1 c.args.u c.args.v → ⊥) c.position.ensures.ran
    (YieldsList-from_first pair_of pairs_left (pairs_of legs d.first) c.shared.ensures) (λ x q k. search (rules, tests)) (λ x q k. search (rules, tests)))
