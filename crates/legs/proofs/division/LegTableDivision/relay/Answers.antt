-- The leg that was found gives one unit to its other end.
use Rattle.std.proofs.Common.{◌≡◌, ◌<◌, length, sym, refl, ap, ◌∙◌, rules}
use Rattle.std.proofs.lemmas.List.{get_or_read}
use Rattle.legs.specs.declared.leg.Leg.{Leg}
use Rattle.legs.specs.Lawful.{leg_at}
use Rattle.legs.proofs.Linking.{relays_forth, relays_back, of_link}
use Rattle.legs.proofs.division.LegTableDivision.relay.Goals as goal
use Rattle.legs.proofs.division.LegTableDivision.relay.Goals.{After-index}

pub returns-in_default : goal.returns-in_default
returns-in_default c =
    let d = c.args.self.now in
    record {
      moves = (λ link. c.in_default.ensures (of_link d.seats d.legs.items d.first d.lawful d.within c.args.u c.args.v link), refl);
      keeps = (refl, refl, refl);
    }

-- it has a share, and its end a is the one that was read
share : (c : After-index) → c.in-Some.t < length c.args.self.now.first
share c = let few = c.args.self.now.few.2 in let found = c.in-Some.ensures in search rules

end_a : (c : After-index) → c.index.result.now.a ≡ (leg_at c.args.self.now.legs.items c.in-Some.t).a
end_a c =
    ap (λ (x : Leg). x.a) (get_or_read c.args.self.now.legs.items c.in-Some.t c.index.result.now c.in-Some.ensures.0 c.index.ensures (record { a = 0; b = 0; passages = 0 }))

pub overflow_sub-self : goal.overflow_sub-self
overflow_sub-self c =
    let d = c.args.self.now in
    let found = c.in-Some.ensures in
    let at = (goal.at.overflow_sub-self c).After-index in
    (relays_forth d.seats d.legs.items d.first d.lawful d.within c.args.u c.args.v c.in-Some.t (share at) found.0 found.1 (c.if-u-index.true ∙ end_a at)).0

pub returns-then-u-index : goal.returns-then-u-index
returns-then-u-index c =
    let d = c.args.self.now in
    let found = c.in-Some.ensures in
    let at = (goal.at.returns-then-u-index c).After-index in
    record {
      moves = (relays_forth d.seats d.legs.items d.first d.lawful d.within c.args.u c.args.v c.in-Some.t (share at) found.0 found.1 (c.if-u-index.true ∙ end_a at)).1;
      keeps = (refl, refl, refl);
    }

pub returns-else-u-index : goal.returns-else-u-index
returns-else-u-index c =
    let d = c.args.self.now in
    let found = c.in-Some.ensures in
    let at = (goal.at.returns-else-u-index c).After-index in
    record {
      moves = relays_back d.seats d.legs.items d.first d.lawful d.within c.args.u c.args.v c.in-Some.t (share at) found.0 found.1 (λ e. c.if-u-index.false (e ∙ sym (end_a at)));
      keeps = (refl, refl, refl);
    }
