use Rattle.std.proofs.Common.{ℕ, Bool, true, false, MatchBool, sym, refl, ◌∙◌, subst}
use Rattle.items.specs.Fillings.{Shape, Fills, Link, Relayed}
use Rattle.chains.specs.Chains.{from_of, far_of}
use Rattle.chains.proofs.Walked.{Walked, not_yet, still_links, one_back, all_the_way}
use Rattle.chains.proofs.back.relay_back.Goals as goal

-- a relay along a link that stands is made
made : (b : Bool) (P Q R : Type 0) → MatchBool b P ((Q → ⊥) × R) → Q → P
made true P Q R h q = h
made false P Q R h q = absurd (h.0 q)

pub loop-v-init : goal.loop-v-init
loop-v-init g c =
    let d = g.D.Division in
    let store = c.args.division.now in
    (c.requires.reached, not_yet (d.shape store) (d.amount store) (far_of c.args.spread.now) c.args.j, refl, refl, refl)

pub loop-v-preserved : goal.loop-v-preserved
loop-v-preserved g c =
    let d = g.D.Division in
    let first = c.args.division.now in
    let store = c.loop-v.division in
    let spread = c.args.spread.now in
    let v = c.loop-v.v in
    let u = from_of spread v in
    let inv = c.loop-v.invariant in
    let came = c.requires.distances.came v inv.0 c.loop-v-test.true in
    let link = still_links (d.shape first) (d.amount first) (far_of spread) c.args.j (d.amount store) u v c.loop-v.count inv.1 came.1 came.2 in
    let link-now : Link (d.shape store) (d.amount store) u v = subst (λ (s : Shape). Link s (d.amount store) u v) (sym inv.2) link in
    let relayed = made c.relay.result _ _ _ c.relay.ensures.moves link-now in
    let relayed-first : Relayed (d.shape first) (d.amount store) (d.amount c.relay.new.self) u v =
    subst (λ (s : Shape). Relayed s (d.amount store) (d.amount c.relay.new.self) u v) inv.2 relayed in (
      came.0,
      one_back (d.shape first) (d.amount first) (far_of spread) c.args.j (d.amount store) u v c.loop-v.count inv.1 came.1 came.2 (d.amount c.relay.new.self) relayed-first,
      c.relay.ensures.keeps.0 ∙ inv.2,
      c.relay.ensures.keeps.1 ∙ inv.3,
      c.relay.ensures.keeps.2 ∙ inv.4,
    )

pub returns : goal.returns
returns g c =
    let d = g.D.Division in
    let laws = g.met.D.Division in
    let first = c.args.division.now in
    let store = c.loop-v.division in
    let spread = c.args.spread.now in
    let inv = c.loop-v.invariant in
    let at_i : Walked (d.shape first) (d.amount first) (d.amount store) (far_of spread) c.args.j c.args.i c.loop-v.count =
    subst (λ (k : ℕ). Walked (d.shape first) (d.amount first) (d.amount store) (far_of spread) c.args.j k c.loop-v.count) c.loop-v-test.false inv.1 in
    let fills : Fills (d.shape first) (d.amount store) = subst (λ (s : Shape). Fills s (d.amount store)) inv.2 (laws.fills store) in
    record {
      passes = all_the_way (d.shape first) (d.amount first) (d.amount store) (laws.fills first) fills c.args.i c.args.j spread
          c.requires.distances c.requires.reached c.requires.apart c.loop-v.count at_i;
      keeps = (inv.2, inv.3, inv.4);
    }
