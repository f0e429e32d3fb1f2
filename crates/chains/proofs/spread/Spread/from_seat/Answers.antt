use Rattle.std.proofs.Common.{◌≡◌, ℕ, ◌^◌, ◌<◌, ◌≤◌, replicate, ap, subst, inr, ⊎_elim, arith}
use lib.Count.{count_trailing_zeros}
use Rattle.std.proofs.lemmas.List.{get_or-replicate}
use Rattle.seats.specs.Sets.{In, Exactly}
use Rattle.seats.proofs.Members.{in_none}
use Rattle.seats.proofs.Walks.{lowest_is}
use Rattle.items.specs.Fillings.{Shape}
use Rattle.chains.specs.declared.spread.Spread.{Spread}
use Rattle.chains.specs.declared.spread.Mark.{Mark}
use Rattle.chains.specs.Spreads.{Spreading}
use Rattle.chains.proofs.Spreads.{starting, next_layer, depth_small, all_followed}
use Rattle.chains.proofs.spread.Spread.from_seat.Goals as goal

-- the first seat alone
pub loop-edge-init : goal.loop-edge-init
loop-edge-init g c =
    let d = g.D.Division in
    let store = c.args.division.now in
    let few = (g.met.D.Division.few store).1 in
    let i = c.args.i in
    let low : c.args.i < 64 = omega (arith, c.requires) in
    let alone : (j : ℕ) → Exactly (In j c.with.result) (j ≡ c.args.i) = λ j.
    (λ h. ⊎_elim (λ z. absurd (in_none j z)) (λ e. e) ((c.with.ensures.members low j).0 h), λ e. (c.with.ensures.members low j).1 (inr e)) in
    (starting (d.shape store) (d.amount store) i (record { seen = c.with.result; marks = replicate 64 (record { from = 0; far = 0 }) }) c.with.type_inv c.requires alone (ap (λ (m : Mark). m.far) (get_or-replicate 64 i (record { from = 0; far = 0 }) (record { from = 0; far = 0 }) low)), omega arith, c.with.type_inv)

-- while a seat is left to go from, it is fewer than 64 links away
shallow : (shape : Shape) (f : ℕ → ℕ → ℕ) (i : ℕ) (spread : Spread) (edge depth : ℕ) → shape.seats ≤ 64 → edge < 2 ^ 64 → (edge ≡ 0 → ⊥)
    → Spreading shape f i spread edge 0 depth → depth < 64
shallow shape f i spread edge depth few small some s =
    let v = lowest_is edge (omega arith) small in
    let d = depth_small shape f i spread edge 0 depth s (count_trailing_zeros 64 edge) v.member in
    omega arith

pub further-edge-requires : goal.further-edge-requires
further-edge-requires g c =
    let d = g.D.Division in
    let store = c.args.division.now in
    let l = c.loop-edge in
    record {
      spreading = l.invariant.0;
      near = shallow (d.shape store) (d.amount store) c.args.i l.spread l.edge l.depth
          (g.met.D.Division.few store).1 l.invariant.2 c.loop-edge-test.true l.invariant.0;
    }

pub loop-edge-smaller : goal.loop-edge-smaller
loop-edge-smaller g c =
    let d = g.D.Division in
    let store = c.args.division.now in
    let l = c.loop-edge in
    let low = shallow (d.shape store) (d.amount store) c.args.i l.spread l.edge l.depth
    (g.met.D.Division.few store).1 l.invariant.2 c.loop-edge-test.true l.invariant.0 in
    omega arith

pub loop-edge-preserved : goal.loop-edge-preserved
loop-edge-preserved g c =
    let d = g.D.Division in
    let store = c.args.division.now in
    let l = c.loop-edge in
    let low = shallow (d.shape store) (d.amount store) c.args.i l.spread l.edge l.depth
    (g.met.D.Division.few store).1 l.invariant.2 c.loop-edge-test.true l.invariant.0 in
    let new = c.further-edge.new.self in
    (next_layer (d.shape store) (d.amount store) c.args.i new c.further-edge.result l.depth c.further-edge.ensures, omega arith, c.further-edge.type_inv)

pub returns : goal.returns
returns g c =
    let d = g.D.Division in
    let store = c.args.division.now in
    let l = c.loop-edge in
    let s = l.spread in
    all_followed (d.shape store) (d.amount store) c.args.i s l.depth
    (subst (λ (e : ℕ). Spreading (d.shape store) (d.amount store) c.args.i s e 0 l.depth) c.loop-edge-test.false l.invariant.0)
