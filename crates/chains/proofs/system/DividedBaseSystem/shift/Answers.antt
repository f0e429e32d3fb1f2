-- A shift relays one unit along a shortest chain, or there is none.
use Rattle.std.proofs.Common.{sym, refl, ◌∙◌, arith}
use Rattle.std.proofs.lemmas.Result.{err_from_is_err_and}
use Rattle.faults.specs.declared.Reason.TheVariants.{NoSuchBase}
use Rattle.faults.specs.Places.{fault_at}
use Rattle.items.proofs.Units.{length_loads}
use Rattle.chains.specs.Exact.{seen_reached, reached_seen}
use Rattle.chains.proofs.Shifts.{refused_pair, refused_base, shifted_by}
use Rattle.chains.proofs.system.DividedBaseSystem.shift.Goals as goal

pub from_seat-spread-requires : goal.from_seat-spread-requires
from_seat-spread-requires g c = omega (arith, c.in_ok-pair_given.ensures.0, c.seats.ensures)

pub relay_back-requires : goal.relay_back-requires
relay_back-requires g c = record { distances = c.from_seat-spread.ensures; reached = c.if-not-has.ensures; apart = λ e. c.in_ok-pair_given.ensures.2 (sym e) }

pub returns-in_err-pair_given : goal.returns-in_err-pair_given
returns-in_err-pair_given g c =
    let d = g.D.Division in
    let laws = g.met.D.Division in
    let store = c.args.self.now.division in
    let p = err_from_is_err_and c.from_residual.result c.from_residual.ensures.1 in
    let due = refused_pair (d.shape store) (d.amount store) c.args.i c.args.j c.seats.result c.kind-kind.result (d.sort store)
    (λ _ receiver. fault_at NoSuchBase receiver (d.sort store)) c.in_err-pair_given.field-0.0 c.seats.ensures c.kind-kind.ensures c.in_err-pair_given.ensures in
    rw (p.1, p.2) (due.0, due.1, refl {a = c.args.self.now})

pub returns-then-not-has : goal.returns-then-not-has
returns-then-not-has g c =
    let d = g.D.Division in
    let laws = g.met.D.Division in
    let store = c.args.self.now.division in
    let s = c.from_seat-spread.result in (
      λ r. c.if-not-has.ensures (reached_seen (d.shape store) (d.amount store) (laws.fills store) c.args.i s c.from_seat-spread.ensures c.args.j r),
      c.at_seat.ensures ∙ refused_base (d.shape store) (d.amount store) c.args.i c.args.j c.seats.result c.kind-kind.result (d.sort store) c.seats.ensures c.kind-kind.ensures c.in_ok-pair_given.ensures,
      refl {a = c.args.self.now},
    )

pub returns : goal.returns
returns g c =
    let d = g.D.Division in
    let laws = g.met.D.Division in
    let store = c.args.self.now.division in
    let after = c.relay_back.new.division in
    let s = c.from_seat-spread.result in
    let i = c.args.i in
    let j = c.args.j in
    let reach = seen_reached (d.shape store) (d.amount store) (laws.fills store) i s c.from_seat-spread.ensures j c.if-not-has.ensures
    (λ e. c.in_ok-pair_given.ensures.2 (sym e)) in
    let passed = c.relay_back.ensures.passes in
    let len = length_loads (d.shape store) (d.amount store) in (
      reach,
      passed.some,
      (let short = passed.short in omega arith),
      (shifted_by (d.shape store) (d.amount store) i j (d.amount after) c.relay_back.result reach passed, c.relay_back.ensures.keeps),
    )
