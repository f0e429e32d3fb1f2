-- The seats that links lead to, but for the seat itself, are exactly those in reach.
use Rattle.std.proofs.Common.{◌≡◌, ℕ, ◌<◌, sym, ap, ◌∙◌, inr, ⊎_elim, arith}
use Rattle.std.proofs.lemmas.Result.{err_from_is_err_and}
use Rattle.seats.specs.Sets.{In, Exactly}
use Rattle.seats.proofs.Members.{in_none}
use Rattle.faults.specs.declared.Reason.TheVariants.{NoSuchSeat}
use Rattle.faults.specs.Places.{fault_at}
use Rattle.items.proofs.Units.{length_loads}
use Rattle.chains.specs.Exact.{seen_reached, reached_seen}
use Rattle.chains.proofs.system.DividedBaseSystem.reach.Goals as goal

pub returns-in_err-seat_given : goal.returns-in_err-seat_given
returns-in_err-seat_given g c =
    let d = g.D.Division in
    let store = c.args.self.now.division in
    let len = length_loads (d.shape store) (d.amount store) in
    let p = err_from_is_err_and c.from_residual.result c.from_residual.ensures.1 in
    let past = c.in_err-seat_given.ensures in
    rw (p.1, p.2) (omega (arith, past.0, c.seats.ensures), past.1 ∙ ap (fault_at NoSuchSeat c.args.i) c.kind.ensures)

pub from_seat-spread-requires : goal.from_seat-spread-requires
from_seat-spread-requires g c = omega (arith, c.in_ok-seat_given.ensures, c.seats.ensures)

pub returns : goal.returns
returns g c =
    let d = g.D.Division in
    let laws = g.met.D.Division in
    let store = c.args.self.now.division in
    let len = length_loads (d.shape store) (d.amount store) in
    let i = c.args.i in
    let s = c.from_seat-spread.result in
    let dist = c.from_seat-spread.ensures in
    let seat : c.args.i < (d.shape store).seats = omega (arith, c.in_ok-seat_given.ensures, c.seats.ensures) in
    let low : c.args.i < 64 = omega (arith, (laws.few store).1) in
    let alone : (j : ℕ) → Exactly (In j c.with.result) (j ≡ c.args.i) = λ j.
    (λ h. ⊎_elim (λ z. absurd (in_none j z)) (λ e. e) ((c.with.ensures.members low j).0 h), λ e. (c.with.ensures.members low j).1 (inr e)) in (
      omega arith,
      λ j. (
        λ h. let m = (c.without.ensures j).0 h in seen_reached (d.shape store) (d.amount store) (laws.fills store) i s dist j m.0 (λ e. m.1 ((alone j).1 e)),
        λ r. (c.without.ensures j).1 (reached_seen (d.shape store) (d.amount store) (laws.fills store) i s dist j r, λ h. r.other (sym ((alone j).0 h))),
      ),
    )
