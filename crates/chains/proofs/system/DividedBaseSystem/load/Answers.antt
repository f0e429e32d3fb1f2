-- There is a load for each seat.
use Rattle.std.proofs.Common.{ap, ◌∙◌, arith}
use Rattle.std.proofs.lemmas.Result.{err_from_is_err_and}
use Rattle.faults.specs.declared.Reason.TheVariants.{NoSuchSeat}
use Rattle.faults.specs.Places.{fault_at}
use Rattle.items.proofs.Units.{length_loads}
use Rattle.chains.proofs.system.DividedBaseSystem.load.Goals as goal

pub returns-in_err-seat_given : goal.returns-in_err-seat_given
returns-in_err-seat_given g c =
    let d = g.D.Division in
    let store = c.args.self.now.division in
    let len = length_loads (d.shape store) (d.amount store) in
    let p = err_from_is_err_and c.from_residual.result c.from_residual.ensures.1 in
    let past = c.in_err-seat_given.ensures in
    rw (p.1, p.2) (omega (arith, past.0, c.seats.ensures), past.1 ∙ ap (fault_at NoSuchSeat c.args.i) c.kind.ensures)

pub returns : goal.returns
returns g c =
    let d = g.D.Division in
    let store = c.args.self.now.division in
    let len = length_loads (d.shape store) (d.amount store) in
    (omega (arith, c.in_ok-seat_given.ensures, c.seats.ensures), c.held.ensures)
