-- The first three tests are those of two different seats.
use Rattle.std.proofs.lemmas.Result.{err_from_is_err_and}
use Rattle.legs.proofs.Reasons.{seats_fault}
use Rattle.legs.proofs.making.lawful_leg.Goals as goal

pub returns-in_err-pair_given : goal.returns-in_err-pair_given
returns-in_err-pair_given c =
    let p = err_from_is_err_and c.from_residual.result c.from_residual.ensures.1 in
    let due = c.in_err-pair_given.ensures in
    rw (p.1, p.2) (seats_fault c.args.seats c.args.leg _ due.0 due.1)
