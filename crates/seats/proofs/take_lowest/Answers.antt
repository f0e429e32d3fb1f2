use Rattle.std.proofs.Common.{rules}
use Rattle.seats.proofs.Walks.{taken}
use Rattle.seats.proofs.take_lowest.Goals as goal

pub returns : goal.returns
returns c = taken c.args.left.now c.in_ok-seat.seat (search rules) c.in_ok-seat.ensures
