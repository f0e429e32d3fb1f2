use Rattle.seats.proofs.Members.{shared}
use Rattle.seats.proofs.common.Goals as goal

pub returns : goal.returns
returns c = shared c.args.a c.args.b
