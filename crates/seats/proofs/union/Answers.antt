use Rattle.seats.proofs.Members.{joined}
use Rattle.seats.proofs.union.Goals as goal

pub returns : goal.returns
returns c = joined c.args.a c.args.b
