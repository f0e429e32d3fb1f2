use Rattle.seats.proofs.Members.{within_when}
use Rattle.seats.proofs.within.Goals as goal

pub returns : goal.returns
returns c = within_when c.args.a c.args.b _ c.without.ensures
