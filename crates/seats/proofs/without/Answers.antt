use Rattle.std.proofs.Common.{rules}
use Rattle.seats.proofs.Members.{removed}
use Rattle.seats.proofs.without.Goals as goal

pub returns : goal.returns
returns c = removed c.args.a c.args.b (search rules) (search rules)
