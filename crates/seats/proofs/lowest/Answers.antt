use Rattle.std.proofs.Common.{arith, rules}
use Rattle.seats.proofs.Walks.{lowest_is}
use Rattle.seats.proofs.lowest.Goals as goal

pub returns : goal.returns
returns c = lowest_is c.args.set (omega arith) (search rules)
